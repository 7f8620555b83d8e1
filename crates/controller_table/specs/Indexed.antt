-- When an index is that of the rows of a controller.
use Rattle.std.specs.Prelude.{◌≡◌, ℕ, List, Option, Some, None, slice_get}
use Rattle.std.specs.HashMap.{get}
use Rattle.controller_table.specs.Keys.{NoTwoShareKey}
use Rattle.controller_table.specs.OneRow.{HasKey, NoneHasKey}
use Rattle.controller_table.specs.contracts.index.KeyPartialEq.TheImpl.{ghosts}
use Rattle.controller_table.specs.declared.index.Key.{Key}
use Rattle.controller_table.specs.declared.index.Index.{Index}
use Rattle.controller_table.specs.declared.rows.Place.{Place}
use Rattle.controller_table.specs.declared.rows.Trigger.{Trigger}
use Rattle.controller_table.specs.declared.rows.Row.{Row}

-- At this place of the list there is a row with this place and trigger; or no row has them.
abbrev pub Finds : List Row → Place → Trigger → Option ℕ → Type 0
Finds rows at on None = NoneHasKey at on rows
Finds rows at on (Some i) = (row : Row) × (slice_get rows i ≡ Some row) × HasKey at on row

-- The index finds each key among these rows, of which no two share one.
pub record IsIndexOf (rows : List Row) (index : Index) : Type 0 where
  pub differ : NoTwoShareKey rows
  pub finds : (key : Key) → Finds rows key.at key.on (get ghosts.eq index.places key)

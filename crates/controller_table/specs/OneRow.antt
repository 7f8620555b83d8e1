-- The one row with a place and a trigger.
use Rattle.std.specs.Prelude.{◌≡◌, List, ◌∷◌, ◌++◌, Option, Some, None}
use Rattle.std.specs.List.{AllByRecursion}
use Rattle.controller_table.specs.declared.rows.Place.{Place}
use Rattle.controller_table.specs.declared.rows.Trigger.{Trigger}
use Rattle.controller_table.specs.declared.rows.Row.{Row}

-- the row has this place and this trigger
abbrev pub HasKey : Place → Trigger → Row → Type 0
HasKey at on row = (row.at ≡ at) × (row.on ≡ on)

-- no row of the list has this place and this trigger
abbrev pub NoneHasKey : Place → Trigger → List Row → Type 0
NoneHasKey at on rows = AllByRecursion (λ row. HasKey at on row → ⊥) rows

-- The answer is the one row with this place and this trigger; or no row has them.
abbrev pub IsOnlyRow : List Row → Place → Trigger → Option Row → Type 0
IsOnlyRow rows at on None = NoneHasKey at on rows
IsOnlyRow rows at on (Some row) =
    HasKey at on row × (before : List Row) × (after : List Row) × (rows ≡ before ++ row ∷ after)
    × NoneHasKey at on before × NoneHasKey at on after

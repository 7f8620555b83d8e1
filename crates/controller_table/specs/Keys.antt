-- Rows that differ in their place or their trigger.
use Rattle.std.specs.Prelude.{◌≡◌, ℕ, List, Some, slice_get}
use Rattle.controller_table.specs.declared.rows.Row.{Row}

-- No two rows at different places of the list have the same place and trigger.
abbrev pub NoTwoShareKey : List Row → Type 0
NoTwoShareKey rows = (i j : ℕ) (a b : Row)
    → slice_get rows i ≡ Some a → slice_get rows j ≡ Some b → a.at ≡ b.at → a.on ≡ b.on → i ≡ j

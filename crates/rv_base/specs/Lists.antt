-- Lists whose items each give something by what they are and where they stand.
use Rattle.std.specs.Prelude.{ℕ, ◌+◌, List, [], ◌∷◌, ◌++◌}

-- What each item of a list gives, in order, as one list. The first item stands at this place, and
-- each other one place further.
abbrev pub flat_from : {A B : Type 0} → (ℕ → A → List B) → ℕ → List A → List B
flat_from give place [] = []
flat_from give place (item ∷ items) = give place item ++ flat_from give (place + 1) items

-- The list of what each item gives. The first item stands at this place, and each other one place
-- further.
abbrev pub map_from : {A B : Type 0} → (ℕ → A → B) → ℕ → List A → List B
map_from give place [] = []
map_from give place (item ∷ items) = give place item ∷ map_from give (place + 1) items

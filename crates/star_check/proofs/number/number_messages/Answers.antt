-- A message writes no number.
use Rattle.std.proofs.Common.{◌≡◌, false, List, [], ◌∷◌, refl}
use Rattle.std.specs.List.{list_any}
use Rattle.star_check.proofs.number.number_messages.Goals as goal

none : {A : Type 0} (xs : List A) → list_any (λ _. false) xs ≡ false
none [] = refl
none (x ∷ xs) = none xs

pub numbered_items-requires-clause-fits : goal.numbered_items-requires-clause-fits
numbered_items-requires-clause-fits c = none c.items.result.now

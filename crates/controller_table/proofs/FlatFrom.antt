-- What is found among all that the items of a list give, where one item alone gives it.
use Rattle.std.proofs.Common.{◌≡◌, ◌≢◌, ℕ, zero, suc, ◌+◌, ◌≤◌, Bool, List, [], ◌∷◌, Option, Some}
use Rattle.std.proofs.Common.{None, slice_get, refl, arith}
use Rattle.std.specs.List.{find}
use Rattle.std.specs.Option.{option_or}
use Rattle.std.proofs.lemmas.List.Folds.{find-append}
use Rattle.rv_base.specs.Lists.{flat_from}

pub option_or-none : {X : Type 0} (o : Option X) → option_or o None ≡ o
option_or-none None = refl
option_or-none (Some x) = refl

module _ {A B : Type 0} (give : ℕ → A → List B) (test : B → Bool) where
  -- no item gives anything that passes
  pub find_flat-none : (from : ℕ) (items : List A)
      → ((i : ℕ) (item : A) → from ≤ i → find test (give i item) ≡ None)
      → find test (flat_from give from items) ≡ None
  find_flat-none from [] none = refl
  find_flat-none from (item ∷ items) none =
      let here = none from item (omega arith) in
      let rest = find_flat-none (from + 1) items (λ i x behind. none i x (omega arith)) in
      rw (find-append test (give from item) (flat_from give (from + 1) items), here, rest) refl

  -- the item at this place alone gives something that passes
  pub find_flat : (place : ℕ) → ((i : ℕ) (item : A) → i ≢ place → find test (give i item) ≡ None)
      → (from i : ℕ) (items : List A) (item : A) → from + i ≡ place → slice_get items i ≡ Some item
      → find test (flat_from give from items) ≡ find test (give place item)
  find_flat place others from i [] item e there = absurd (cc)
  find_flat place others from zero (x ∷ items) item e there =
      let first : x ≡ item = cc in
      let at : from ≡ place = omega arith in
      let rest = find_flat-none (from + 1) items (λ j y behind. others j y (omega arith)) in
      rw (find-append test (give from x) (flat_from give (from + 1) items), rest)
      (rw (option_or-none (find test (give from x)), first, at) refl)
  find_flat place others from (suc i) (x ∷ items) item e there =
      let here = others from x (omega arith) in
      rw (find-append test (give from x) (flat_from give (from + 1) items), here)
      (find_flat place others (from + 1) i items item (omega arith) there)

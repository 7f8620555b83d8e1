-- That no guard in front of one passes a test is computed; and the first guard that passes has none
-- in front of it.
use Rattle.std.proofs.Common.{◌≡◌, ℕ, zero, suc, ◌+◌, ◌<◌, Bool, true, false, not, ◌||◌, List, []}
use Rattle.std.proofs.Common.{◌∷◌, Some, slice_get, take, refl, sym, ap, ◌∙◌, arith}
use Rattle.std.specs.Option.{option_map, option_and_then}
use Rattle.std.specs.List.{list_any, position_from}
use Rattle.std.proofs.lemmas.Option.{same_Some}
use Rattle.rv_base.proofs.Lists.{some_and_then}
use Rattle.proto_model.specs.declared.numbered.Rule.{Rule}
use Rattle.async_shape.specs.Guards.{Chosen, chosen_at, first_that}
use Rattle.rv_base.proofs.Lists.{some_map}
use Rattle.both_ways.specs.Carried.{NoneBefore, none_before}

-- neither holds
neither : (a b : Bool) → not (a || b) ≡ true → (a ≡ false) × (not b ≡ true)
neither true b e = absurd (cc)
neither false b e = (refl, e)

from_neither : (a b : Bool) → a ≡ false → not b ≡ true → not (a || b) ≡ true
from_neither true b e f = absurd (cc)
from_neither false b e f = f

module _ (test : Rule → Bool) where
  -- what is computed is so
  pub none_before-is : (rules : List Rule) (g : ℕ) → none_before test rules g ≡ true
      → NoneBefore test rules g
  none_before-is [] g e i rule before at = absurd (cc)
  none_before-is (first ∷ rules) zero e i rule before at = absurd (omega (arith, before))
  none_before-is (first ∷ rules) (suc g) e zero rule before at =
      let both = neither (test first) (list_any test (take g rules)) e in
      ap test (sym (same_Some first rule at)) ∙ both.0
  none_before-is (first ∷ rules) (suc g) e (suc i) rule before at =
      let both = neither (test first) (list_any test (take g rules)) e in
      none_before-is rules g both.1 i rule (omega (arith, before)) at

  -- what is so is computed
  pub NoneBefore-is : (rules : List Rule) (g : ℕ) → NoneBefore test rules g
      → none_before test rules g ≡ true
  NoneBefore-is [] zero none = refl
  NoneBefore-is [] (suc g) none = refl
  NoneBefore-is (first ∷ rules) zero none = refl
  NoneBefore-is (first ∷ rules) (suc g) none =
      let before : zero < suc g = omega arith in
      from_neither (test first) (list_any test (take g rules)) (none zero first before refl)
      (NoneBefore-is rules g
      (λ i rule less at. none (suc i) rule (omega (arith, less)) at))

  -- the first place that passes has none in front of it that passes
  position-first : (rules : List Rule) (from place : ℕ)
      → position_from test from rules ≡ Some place
      → (g : ℕ) × (place ≡ from + g) × NoneBefore test rules g
  position-first [] from place found = absurd (cc)
  position-first (first ∷ rules) from place found =
      by (test first) refl (position-first rules (from + 1) place)
    where
      by : (passes : Bool) → test first ≡ passes
          → (position_from test (from + 1) rules ≡ Some place
          → (g : ℕ) × (place ≡ from + 1 + g) × NoneBefore test rules g)
          → (g : ℕ) × (place ≡ from + g) × NoneBefore test (first ∷ rules) g
      by true is later =
          let at : from ≡ place = same_Some from place (rw is at found) in
          (zero, omega (arith, at), λ i rule before there. absurd (omega (arith, before)))
      by false is later =
          let more = later (rw is at found) in
          let at = more.1 in
          (suc more.0, omega (arith, at), in_front more.0 is more.2)
        where
          in_front : (g : ℕ) → test first ≡ false → NoneBefore test rules g
              → NoneBefore test (first ∷ rules) (suc g)
          in_front g is none zero rule before there =
              ap test (sym (same_Some first rule there)) ∙ is
          in_front g is none (suc i) rule before there =
              none i rule (omega (arith, before)) there

  -- no guard in front of the first that passes does
  pub first_that-first : (rules : List Rule) (chosen : Chosen)
      → first_that test rules ≡ Some chosen → NoneBefore test rules chosen.number
  first_that-first rules chosen found =
      let by = some_and_then (chosen_at rules) (position_from test 0 rules) chosen found in
      let give : Rule → Chosen = λ rule. record { number = by.0; rule = rule } in
      let of = some_map give (slice_get rules by.0) chosen by.2 in
      let first = position-first rules 0 by.0 by.1 in
      let number : by.0 ≡ chosen.number = ap (λ (x : Chosen). x.number) of.2 in
      let place = first.1 in
      λ i rule before there. first.2 i rule (omega (arith, before, place, number)) there

  -- where a guard passes and none in front of it does, it is the first that passes
  pub first_that-is : (rules : List Rule) (g : ℕ) (rule : Rule) → slice_get rules g ≡ Some rule
      → test rule ≡ true → NoneBefore test rules g
      → first_that test rules ≡ Some (record { number = g; rule = rule })
  first_that-is rules g rule there passes none =
      let give : Rule → Chosen = λ r. record { number = g; rule = r } in
      let at : 0 + g ≡ g = omega arith in
      ap (option_and_then (chosen_at rules))
      (position-is rules 0 g rule there passes none ∙ ap (λ (i : ℕ). Some i) at)
      ∙ ap (option_map give) there
    where
      position-is : (rules : List Rule) (from g : ℕ) (rule : Rule) → slice_get rules g ≡ Some rule
          → test rule ≡ true → NoneBefore test rules g
          → position_from test from rules ≡ Some (from + g)
      position-is [] from g rule there passes none = absurd (cc)
      position-is (first ∷ rules) from zero rule there passes none =
          let same : first ≡ rule = same_Some first rule there in
          let is : test first ≡ true = ap test same ∙ passes in
          let at : from + zero ≡ from = omega arith in
          rw (is, at) refl
      position-is (first ∷ rules) from (suc g) rule there passes none =
          let before : zero < suc g = omega arith in
          let is : test first ≡ false = none zero first before refl in
          let at : from + suc g ≡ from + 1 + g = omega arith in
          rw (is, at)
          (position-is rules (from + 1) g rule there passes
          (λ i r less there. none (suc i) r (omega (arith, less)) there))

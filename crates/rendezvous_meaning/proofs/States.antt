-- States in which remotes stand: where one stands, where two do, and how many.
use Rattle.std.proofs.Common.{◌≡◌, ◌≢◌, ℕ, zero, suc, ◌+◌, ◌≤◌, List, [], ◌∷◌, Bool, true}
use Rattle.std.proofs.Common.{false, cond, Some, slice_get, refl, sym, ap, subst, arith}
use Rattle.std.proofs.lemmas.Bool.{eq-eqb, eqb-true}
use Rattle.std.proofs.lemmas.List.Sums.{sum_by-cons}
use Rattle.std.proofs.lemmas.Option.{same_Some}
use Rattle.std.specs.Prelude.{◌==◌}
use Rattle.rendezvous_meaning.specs.Claims.{count_at}

-- the state is x
abbrev pub is : ℕ → ℕ → Bool
is x state = state == x

-- a remote stands in x
abbrev pub Stands : ℕ → List ℕ → Type 0
Stands x states = (i : ℕ) × (slice_get states i ≡ Some x)

-- two different remotes stand the one in x and the other in y
abbrev pub StandBoth : ℕ → ℕ → List ℕ → Type 0
StandBoth x y states =
    (i : ℕ) × (j : ℕ) × (i ≢ j) × (slice_get states i ≡ Some x) × (slice_get states j ≡ Some y)

count-cons : (x state : ℕ) (states : List ℕ)
    → count_at x (state ∷ states) ≡ cond (is x state) 1 0 + count_at x states
count-cons x state states = sum_by-cons (λ s. cond (is x s) 1 0) state states

count-here : (x state : ℕ) (states : List ℕ) → is x state ≡ true
    → count_at x (state ∷ states) ≡ 1 + count_at x states
count-here x state states here =
    let one : ◌≡◌ {A = ℕ} (cond (is x state) 1 0) 1 = ap (λ b. cond b 1 0) here in
    omega (arith, count-cons x state states, one)

count-not : (x state : ℕ) (states : List ℕ) → is x state ≡ false
    → count_at x (state ∷ states) ≡ count_at x states
count-not x state states away =
    let none : ◌≡◌ {A = ℕ} (cond (is x state) 1 0) 0 = ap (λ b. cond b 1 0) away in
    omega (arith, count-cons x state states, none)

here-is : (x state : ℕ) → Some state ≡ Some x → is x state ≡ true
here-is x state here = eq-eqb state x (same_Some state x here)

-- ---- from where remotes stand

more-than : (b : Bool) (n : ℕ) → n ≤ cond b 1 0 + n
more-than b n = omega arith

count-later : (x state : ℕ) (states : List ℕ) → count_at x states ≤ count_at x (state ∷ states)
count-later x state states =
    subst (λ n. count_at x states ≤ n) (sym (count-cons x state states))
    (more-than (is x state) (count_at x states))

pub one-from : (x : ℕ) (states : List ℕ) (i : ℕ) → slice_get states i ≡ Some x
    → 1 ≤ count_at x states
one-from x [] i there = absurd (cc)
one-from x (state ∷ states) zero there =
    omega (arith, count-here x state states (here-is x state there))
one-from x (state ∷ states) (suc i) there =
    omega (arith, one-from x states i there, count-later x state states)

pub two-from : (x : ℕ) (states : List ℕ) (i j : ℕ) → i ≢ j → slice_get states i ≡ Some x
    → slice_get states j ≡ Some x → 2 ≤ count_at x states
two-from x [] i j differ one other = absurd (cc)
two-from x (state ∷ states) zero zero differ one other = absurd (differ refl)
two-from x (state ∷ states) zero (suc j) differ one other =
    omega (arith, count-here x state states (here-is x state one), one-from x states j other)
two-from x (state ∷ states) (suc i) zero differ one other =
    omega (arith, count-here x state states (here-is x state other), one-from x states i one)
two-from x (state ∷ states) (suc i) (suc j) differ one other =
    let later = two-from x states i j (λ same. differ (ap suc same)) one other in
    omega (arith, later, count-later x state states)

-- ---- to where remotes stand

at-front : (x state : ℕ) (states : List ℕ) → is x state ≡ true → Stands x (state ∷ states)
at-front x state states here = (0, ap Some (eqb-true state x here))

behind : (x state : ℕ) (states : List ℕ) → Stands x states → Stands x (state ∷ states)
behind x state states (i, there) = (suc i, there)

pub from-one : (x : ℕ) (states : List ℕ) → 1 ≤ count_at x states → Stands x states
from-one x [] some = absurd (omega (arith, some))
from-one x (state ∷ states) some = by (is x state) refl some (from-one x states)
  where
    by : (b : Bool) → is x state ≡ b → 1 ≤ count_at x (state ∷ states)
        → (1 ≤ count_at x states → Stands x states) → Stands x (state ∷ states)
    by true here some later = at-front x state states here
    by false away some later =
        behind x state states (later (subst (λ n. 1 ≤ n) (count-not x state states away) some))

first-and : (x state : ℕ) (states : List ℕ) → is x state ≡ true → Stands x states
    → StandBoth x x (state ∷ states)
first-and x state states here (j, there) =
    (0, suc j, λ same. omega (arith, same), ap Some (eqb-true state x here), there)

both-behind : (x state : ℕ) (states : List ℕ) → StandBoth x x states
    → StandBoth x x (state ∷ states)
both-behind x state states (i, j, differ, one, other) =
    (suc i, suc j, λ same. differ (omega (arith, same)), one, other)

pub from-two : (x : ℕ) (states : List ℕ) → 2 ≤ count_at x states → StandBoth x x states
from-two x [] some = absurd (omega (arith, some))
from-two x (state ∷ states) some = by (is x state) refl some (from-two x states)
  where
    by : (b : Bool) → is x state ≡ b → 2 ≤ count_at x (state ∷ states)
        → (2 ≤ count_at x states → StandBoth x x states) → StandBoth x x (state ∷ states)
    by true here some later =
        first-and x state states here
        (from-one x states (omega (arith, some, count-here x state states here)))
    by false away some later =
        both-behind x state states
        (later (subst (λ n. 2 ≤ n) (count-not x state states away) some))

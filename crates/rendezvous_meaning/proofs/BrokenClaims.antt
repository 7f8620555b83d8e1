-- A claim holds, as it is computed, where what it says of the remotes is so; and the claim that is
-- told as broken is the first that doesn't.
use Rattle.std.proofs.Common.{◌≡◌, ◌≢◌, ℕ, zero, suc, ◌+◌, ◌≤◌, List, [], ◌∷◌, Bool, true}
use Rattle.std.proofs.Common.{false, not, cond, Some, None, slice_get, refl, sym, ◌∙◌, ap}
use Rattle.std.proofs.Common.{subst, arith, inl, inr}
use Rattle.std.proofs.lemmas.Bool.{cases_lt, eq-eqb, eqb-true}
use Rattle.std.proofs.lemmas.Grind.{common_steps}
use Rattle.std.proofs.lemmas.Iterator.Adapters.{position_from-zero}
use Rattle.std.proofs.lemmas.Option.{same_Some}
use Rattle.std.specs.List.{position_from}
use Rattle.std.specs.Prelude.{◌==◌, ◌||◌, nat_le, if◌then◌else◌}
use Rattle.std.specs.declared.option.Option.{Option}
use Rattle.proto_model.specs.declared.numbered.NumberedClaim.{NumberedClaim}
use Rattle.proto_model.specs.declared.numbered.NumberedClaim.TheVariants as claim
use Rattle.rendezvous_meaning.specs.Claims.{count_in, count_at, holds, broken, Holds}
use Rattle.rendezvous_meaning.specs.Claims.{AllHold, IsFirstBroken}
use Rattle.rendezvous_meaning.proofs.States.{one-from, two-from, from-one, from-two}

le-true : (m n : ℕ) → m ≤ n → nat_le m n ≡ true
le-true m n few = grind (arith, common_steps)

true-le : (m n : ℕ) → nat_le m n ≡ true → m ≤ n
true-le m n few = grind (arith, common_steps)

-- ---- two states that are apart

-- as it is computed, by whether x is y
abbrev apart_by : Bool → ℕ → ℕ → List ℕ → Bool
apart_by same x y states =
    if same then nat_le (count_at x states) 1
    else (count_at x states == 0 || count_at y states == 0)

some-from : (n : ℕ) → (n == 0) ≡ false → 1 ≤ n
some-from n e = elim (cases_lt 0 n) [
  | inl some ↦ omega (arith, some)
  | inr few ↦
      let none : n ≡ 0 = omega (arith, few) in
      let told = eq-eqb n 0 none in
      absurd (cc)
]

-- where both are some, neither is none
some-both : (m n : ℕ) (b c : Bool) → (m == 0) ≡ b → (n == 0) ≡ c → 1 ≤ m → 1 ≤ n
    → (b || c) ≡ true → ⊥
some-both m n true c e f one other none =
    let is : m ≡ 0 = eqb-true m 0 e in
    omega (arith, is, one)
some-both m n false true e f one other none =
    let is : n ≡ 0 = eqb-true n 0 f in
    omega (arith, is, other)
some-both m n false false e f one other none = absurd (cc)

apart-holds : (same : Bool) (x y : ℕ) (states : List ℕ) → (x == y) ≡ same
    → apart_by same x y states ≡ true → Holds (claim.Apart x y) states
apart-holds true x y states e apart i j differ one other =
    let two = two-from x states i j differ one (other ∙ ap Some (sym (eqb-true x y e))) in
    let few = true-le (count_at x states) 1 apart in
    omega (arith, two, few)
apart-holds false x y states e apart i j differ one other =
    some-both (count_at x states) (count_at y states) (count_at x states == 0)
    (count_at y states == 0) refl refl (one-from x states i one) (one-from y states j other) apart

differ-by : (x y : ℕ) (states : List ℕ) (i j : ℕ) → (x == y) ≡ false → slice_get states i ≡ Some x
    → slice_get states j ≡ Some y → i ≢ j
differ-by x y states i j e one other same =
    let together : Some x ≡ Some y = sym one ∙ (ap (slice_get states) same ∙ other) in
    let equal = eq-eqb x y (same_Some x y together) in
    absurd (cc)

none-of : (x y : ℕ) (states : List ℕ) (b c : Bool) → (count_at x states == 0) ≡ b
    → (count_at y states == 0) ≡ c → (x == y) ≡ false → Holds (claim.Apart x y) states
    → (b || c) ≡ true
none-of x y states true c e f differ apart = refl
none-of x y states false true e f differ apart = refl
none-of x y states false false e f differ apart =
    let one = from-one x states (some-from (count_at x states) e) in
    let other = from-one y states (some-from (count_at y states) f) in
    absurd (apart one.0 other.0 (differ-by x y states one.0 other.0 differ one.1 other.1) one.1
    other.1)

holds-apart : (same : Bool) (x y : ℕ) (states : List ℕ) → (x == y) ≡ same
    → Holds (claim.Apart x y) states → apart_by same x y states ≡ true
holds-apart true x y states e apart = elim (cases_lt 1 (count_at x states)) [
  | inl many ↦
      let two = from-two x states (omega (arith, many)) in
      absurd (apart two.0 two.1 two.2 two.3 (two.4 ∙ ap Some (eqb-true x y e)))
  | inr few ↦ le-true (count_at x states) 1 (omega (arith, few))
]
holds-apart false x y states e apart =
    none-of x y states (count_at x states == 0) (count_at y states == 0) refl refl e apart

-- ---- one claim

pub holds-means : (c : NumberedClaim) (states : List ℕ) → holds c states ≡ true → Holds c states
holds-means (claim.AtMost most set) states computed = true-le (count_in set states) most computed
holds-means (claim.Apart x y) states computed = apart-holds (x == y) x y states refl computed

pub means-holds : (c : NumberedClaim) (states : List ℕ) → Holds c states → holds c states ≡ true
means-holds (claim.AtMost most set) states meant = le-true (count_in set states) most meant
means-holds (claim.Apart x y) states meant = holds-apart (x == y) x y states refl meant

fails-means : (c : NumberedClaim) (states : List ℕ) → holds c states ≡ false → Holds c states → ⊥
fails-means c states computed meant = let other = means-holds c states meant in absurd (cc)

-- ---- the first claim that is broken

abbrev broken_from : ℕ → List NumberedClaim → List ℕ → Option ℕ
broken_from first claims states = position_from (λ c. not (holds c states)) first claims

-- the number of the first broken claim, where the claims count from this number
pub record Found (first : ℕ) (claims : List NumberedClaim) (states : List ℕ) (number : ℕ) : Type 0
  where
    pub place : ℕ
    pub number_is : number ≡ first + place
    pub found : IsFirstBroken claims states place

none-means : (first : ℕ) (claims : List NumberedClaim) (states : List ℕ)
    → broken_from first claims states ≡ None → AllHold claims states
none-means first [] states none = tt
none-means first (c ∷ claims) states none =
    by (holds c states) refl none (none-means (first + 1) claims states)
  where
    by : (b : Bool) → holds c states ≡ b
        → cond (not b) (Some first) (broken_from (first + 1) claims states) ≡ None
        → (broken_from (first + 1) claims states ≡ None → AllHold claims states)
        → AllHold (c ∷ claims) states
    by true is none later = (holds-means c states is, later none)
    by false is none later = absurd (cc)

means-none : (first : ℕ) (claims : List NumberedClaim) (states : List ℕ) → AllHold claims states
    → broken_from first claims states ≡ None
means-none first [] states all = refl
means-none first (c ∷ claims) states all =
    rw (means-holds c states all.0) (means-none (first + 1) claims states all.1)

first-means : (first : ℕ) (claims : List NumberedClaim) (states : List ℕ) (number : ℕ)
    → broken_from first claims states ≡ Some number → Found first claims states number
first-means first [] states number told = absurd (cc)
first-means first (c ∷ claims) states number told =
    by (holds c states) refl told (first-means (first + 1) claims states number)
  where
    by : (b : Bool) → holds c states ≡ b
        → cond (not b) (Some first) (broken_from (first + 1) claims states) ≡ Some number
        → (broken_from (first + 1) claims states ≡ Some number
        → Found (first + 1) claims states number)
        → Found first (c ∷ claims) states number
    by true is told later =
        let more = later told in
        record {
          place = suc more.place;
          number_is = omega (arith, more.number_is);
          found = record {
            broken_claim = more.found.broken_claim;
            there = more.found.there;
            fails = more.found.fails;
            before = (holds-means c states is, more.found.before);
          };
        }
    by false is told later =
        let same = same_Some first number told in
        record {
          place = 0;
          number_is = omega (arith, same);
          found = record {
            broken_claim = c;
            there = refl;
            fails = fails-means c states is;
            before = tt;
          };
        }

fails-false : (c : NumberedClaim) (states : List ℕ) → (Holds c states → ⊥) → holds c states ≡ false
fails-false c states fails = by (holds c states) refl
  where
    by : (b : Bool) → holds c states ≡ b → b ≡ false
    by true is = absurd (fails (holds-means c states is))
    by false is = refl

means-first : (first : ℕ) (claims : List NumberedClaim) (states : List ℕ) (place : ℕ)
    → IsFirstBroken claims states place → broken_from first claims states ≡ Some (first + place)
means-first first [] states place h = let there = h.there in absurd (cc)
means-first first (c ∷ claims) states zero h =
    let same = same_Some c h.broken_claim h.there in
    let fails : holds c states ≡ false =
    fails-false c states (subst (λ d. Holds d states → ⊥) (sym same) h.fails) in
    let at : first ≡ first + 0 = omega arith in
    rw fails (ap Some at)
means-first first (c ∷ claims) states (suc place) h =
    let at : first + 1 + place ≡ first + suc place = omega arith in
    rw (means-holds c states h.before.0)
    (means-first (first + 1) claims states place (record {
      broken_claim = h.broken_claim;
      there = h.there;
      fails = h.fails;
      before = h.before.1;
    }) ∙ ap Some at)

from-start : (claims : List NumberedClaim) (states : List ℕ)
    → broken claims states ≡ broken_from 0 claims states
from-start claims states = position_from-zero (λ c. not (holds c states)) claims

pub broken-none : (claims : List NumberedClaim) (states : List ℕ) → broken claims states ≡ None
    → AllHold claims states
broken-none claims states none =
    none-means 0 claims states (sym (from-start claims states) ∙ none)

pub none-broken : (claims : List NumberedClaim) (states : List ℕ) → AllHold claims states
    → broken claims states ≡ None
none-broken claims states all = from-start claims states ∙ means-none 0 claims states all

pub broken-first : (claims : List NumberedClaim) (states : List ℕ) (number : ℕ)
    → broken claims states ≡ Some number → IsFirstBroken claims states number
broken-first claims states number told =
    let more = first-means 0 claims states number (sym (from-start claims states) ∙ told) in
    let same : more.place ≡ number = omega (arith, more.number_is) in
    subst (IsFirstBroken claims states) same more.found

pub first-broken : (claims : List NumberedClaim) (states : List ℕ) (number : ℕ)
    → IsFirstBroken claims states number → broken claims states ≡ Some number
first-broken claims states number h =
    let at : 0 + number ≡ number = omega arith in
    from-start claims states ∙ (means-first 0 claims states number h ∙ ap Some at)

-- Whether some remote below n is a target, without trying each.
use Rattle.std.proofs.Common.{◌≡◌, ℕ, zero, suc, ◌+◌, ◌^◌, ◌<◌, ◌≤◌, Bool, true, false, nat_lt}
use Rattle.std.proofs.Common.{inl, inr, refl, sym, ap, ◌∙◌, arith, w64}
use Rattle.std.specs.Int.{trailing_zeros}
use Rattle.std.specs.List.{list_any, range_with_len}
use Rattle.std.proofs.lemmas.Bool.{cases_eq, lt-ltb, le-ltb, eq-eqb, ne_eqb}
use Rattle.std.proofs.lemmas.Nat.Bits.{bit_at-zero, bit_at-trailing_zeros}
use Rattle.proto_model.specs.NumberSets.{has_number}
use Rattle.proto_model.specs.Values.{is_node, is_set_with}
use Rattle.proto_model.specs.declared.numbered.Value.{Value}
use Rattle.proto_model.specs.declared.numbered.Value.TheVariants as value

-- where no number passes, none of a range does
pub range-none : (test : ℕ → Bool) (a n : ℕ) → ((i : ℕ) → test i ≡ false)
    → list_any test (range_with_len a n) ≡ false
range-none test a zero fails = refl
range-none test a (suc n) fails = rw (fails a, range-none test (a + 1) n fails) refl

-- Where t is the first number from a on that passes, one of the n numbers from a on passes exactly
-- where t is among them.
range-first : (test : ℕ → Bool) (t a n : ℕ) → test t ≡ true
    → ((i : ℕ) → i < t → test i ≡ false) → a ≤ t
    → list_any test (range_with_len a n) ≡ nat_lt t (a + n)
range-first test t a zero passes fails from = sym (le-ltb t (a + 0) (omega arith))
range-first test t a (suc n) passes fails from =
    elim (cases_eq a t) [
      | inl same ↦
          let first : test a ≡ true = ap test same ∙ passes in
          rw first (sym (lt-ltb t (a + suc n) (omega arith)))
      | inr other ↦
          let more : a + 1 + n ≡ a + suc n = omega arith in
          rw (fails a (omega arith))
          (range-first test t (a + 1) n passes fails (omega arith) ∙ ap (nat_lt t) more)
    ]

-- where t is the first number that passes, some number below n does exactly where t is below n
pub below-first : (test : ℕ → Bool) (t n : ℕ) → test t ≡ true
    → ((i : ℕ) → i < t → test i ≡ false) → list_any test (range_with_len 0 n) ≡ nat_lt t n
below-first test t n passes fails =
    let all : 0 + n ≡ n = omega arith in
    range-first test t 0 n passes fails (omega arith) ∙ ap (nat_lt t) all

-- the empty set has no number below n
pub below-empty : (n : ℕ) → list_any (has_number 0) (range_with_len 0 n) ≡ false
below-empty n = range-none (has_number 0) 0 n (λ i. rw (bit_at-zero i) refl)

-- a set that isn't empty has a number below n exactly where its lowest one is below n
pub below-lowest : (set n : ℕ) → 0 < set → set < 2 ^ 64
    → list_any (has_number set) (range_with_len 0 n) ≡ nat_lt (trailing_zeros w64 set) n
below-lowest set n some small =
    let lowest = bit_at-trailing_zeros w64 set some small in
    below-first (has_number set) (trailing_zeros w64 set) n (rw lowest.1 refl)
    (λ i below. rw (lowest.2 i below) refl)

-- a value that isn't a remote is none of those below n
pub below-no_node : (v : Value) (n : ℕ) → ((i : ℕ) → v ≡ value.Node i → ⊥)
    → list_any (is_node v) (range_with_len 0 n) ≡ false
below-no_node value.Unit n other = range-none (is_node value.Unit) 0 n (λ i. refl)
below-no_node (value.Int k) n other = range-none (is_node (value.Int k)) 0 n (λ i. refl)
below-no_node value.Nowhere n other = range-none (is_node value.Nowhere) 0 n (λ i. refl)
below-no_node (value.Node i) n other = absurd (other i refl)
below-no_node (value.Set s) n other = range-none (is_node (value.Set s)) 0 n (λ i. refl)

-- a value that isn't a set has none of the remotes below n
pub below-no_set : (v : Value) (n : ℕ) → ((s : ℕ) → v ≡ value.Set s → ⊥)
    → list_any (is_set_with v) (range_with_len 0 n) ≡ false
below-no_set value.Unit n other = range-none (is_set_with value.Unit) 0 n (λ i. refl)
below-no_set (value.Int k) n other = range-none (is_set_with (value.Int k)) 0 n (λ i. refl)
below-no_set value.Nowhere n other = range-none (is_set_with value.Nowhere) 0 n (λ i. refl)
below-no_set (value.Node i) n other = range-none (is_set_with (value.Node i)) 0 n (λ i. refl)
below-no_set (value.Set s) n other = absurd (other s refl)

-- a remote is among those below n exactly where its number is
pub below-node : (j n : ℕ) → list_any (is_node (value.Node j)) (range_with_len 0 n) ≡ nat_lt j n
below-node j n =
    below-first (is_node (value.Node j)) j n (eq-eqb j j refl) (λ i below. ne_eqb j i (omega arith))

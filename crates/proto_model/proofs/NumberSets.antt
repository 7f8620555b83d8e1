-- What is in a set of remotes after one was added or removed.
use Rattle.std.proofs.Common.{◌≡◌, ℕ, ◌+◌, ◌*◌, ◌-◌, ◌/◌, ◌%◌, ◌^◌, ◌<◌, max, Bool}
use Rattle.std.proofs.Common.{true, false, not, ◌&&◌, ◌||◌, ◌==◌, cond, bit_and, bit_or}
use Rattle.std.proofs.Common.{inl, inr, refl, sym, ap, ◌∙◌, arith}
use Rattle.std.specs.Int.{bit_at}
use Rattle.std.proofs.lemmas.Nat.{or_disjoint, pow_pos}
use Rattle.std.proofs.lemmas.Nat.Bits.{bit_at_or, and_pow, bit_at-pow_same, bit_at-pow_other}
use Rattle.std.proofs.lemmas.Nat.Bits.{bit_at-lt}
use Rattle.std.proofs.lemmas.Bool.{cases_eq, eq-eqb, ne_eqb, eqb-true, lt-ltb}
use Rattle.std.proofs.Math.Nat.{add-div_right, zero-mul}
use Rattle.proto_model.specs.NumberSets.{has_number, with_number, without_number}
use Rattle.proto_model.proofs.NumberBits.{pow-le-set}

-- ---- one more

has_number-or : (set j i : ℕ) → has_number (bit_or set (2 ^ j)) i ≡ ((i == j) || has_number set i)
has_number-or set j i =
    elim (cases_eq i j) [
      | inl same ↦
          let new : bit_at (2 ^ j) i ≡ 1 = ap (bit_at (2 ^ j)) same ∙ bit_at-pow_same j in
          let low = bit_at-lt set i in
          let all : max (bit_at set i) 1 ≡ 1 = omega arith in
          rw (bit_at_or set (2 ^ j) i, new, all, eq-eqb i j same) refl
      | inr other ↦
          let new : bit_at (2 ^ j) i ≡ 0 = bit_at-pow_other j i other in
          let all : max (bit_at set i) 0 ≡ bit_at set i = omega arith in
          rw (bit_at_or set (2 ^ j) i, new, all, ne_eqb i j other) refl
    ]

pub has_number-with : (set j i : ℕ) → j < 64
    → has_number (with_number set j) i ≡ ((i == j) || has_number set i)
has_number-with set j i small = rw (lt-ltb j 64 small) (has_number-or set j i)

-- ---- one less

-- The set is its rest and the bit of the remote, which the rest doesn't have.
rest-has_not : (set j : ℕ) → has_number set j ≡ true → bit_at (set - 2 ^ j) j ≡ 0
rest-has_not set j has =
    let fits = pow-le-set set j has in
    let back : set - 2 ^ j + 2 ^ j ≡ set = omega arith in
    let more : (set - 2 ^ j + 2 ^ j) / 2 ^ j ≡ (set - 2 ^ j) / 2 ^ j + 1 =
    add-div_right (set - 2 ^ j) (pow_pos j) in
    let quotient : set / 2 ^ j ≡ (set - 2 ^ j) / 2 ^ j + 1 =
    ap (λ (n : ℕ). n / 2 ^ j) (sym back) ∙ more in
    let odd : set / 2 ^ j % 2 ≡ 1 = eqb-true (bit_at set j) 1 has in
    omega (arith, quotient, odd)

rest-or : (set j : ℕ) → has_number set j ≡ true → bit_or (set - 2 ^ j) (2 ^ j) ≡ set
rest-or set j has =
    let fits = pow-le-set set j has in
    let none : bit_and (set - 2 ^ j) (2 ^ j) ≡ 0 =
    and_pow (set - 2 ^ j) j ∙ ap (λ (bit : ℕ). bit * 2 ^ j) (rest-has_not set j has)
    ∙ zero-mul (2 ^ j) in
    let back : set - 2 ^ j + 2 ^ j ≡ set = omega arith in
    or_disjoint (set - 2 ^ j) (2 ^ j) none ∙ back

has_number-rest : (set j i : ℕ) → has_number set j ≡ true
    → has_number (set - 2 ^ j) i ≡ (not (i == j) && has_number set i)
has_number-rest set j i has =
    elim (cases_eq i j) [
      | inl same ↦
          let none : bit_at (set - 2 ^ j) i ≡ 0 =
          ap (bit_at (set - 2 ^ j)) same ∙ rest-has_not set j has in
          rw (none, eq-eqb i j same) refl
      | inr other ↦
          let all : has_number set i ≡ ((i == j) || has_number (set - 2 ^ j) i) =
          ap (λ (n : ℕ). has_number n i) (sym (rest-or set j has))
          ∙ has_number-or (set - 2 ^ j) j i in
          rw (all, ne_eqb i j other) refl
    ]

kept : (set j i : ℕ) → has_number set j ≡ false
    → has_number set i ≡ (not (i == j) && has_number set i)
kept set j i absent =
    elim (cases_eq i j) [
      | inl same ↦ rw (same, absent, eq-eqb j j refl) refl
      | inr other ↦ rw (ne_eqb i j other) refl
    ]

pub has_number-without : (set j i : ℕ)
    → has_number (without_number set j) i ≡ (not (i == j) && has_number set i)
has_number-without set j i = by (has_number set j) refl
  where
    by : (b : Bool) → has_number set j ≡ b
        → has_number (cond b (set - 2 ^ j) set) i ≡ (not (i == j) && has_number set i)
    by true has = has_number-rest set j i has
    by false absent = kept set j i absent

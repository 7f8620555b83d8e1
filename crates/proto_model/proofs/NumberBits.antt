-- A set of remotes below n is a number below 2 ^ n, and has exactly the remotes that it was made
-- of.
use Rattle.std.proofs.Common.{◌≡◌, ◌≢◌, ℕ, zero, suc, ◌+◌, ◌*◌, ◌%◌, ◌^◌, ◌<◌, ◌≤◌, max, Bool, true}
use Rattle.std.proofs.Common.{false, ◌&&◌, nat_lt, cond, bit_and, bit_or, inl, inr, lit<, refl, sym}
use Rattle.std.proofs.Common.{ap, ◌∙◌, ◌==◌, arith, add-one}
use Rattle.std.specs.Int.{bit_at}
use Rattle.std.proofs.lemmas.Nat.{pow_below, or_disjoint}
use Rattle.std.proofs.lemmas.Nat.Bits.{bit_at_above, bit_at_or, and_pow, bit_at-pow_same}
use Rattle.std.proofs.lemmas.Nat.Bits.{bit_at-pow_other, bit_at-lt, same_from_bits}
use Rattle.std.proofs.lemmas.Bool.{cases_lt, cases_eq, false≢true, cond_both, cond-true, cond-false}
use Rattle.std.proofs.lemmas.Bool.{lt-ltb, le-ltb, and_from, and_left, and_right, eqb-true}
use Rattle.std.proofs.lemmas.Bool.{eqb-false}
use Rattle.std.proofs.Math.Nat.{pow-succ', pow-le-pow_right, mod-eq_of_lt, one-mul, zero-mul}
use Rattle.proto_model.specs.NumberSets.{has_number, numbers_below}

-- a set below 2 ^ n has no remote from n on
pub has_number-above : (set n j : ℕ) → set < 2 ^ n → n ≤ j → has_number set j ≡ false
has_number-above set n j small above = rw (bit_at_above set n j small above) refl

-- a remote in a set below 2 ^ n is below n
pub has_number-below : (set n j : ℕ) → set < 2 ^ n → has_number set j ≡ true → j < n
has_number-below set n j small has =
    elim (cases_lt j n) [
      | inl below ↦ below
      | inr above ↦ absurd
          (false≢true (sym (has_number-above set n j small above) ∙ has))
    ]

-- the bit of a remote is part of a set that has it
pub pow-le-set : (set j : ℕ) → has_number set j ≡ true → 2 ^ j ≤ set
pow-le-set set j has =
    elim (cases_lt set (2 ^ j)) [
      | inl small ↦ absurd (false≢true (sym (has_number-above set j j small (omega arith)) ∙ has))
      | inr large ↦ large
    ]

-- one more bit
pub pow-more : (n : ℕ) → 2 ^ suc n ≡ 2 ^ n + 2 ^ n
pow-more n = omega (arith, pow-succ' 2 n)

pub numbers_below-lt : (test : ℕ → Bool) (n : ℕ) → numbers_below test n < 2 ^ n
unfolding numbers_below
numbers_below-lt test zero = lit< tt
numbers_below-lt test (suc n) =
    let before = numbers_below-lt test n in
    let more = pow-more n in
    cond_both (test n) (2 ^ n) 0 (λ bit. numbers_below test n + bit < 2 ^ suc n) (λ _. omega arith)
    (λ _. omega arith)

pub numbers_below-none : (test : ℕ → Bool) → numbers_below test 0 ≡ 0
unfolding numbers_below
numbers_below-none test = refl

numbers_below-more : (test : ℕ → Bool) (n : ℕ)
    → numbers_below test (n + 1) ≡ numbers_below test n + cond (test n) (2 ^ n) 0
unfolding numbers_below
numbers_below-more test n = rw add-one refl

pub numbers_below-with : (test : ℕ → Bool) (n : ℕ) → test n ≡ true
    → numbers_below test (n + 1) ≡ numbers_below test n + 2 ^ n
numbers_below-with test n is =
    numbers_below-more test n
    ∙ ap (λ (bit : ℕ). numbers_below test n + bit) (cond-true (test n) (2 ^ n) 0 is)

pub numbers_below-without : (test : ℕ → Bool) (n : ℕ) → test n ≡ false
    → numbers_below test (n + 1) ≡ numbers_below test n
numbers_below-without test n is =
    let none : numbers_below test n + 0 ≡ numbers_below test n = omega arith in
    numbers_below-more test n
    ∙ ap (λ (bit : ℕ). numbers_below test n + bit) (cond-false (test n) (2 ^ n) 0 is) ∙ none

-- a bit below 64, as the code makes it
pub bit-small : (n : ℕ) → n < 64 → 1 * 2 ^ n % 2 ^ 64 ≡ 2 ^ n
bit-small n small =
    let below = pow_below n 64 small in
    ap (λ (m : ℕ). m % 2 ^ 64) (one-mul (2 ^ n)) ∙ mod-eq_of_lt below

-- the bit of the next remote fits
pub numbers_below-room : (test : ℕ → Bool) (n : ℕ) → n < 64 → numbers_below test n + 2 ^ n < 2 ^ 64
numbers_below-room test n small =
    let before = numbers_below-lt test n in
    let more = pow-more n in
    let most : 2 ^ suc n ≤ 2 ^ 64 = pow-le-pow_right (lit< tt) small in
    omega arith

-- The remotes of a set: the bit of one more.

bit-added : (a n : ℕ) → a < 2 ^ n → a + 2 ^ n ≡ bit_or a (2 ^ n)
bit-added a n small =
    let none : bit_and a (2 ^ n) ≡ 0 = and_pow a n
    ∙ ap (λ (bit : ℕ). bit * 2 ^ n) (bit_at_above a n n small (omega arith)) ∙ zero-mul (2 ^ n) in
    sym (or_disjoint a (2 ^ n) none)

has_number-added : (a n j : ℕ) → a < 2 ^ n → j ≡ n → has_number (a + 2 ^ n) j ≡ true
has_number-added a n j small same =
    let old : bit_at a j ≡ 0 = bit_at_above a n j small (omega arith) in
    let new : bit_at (2 ^ n) j ≡ 1 = ap (bit_at (2 ^ n)) same ∙ bit_at-pow_same n in
    rw (bit-added a n small, bit_at_or a (2 ^ n) j, old, new) refl

has_number-others : (a n j : ℕ) → a < 2 ^ n → j ≢ n → has_number (a + 2 ^ n) j ≡ has_number a j
has_number-others a n j small other =
    let new : bit_at (2 ^ n) j ≡ 0 = bit_at-pow_other n j other in
    let all : max (bit_at a j) 0 ≡ bit_at a j = omega arith in
    rw (bit-added a n small, bit_at_or a (2 ^ n) j, new, all) refl

lt-suc-others : (j n : ℕ) → j ≢ n → nat_lt j (suc n) ≡ nat_lt j n
lt-suc-others j n other =
    elim (cases_lt j n) [
      | inl below ↦ lt-ltb j (suc n) (omega arith) ∙ sym (lt-ltb j n below)
      | inr above ↦ le-ltb j (suc n) (omega arith) ∙ sym (le-ltb j n above)
    ]

one_more : (a n j : ℕ) (bit test : Bool) → a < 2 ^ n → has_number a j ≡ (nat_lt j n && test)
    → (j ≡ n → test ≡ bit) → has_number (a + cond bit (2 ^ n) 0) j ≡ (nat_lt j (suc n) && test)
one_more a n j true test small before is =
    elim (cases_eq j n) [
      | inl same ↦ has_number-added a n j small same
          ∙ sym (and_from (nat_lt j (suc n)) test (lt-ltb j (suc n) (omega arith)) (is same))
      | inr other ↦ has_number-others a n j small other ∙ before
          ∙ ap (λ (below : Bool). below && test) (sym (lt-suc-others j n other))
    ]
one_more a n j false test small before is =
    let whole : a + 0 ≡ a = omega arith in
    elim (cases_eq j n) [
      | inl same ↦ ap (λ (set : ℕ). has_number set j) whole ∙ before
          ∙ and_right (nat_lt j n) test (is same)
          ∙ sym (and_right (nat_lt j (suc n)) test (is same))
      | inr other ↦ ap (λ (set : ℕ). has_number set j) whole ∙ before
          ∙ ap (λ (below : Bool). below && test) (sym (lt-suc-others j n other))
    ]

-- The set of the remotes below n that pass a test has exactly these.
pub has_number-numbers_below : (test : ℕ → Bool) (n j : ℕ)
    → has_number (numbers_below test n) j ≡ (nat_lt j n && test j)
unfolding numbers_below
has_number-numbers_below test zero j =
    has_number-above 0 0 j (lit< tt) (omega arith)
    ∙ sym (and_left (nat_lt j 0) (test j) (le-ltb j 0 (omega arith)))
has_number-numbers_below test (suc n) j =
    one_more (numbers_below test n) n j (test n) (test j) (numbers_below-lt test n)
    (has_number-numbers_below test n j) (ap test)

same_bit : (a b : ℕ) → a < 2 → b < 2 → (a == 1) ≡ (b == 1) → a ≡ b
same_bit a b small_a small_b same = by (b == 1) refl
  where
    by : (t : Bool) → (b == 1) ≡ t → a ≡ b
    by true is = eqb-true a 1 (same ∙ is) ∙ sym (eqb-true b 1 is)
    by false is =
        let a_other : a ≢ 1 = eqb-false a 1 (same ∙ is) in
        let b_other : b ≢ 1 = eqb-false b 1 is in
        omega arith

-- sets with the same members are the same
pub same_members : (a b : ℕ) → ((s : ℕ) → has_number a s ≡ has_number b s) → a ≡ b
same_members a b same =
    same_from_bits a b
    (λ s. same_bit (bit_at a s) (bit_at b s) (bit_at-lt a s) (bit_at-lt b s) (same s))

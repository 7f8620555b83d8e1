-- Sets of numbers that pass a test: the members in order, how many they are, and a set that is put
-- right at one number.
use Rattle.std.proofs.Common.{◌≡◌, ◌≢◌, ℕ, zero, suc, ◌+◌, ◌*◌, ◌^◌, ◌<◌, ◌≤◌, Bool, true, false}
use Rattle.std.proofs.Common.{not, ◌&&◌, ◌||◌, ◌==◌, nat_lt, cond, List, [], ◌∷◌, filter, map}
use Rattle.std.proofs.Common.{length, count_ones, inl, inr, lit<, refl, sym, ap, ap₂, arith, ◌∙◌}
use Rattle.std.specs.List.{range_with_len}
use Rattle.std.proofs.lemmas.Bool.{cases_eq, cases_lt, eq-eqb, ne_eqb, lt-ltb}
use Rattle.std.proofs.lemmas.Bool.{le-ltb}
use Rattle.std.proofs.lemmas.List.{length-append}
use Rattle.std.proofs.lemmas.Nat.{ones-le, ones_cat}
use Rattle.std.proofs.lemmas.List.Elements.{filter-append}
use Rattle.proto_model.specs.NumberSets.{has_number, numbers_below}
use Rattle.proto_model.proofs.NumberBits.{numbers_below-lt, has_number-numbers_below}
use Rattle.proto_model.proofs.NumberBits.{has_number-above, same_members}
use Rattle.proto_model.proofs.NumberSets.{has_number-with, has_number-without}
use Rattle.drive_report.specs.Rows.{with_answer}
use Rattle.drive_report.proofs.ReadyList.{range-more}

-- ---- the members in order

pub filter-map : {A B : Type 0} (test : B → Bool) (make : A → B) (items : List A)
    → filter test (map make items) ≡ map make (filter (λ item. test (make item)) items)
filter-map test make [] = refl
filter-map test make (item ∷ items) = by (test (make item)) (filter-map test make items)
  where
    by : (passes : Bool)
        → filter test (map make items) ≡ map make (filter (λ i. test (make i)) items)
        → cond passes (make item ∷ filter test (map make items)) (filter test (map make items))
        ≡ map make
        (cond passes (item ∷ filter (λ i. test (make i)) items) (filter (λ i. test (make i)) items))
    by true rest = ap (λ others. make item ∷ others) rest
    by false rest = rest

-- Those of some numbers below n that are in the set are those that pass.
pub filter-members : (test : ℕ → Bool) (n from count : ℕ) → from + count ≤ n
    → filter (has_number (numbers_below test n)) (range_with_len from count)
    ≡ filter test (range_with_len from count)
filter-members test n from zero within = refl
filter-members test n from (suc count) within =
    let numbers = range_with_len (from + 1) count in
    let set = numbers_below test n in
    let below : from < n = omega arith in
    let here : has_number set from ≡ test from =
    has_number-numbers_below test n from ∙ ap (λ (b : Bool). b && test from)
    (lt-ltb from n below) in
    ap₂ (λ (passes : Bool) (others : List ℕ). cond passes (from ∷ others) others) here
    (filter-members test n (from + 1) count (omega arith))

-- ---- sets with the same members

-- Where the tests agree below n, the sets are the same.
pub numbers_below-agree : (test other : ℕ → Bool) (n : ℕ)
    → ((b : ℕ) → b < n → test b ≡ other b) → numbers_below test n ≡ numbers_below other n
numbers_below-agree test other n agree =
    same_members (numbers_below test n) (numbers_below other n)
    (λ b. has_number-numbers_below test n b ∙ by b ∙ sym (has_number-numbers_below other n b))
  where
    by : (b : ℕ) → (nat_lt b n && test b) ≡ (nat_lt b n && other b)
    by b =
        elim (cases_lt b n) [
          | inl below ↦ ap (λ (passes : Bool). nat_lt b n && passes) (agree b below)
          | inr above ↦ rw (le-ltb b n above) refl
        ]

-- ---- how many they are

ones-one : count_ones 1 ≡ 1
unfolding lib.Count.ones
ones-one = refl

ones-more : (set n : ℕ) (more : Bool) → set < 2 ^ n
    → count_ones (set + cond more (2 ^ n) 0) ≡ count_ones set + cond more 1 0
ones-more set n true below =
    let sum : set + 2 ^ n ≡ 1 * 2 ^ n + set = omega arith in
    let cat : count_ones (1 * 2 ^ n + set) ≡ count_ones 1 + count_ones set =
    ones_cat n 1 set below in
    ap count_ones sum ∙ omega (arith, cat, ones-one)
ones-more set n false below =
    let sum : set + 0 ≡ set = omega arith in
    ap count_ones sum ∙ omega arith

length-more : (test : ℕ → Bool) (n : ℕ)
    → length (filter test (range_with_len 0 (n + 1)))
    ≡ length (filter test (range_with_len 0 n)) + cond (test n) 1 0
length-more test n =
    let front = range_with_len 0 n in
    ap (λ (numbers : List ℕ). length (filter test numbers)) (range-more n)
    ∙ ap length (filter-append test front (n ∷ []))
    ∙ length-append (filter test front) (filter test (n ∷ []))
    ∙ ap (λ (k : ℕ). length (filter test front) + k) (by (test n))
  where
    by : (passes : Bool) → length (cond passes (n ∷ []) []) ≡ cond passes 1 0
    by true = refl
    by false = refl

-- A set has as many members as it has bits.
numbers_below-ones : (test : ℕ → Bool) (n : ℕ)
    → count_ones (numbers_below test n) ≡ length (filter test (range_with_len 0 n))
unfolding numbers_below
numbers_below-ones test zero = let few = ones-le 0 0 (lit< tt) in omega (arith, few)
numbers_below-ones test (suc n) =
    let next : n + 1 ≡ suc n = omega arith in
    ones-more (numbers_below test n) n (test n) (numbers_below-lt test n)
    ∙ ap (λ (k : ℕ). k + cond (test n) 1 0) (numbers_below-ones test n)
    ∙ sym (length-more test n)
    ∙ ap (λ (k : ℕ). length (filter test (range_with_len 0 k))) next

-- a set is that of the numbers that are in it
set-members : (set n : ℕ) → set < 2 ^ n → set ≡ numbers_below (has_number set) n
set-members set n below =
    same_members set (numbers_below (has_number set) n)
    (λ j. by j ∙ sym (has_number-numbers_below (has_number set) n j))
  where
    by : (j : ℕ) → has_number set j ≡ (nat_lt j n && has_number set j)
    by j =
        elim (cases_lt j n) [
          | inl inside ↦ rw (lt-ltb j n inside) refl
          | inr above ↦ rw (le-ltb j n above) (has_number-above set n j below above)
        ]

pub set-ones : (set n : ℕ) → set < 2 ^ n
    → count_ones set ≡ length (filter (has_number set) (range_with_len 0 n))
set-ones set n below =
    ap count_ones (set-members set n below) ∙ numbers_below-ones (has_number set) n

-- Where no number passes, the set is empty.
pub numbers_below-never : (test : ℕ → Bool) (n : ℕ) → ((b : ℕ) → test b ≡ false)
    → numbers_below test n ≡ 0
unfolding numbers_below
numbers_below-never test zero never = refl
numbers_below-never test (suc n) never =
    rw (numbers_below-never test n never, never n) refl

-- ---- one number

has_number-answer : (set j i : ℕ) (answer : Bool) → j < 64
    → has_number (with_answer set j answer) i ≡ cond (i == j) answer (has_number set i)
has_number-answer set j i true small = has_number-with set j i small ∙ by (i == j)
  where
    by : (same : Bool) → (same || has_number set i) ≡ cond same true (has_number set i)
    by true = refl
    by false = refl
has_number-answer set j i false small = has_number-without set j i ∙ by (i == j)
  where
    by : (same : Bool) → (not same && has_number set i) ≡ cond same false (has_number set i)
    by true = refl
    by false = refl

-- Where the tests agree on all numbers but j, the set of the one is that of the other, put right at
-- j.
pub numbers_below-answered : (test other : ℕ → Bool) (n j : ℕ) → n ≤ 64 → j < n
    → ((b : ℕ) → b ≢ j → other b ≡ test b)
    → with_answer (numbers_below test n) j (other j) ≡ numbers_below other n
numbers_below-answered test other n j few within agree =
    same_members (with_answer (numbers_below test n) j (other j)) (numbers_below other n)
    (λ i. has_number-answer (numbers_below test n) j i (other j) (omega arith)
    ∙ ap (λ (has : Bool). cond (i == j) (other j) has) (has_number-numbers_below test n i)
    ∙ by i
    ∙ sym (has_number-numbers_below other n i))
  where
    by : (i : ℕ) → cond (i == j) (other j) (nat_lt i n && test i) ≡ (nat_lt i n && other i)
    by i =
        elim (cases_eq i j) [
          | inl same ↦ rw (eq-eqb i j same, same, lt-ltb j n within) refl
          | inr apart ↦ rw (ne_eqb i j apart, agree i apart) refl
        ]

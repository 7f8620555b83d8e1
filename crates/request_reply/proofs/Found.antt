-- What is found among numbers; where only one passes the test, it is found.
use Rattle.std.proofs.Common.{◌≡◌, ◌≢◌, ℕ, zero, suc, ◌+◌, ◌<◌, ◌≤◌, ◌==◌, ◌∙◌, Bool, true, false}
use Rattle.std.proofs.Common.{cond, List, [], ◌∷◌, Some, None, refl, ap, subst, arith}
use Rattle.std.specs.List.{find, range_with_len}
use Rattle.std.proofs.lemmas.Bool.Decides.{nat_tests}
use Rattle.std.proofs.lemmas.Bool.{eqb-true}

pub find_same : (first second : ℕ → Bool) → ((n : ℕ) → first n ≡ second n) → (xs : List ℕ)
    → find first xs ≡ find second xs
find_same first second same [] = refl
find_same first second same (x ∷ xs) =
    ap (λ b. cond b (Some x) (find first xs)) (same x)
    ∙ ap (λ o. cond (second x) (Some x) o) (find_same first second same xs)

pub find_none : (test : ℕ → Bool) → ((n : ℕ) → test n ≡ false) → (xs : List ℕ) → find test xs ≡ None
find_none test none [] = refl
find_none test none (x ∷ xs) = rw (none x) (find_none test none xs)

here_or_later : (test : ℕ → Bool) (p a : ℕ) (xs : List ℕ) (b : Bool) → (a == p) ≡ b
    → test p ≡ true → ((n : ℕ) → n ≢ p → test n ≡ false) → (a ≢ p → find test xs ≡ Some p)
    → find test (a ∷ xs) ≡ Some p
here_or_later test p a xs true same here only later = let e : a ≡ p = eqb-true a p same in rw
    (e, here) refl
here_or_later test p a xs false other here only later =
    let ne : a ≢ p = grind (arith, nat_tests) in rw (only a ne) (later ne)

-- from place a on, where the one place p is still ahead
pub find_only : (test : ℕ → Bool) (p : ℕ) → test p ≡ true → ((n : ℕ) → n ≢ p → test n ≡ false)
    → (a n : ℕ) → a ≤ p → p < a + n → find test (range_with_len a n) ≡ Some p
find_only test p here only a zero from before = absurd (omega arith)
find_only test p here only a (suc n) from before =
    here_or_later test p a (range_with_len (a + 1) n) (a == p) refl here only
    (λ ne. find_only test p here only (a + 1) n (omega arith) (omega arith))

-- what is found passes the test
found_or_later : (test : ℕ → Bool) (p x : ℕ) (xs : List ℕ) (b : Bool) → test x ≡ b
    → cond b (Some x) (find test xs) ≡ Some p
    → (find test xs ≡ Some p → test p ≡ true) → test p ≡ true
found_or_later test p x xs true passes is later = let same : x ≡ p = cc in subst
    (λ n. test n ≡ true) same passes
found_or_later test p x xs false fails is later = later is

pub find_passes : (test : ℕ → Bool) (p : ℕ) (xs : List ℕ) → find test xs ≡ Some p → test p ≡ true
find_passes test p [] is = absurd (cc)
find_passes test p (x ∷ xs) is = found_or_later test p x xs (test x) refl is (find_passes test p xs)

-- The last items of a list.
use Rattle.std.proofs.Common.{◌≡◌, ℕ, zero, suc, ◌+◌, ◌-◌, ◌≤◌, List, [], ◌∷◌, ◌++◌, length, drop}
use Rattle.std.proofs.Common.{Some, slice_get, refl, ap, ◌∙◌, arith, length-append}
use Rattle.std.proofs.Common.{length-drop}
use Rattle.std.proofs.Common.{drop-drop}
use Rattle.std.proofs.lemmas.List.{drop-append-le}
use Rattle.std.proofs.lemmas.Option.{same_Some}
use Rattle.circular_buffer.proofs.Places.{slice_get-drop}
use Rattle.faulty_link.specs.Wire.{last_of}

module _ {X : Type 0} where
  pub last_of-length : (n : ℕ) (xs : List X) → n ≤ length xs → length (last_of n xs) ≡ n
  last_of-length n xs fits =
      let left = length-drop (length xs - n) xs in
      omega (arith, left)

  -- One more of a longer list are those before, and then its last.
  pub last_of-push : (n : ℕ) (xs : List X) (x : X) → n ≤ length xs
      → last_of (n + 1) (xs ++ x ∷ []) ≡ last_of n xs ++ x ∷ []
  last_of-push n xs x fits =
      let long = length-append xs (x ∷ []) in
      let before : length (xs ++ x ∷ []) - (n + 1) ≡ length xs - n = omega (arith, long) in
      ap (λ k. drop k (xs ++ x ∷ [])) before
      ∙ drop-append-le (length xs - n) xs (x ∷ []) (omega arith)

  -- The last of the last are the last.
  pub last_of-last_of : (n m : ℕ) (xs : List X) → n ≤ m
      → last_of n (last_of m xs) ≡ last_of n xs
  last_of-last_of n m xs fewer =
      let left = length-drop (length xs - m) xs in
      let before : length xs - m + (length (last_of m xs) - n) ≡ length xs - n =
      omega (arith, left) in
      drop-drop (length (last_of m xs) - n) (length xs - m) xs ∙ ap (λ k. drop k xs) before

  -- Without the first of them they are one fewer.
  pub last_of-rest : (n : ℕ) (xs : List X) → n + 1 ≤ length xs
      → drop 1 (last_of (n + 1) xs) ≡ last_of n xs
  last_of-rest n xs fits =
      let before : length xs - (n + 1) + 1 ≡ length xs - n = omega arith in
      drop-drop 1 (length xs - (n + 1)) xs ∙ ap (λ k. drop k xs) before

  pub last_of-at : (n : ℕ) (xs : List X) (place : ℕ)
      → slice_get (last_of n xs) place ≡ slice_get xs (length xs - n + place)
  last_of-at n xs place =
      slice_get-drop (length xs - n) xs place (length xs - n + place) refl

  -- What is dropped up to an item begins with it.
  pub drop-at : (xs : List X) (place : ℕ) (x : X) → slice_get xs place ≡ Some x
      → drop place xs ≡ x ∷ drop (place + 1) xs
  drop-at [] place x at = absurd (cc)
  drop-at (y ∷ xs) zero x at = ap (λ first. first ∷ xs) (same_Some y x at)
  drop-at (y ∷ xs) (suc place) x at =
      let next : suc place + 1 ≡ suc (place + 1) = omega arith in
      rw next (drop-at xs place x at)

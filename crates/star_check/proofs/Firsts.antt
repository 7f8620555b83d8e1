-- The first code of two lists of codes.
use Rattle.std.proofs.Common.{◌≡◌, ℕ, List, [], ◌∷◌, ◌++◌, refl, Some, None}
use Rattle.proto_model.specs.Faults.{first}

pub first_front : (code : ℕ) (xs ys : List ℕ) → Some code ≡ first xs → Some code ≡ first (xs ++ ys)
first_front code [] ys e = absurd (cc)
first_front code (x ∷ xs) ys e = e

pub first_back : (xs ys : List ℕ) → None ≡ first xs → first (xs ++ ys) ≡ first ys
first_back [] ys e = refl
first_back (x ∷ xs) ys e = absurd (cc)

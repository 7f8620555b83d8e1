-- Words that are compared with others: equal bytes are one text, equal words make equal lines, and
-- where the answer of a test by words comes from.
use Rattle.std.proofs.Common.{◌≡◌, ℕ, Bool, true, false, List, [], ◌∷◌, Option, Some, refl}
use Rattle.std.specs.Prelude.{bytes_eq, if◌then◌else◌}
use Rattle.std.proofs.lemmas.Slice.Eq.{bytes_eq-Decides}

pub same-bytes : (xs ys : List ℕ) → bytes_eq xs ys ≡ true → xs ≡ ys
same-bytes xs ys e = (bytes_eq-Decides xs ys).0 e

pub two : {a b x y : List ℕ} → a ≡ x → b ≡ y → a ∷ b ∷ [] ≡ x ∷ y ∷ []
two p q = cc

pub three : {a b c x y z : List ℕ} → a ≡ x → b ≡ y → c ≡ z → a ∷ b ∷ c ∷ [] ≡ x ∷ y ∷ z ∷ []
three p q r = cc

pub four : {a b c d x y z w : List ℕ} → a ≡ x → b ≡ y → c ≡ z → d ≡ w
    → a ∷ b ∷ c ∷ d ∷ [] ≡ x ∷ y ∷ z ∷ w ∷ []
four p q r s = cc

pub tested : {X Goal : Type 0} (word is : List ℕ) (x y : Option X) (answer : X)
    → (if bytes_eq word is then x else y) ≡ Some answer
    → (word ≡ is → x ≡ Some answer → Goal) → (y ≡ Some answer → Goal) → Goal
tested {X} {Goal} word is x y answer answered here later =
    by_test (bytes_eq word is) refl answered where
      by_test : (b : Bool) → bytes_eq word is ≡ b → (if b then x else y) ≡ Some answer → Goal
      by_test true same is_x = here (same-bytes word is same) is_x
      by_test false other is_y = later is_y

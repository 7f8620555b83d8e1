-- What a line is compared with.
use Rattle.std.proofs.Common.{◌≡◌, ◌≢◌, [], ◌∷◌, ◌++◌, Bool, true, false, Result, Ok, OnOk}
use Rattle.std.proofs.Common.{refl}
use Rattle.std.proofs.Common.{sym, ap, subst}
use Rattle.std.specs.Prelude.{bytes_eq, nat_eq, ◌&&◌}
use Rattle.std.proofs.lemmas.Slice.Eq.{bytes_eq-Decides}
use Rattle.proto_model.specs.Tokens.{Text}
use Rattle.proto_model.specs.Continued.{Continues}
use Rattle.proto_model.proofs.Continuing.{whole, Continues-append}
use Rattle.schedule_replay.proofs.Chained.{whole_there}

-- two texts that are appended to nothing
pub both : {E : Type 0} (x y : Text) (s t : Result (Unit {0}) E) (a b c : Text) → a ≡ []
    → Continues x (Ok tt) a s b → Continues y s b t c → OnOk t (c ≡ x ++ y)
both x y s t a b c none first second =
    subst (λ (text : Text). OnOk t (c ≡ text ++ (x ++ y))) none
    (whole_there (x ++ y) t a c
    (whole (x ++ y) t a c (Continues-append x y (Ok tt) s t a b c first second)))

and-false : (b : Bool) → (b && false) ≡ false
and-false true = refl
and-false false = refl

-- two texts are the same where they are with an LF behind them
pub same-behind : (xs ys : Text)
    → bytes_eq xs ys ≡ bytes_eq (xs ++ 10 ∷ []) (ys ++ 10 ∷ [])
same-behind [] [] = refl
same-behind [] (y ∷ []) = sym (and-false (nat_eq 10 y))
same-behind [] (y ∷ z ∷ ys) = sym (and-false (nat_eq 10 y))
same-behind (x ∷ []) [] = sym (and-false (nat_eq x 10))
same-behind (x ∷ z ∷ xs) [] = sym (and-false (nat_eq x 10))
same-behind (x ∷ xs) (y ∷ ys) = ap (λ b. nat_eq x y && b) (same-behind xs ys)

not-line-by : (line whole : Text) (is : Bool) → bytes_eq (line ++ 10 ∷ []) whole ≡ is
    → ((front : Text) → whole ≢ front ++ 10 ∷ []) → false ≡ is
not-line-by line whole true e none =
    absurd (none line (sym ((bytes_eq-Decides (line ++ 10 ∷ []) whole).0 e)))
not-line-by line whole false e none = refl

-- a text that no LF ends is no line
pub not-line : (line whole : Text) → ((front : Text) → whole ≢ front ++ 10 ∷ [])
    → false ≡ bytes_eq (line ++ 10 ∷ []) whole
not-line line whole none = not-line-by line whole (bytes_eq (line ++ 10 ∷ []) whole) refl none

-- Texts that hold no LF and have at most so many bytes, put together from their pieces.
use Rattle.std.proofs.Common.{◌≡◌, ◌≢◌, ◌≤◌, ◌<◌, ◌==◌, ◌+◌, ◌*◌, ◌^◌, ℕ, suc}
use Rattle.std.proofs.Common.{false}
use Rattle.std.proofs.Common.{List, [], ◌∷◌, ◌++◌, length, arith, refl}
use Rattle.std.proofs.Common.{subst, codes, decimal}
use Rattle.std.specs.List.{AllByRecursion, join_with_byte}
use Rattle.std.specs.Char.{digit_value}
use Rattle.std.specs.Str.Parse.{AllDigits}
use Rattle.std.proofs.Math.Nat.{mul-le-mul_right, suc-mul, one-mul}
use Rattle.std.proofs.lemmas.Bool.{eqb-false, or_parts}
use Rattle.std.proofs.lemmas.List.{length-append}
use Rattle.std.proofs.lemmas.List.Elements.{All-append, All-nil, All-cons}
use Rattle.std.proofs.lemmas.Fmt.{length-decimal-le, decimal_is_IsNumeral}
use Rattle.proto_model.specs.Tokens.{Text}
use Rattle.proto_model.specs.Proper.{IsShortName}
use Rattle.schedule_replay.specs.TextLines.{HasNoLf, has_lf}
use Rattle.run_replay.specs.StateLines.{bracketed}

-- The text has at most so many bytes, and none of them is an LF.
pub record Fits (most : ℕ) (text : Text) : Type 0 where
  pub few : length text ≤ most
  pub one_line : HasNoLf text

-- a text and what follows it
pub fits-append : {m n : ℕ} {a b : Text} → Fits m a → Fits n b → Fits (m + n) (a ++ b)
fits-append {m} {n} {a} {b} first second = record {
  few =
      let whole : length (a ++ b) ≡ length a + length b = length-append a b in
      let few_a : length a ≤ m = first.few in
      let few_b : length b ≤ n = second.few in
      omega (arith, whole, few_a, few_b);
  one_line = All-append (λ b. b ≢ 10) a b first.one_line second.one_line;
}

-- a text has no more bytes than a greater number
pub fits-less : (m : ℕ) {n : ℕ} {a : Text} → Fits n a → n ≤ m → Fits m a
fits-less m {n} {a} fits less = record {
  few = let few : length a ≤ n = fits.few in omega (arith, few, less);
  one_line = fits.one_line;
}

-- no text
pub fits-nil : (m : ℕ) → Fits m []
fits-nil m = record { few = omega arith; one_line = All-nil (λ b. b ≢ 10) }

-- a text that is written out
literal-no_lf : (text : Text) → has_lf text ≡ false → HasNoLf text
literal-no_lf [] none = All-nil (λ b. b ≢ 10)
literal-no_lf (b ∷ bs) none =
    let parts = or_parts (b == 10) (has_lf bs) none in
    All-cons (λ b. b ≢ 10) b bs (eqb-false b 10 parts.0) (literal-no_lf bs parts.1)

pub fits-literal : (text : Text) → has_lf text ≡ false → Fits (length text) text
fits-literal text none = record { few = omega arith; one_line = literal-no_lf text none }

-- digits are no LF
digits-no_lf : (digits : Text) → AllDigits 10 digits → HasNoLf digits
digits-no_lf [] all = All-nil (λ b. b ≢ 10)
digits-no_lf (b ∷ bs) all =
    All-cons (λ b. b ≢ 10) b bs
    (λ (is : b ≡ 10). let digit : digit_value 10 < 10 = subst (λ c. digit_value c < 10) is all.0 in
    absurd (omega (arith, digit)))
    (digits-no_lf bs all.1)

-- a number of at most so many digits
pub fits-decimal : (k n : ℕ) → 0 < k → n < 10 ^ k → n < 2 ^ 64 → Fits k (decimal n)
fits-decimal k n some small fits = record {
  few = length-decimal-le k n some small fits;
  one_line = digits-no_lf (decimal n) (decimal_is_IsNumeral n fits).0.1;
}

-- a name that is not too long and holds no LF
pub fits-name : (name : Text) → IsShortName name → HasNoLf name → Fits 32 name
fits-name name short plain = record { few = short; one_line = plain }

-- ---- lists of texts

-- so many more bytes for one more text
one_more : (m size : ℕ) → m + (1 + suc size * (m + 1)) ≡ suc (suc size) * (m + 1)
one_more m size =
    let whole : suc (suc size) * (m + 1) ≡ suc size * (m + 1) + (m + 1) =
    suc-mul (suc size) (m + 1) in
    omega (arith, whole)

-- texts with `,` between them
pub fits-joined : (m : ℕ) (texts : List Text) → AllByRecursion (Fits m) texts
    → Fits (length texts * (m + 1)) (join_with_byte 44 texts)
fits-joined m [] each = fits-nil (0 * (m + 1))
fits-joined m (text ∷ []) each =
    fits-less (1 * (m + 1)) each.0
    (let one : 1 * (m + 1) ≡ m + 1 = one-mul (m + 1) in omega (arith, one))
fits-joined m (text ∷ next ∷ texts) each =
    let rest = fits-joined m (next ∷ texts) each.1 in
    let comma : Fits 1 (44 ∷ []) = fits-literal (44 ∷ []) refl in
    subst (λ (most : ℕ). Fits most (join_with_byte 44 (text ∷ next ∷ texts)))
    (one_more m (length texts)) (fits-append each.0 (fits-append comma rest))

-- so many texts in brackets
pub fits-bracketed : (c m : ℕ) (texts : List Text) → AllByRecursion (Fits m) texts
    → length texts ≤ c → Fits (1 + (c * (m + 1) + 1)) (bracketed texts)
fits-bracketed c m texts each few =
    fits-append (fits-literal (codes "[") refl)
    (fits-append (fits-less (c * (m + 1)) (fits-joined m texts each)
    (mul-le-mul_right (m + 1) few)) (fits-literal (codes "]") refl))

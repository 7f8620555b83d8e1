-- A number and its text: the text that is read as a number is its decimal text, and no name.
use Rattle.std.proofs.Common.{◌≡◌, ◌≢◌, ℕ, ◌^◌, ◌<◌, true, false, ◌||◌, eqb, leb, [], ◌∷◌}
use Rattle.std.proofs.Common.{Option, Some, None, Ok, Err, length, refl, sym, ap, ◌∙◌, inl}
use Rattle.std.proofs.Common.{inr, arith}
use Rattle.std.specs.Prelude.{◌⊎◌, is_some}
use Rattle.std.specs.Char.{is_ascii_digit}
use Rattle.std.specs.Fmt.{decimal}
use Rattle.std.specs.Str.{all_ascii_digits}
use Rattle.std.specs.Str.Parse.{digits_value}
use Rattle.std.proofs.lemmas.Bool.{and_parts, or_left, or_right, ne_eqb, lt-leb, leb-true}
use Rattle.std.proofs.lemmas.Fmt.{digits_decimal, decimal_nonempty}
use Rattle.std.proofs.lemmas.Str.Parse.{IsNumeralModel, numerals_by_value, tells_all_ascii_digits}
use Rattle.rv_base.proofs.DecimalText.{number_of-Some, number_of-decimal}
use Rattle.proto_model.specs.Tokens.{Text, is_letter, is_digit, is_word, begins_name, AllWord, part}
use Rattle.protocol_reader.specs.Reading.{At, text_at, line_at, after, number_in, is_number}
use Rattle.protocol_reader.specs.Reading.{number}
use Rattle.protocol_reader.proofs.LexemeTexts.{IsLexeme}

-- ---- the number of a text, and the text of a number

pub number_in-Some : (text : Text) (n : ℕ) → number_in text ≡ Some n
    → (text ≡ decimal n) × (n < 100000)
unfolding number_in
number_in-Some text n e =
    let read = number_of-Some text 99999 n e in
    (read.1, omega (arith, read.0))

pub number_in-decimal : (n : ℕ) → n < 100000 → number_in (decimal n) ≡ Some n
unfolding number_in
number_in-decimal n small = number_of-decimal 99999 n (omega arith) (omega arith)

one_or_none : (o : Option ℕ) → ((n : ℕ) × (o ≡ Some n)) ⊎ (o ≡ None)
one_or_none (Some n) = inl (n, refl)
one_or_none None = inr refl

pub number_or_none : (text : Text) → ((n : ℕ) × (number_in text ≡ Some n)) ⊎ (number_in text ≡ None)
number_or_none text = one_or_none (number_in text)

some_is : (o : Option ℕ) → is_some o ≡ true → (n : ℕ) × (o ≡ Some n)
some_is (Some n) e = (n, refl)
some_is None e = absurd cc

pub is_number-Some : (text : Text) → is_number text ≡ true → (n : ℕ) × (number_in text ≡ Some n)
is_number-Some text e = some_is (number_in text) e

-- ---- digits

numerals : IsNumeralModel (λ t. all_ascii_digits t ≡ true) (digits_value 10)
numerals = numerals_by_value (λ t. all_ascii_digits t ≡ true) tells_all_ascii_digits

digit_is_word : (b : ℕ) → is_ascii_digit b ≡ true → is_word b ≡ true
unfolding is_word
digit_is_word b digit =
    or_left (is_letter b || is_digit b) (eqb b 95) (or_right (is_letter b) (is_digit b) digit)

digits_are_words : (t : Text) → all_ascii_digits t ≡ true → AllWord t
digits_are_words [] digits = tt
digits_are_words (b ∷ bs) digits =
    let parts = and_parts (is_ascii_digit b) (all_ascii_digits bs) digits in
    (digit_is_word b parts.0, digits_are_words bs parts.1)

digits_lexeme : (t : Text) → 0 < length t → all_ascii_digits t ≡ true → IsLexeme t
digits_lexeme [] some digits = absurd (omega arith)
digits_lexeme (b ∷ bs) some digits = inl (digits_are_words (b ∷ bs) digits)

-- the text of a number is a lexeme
pub number_lexeme : (n : ℕ) → n < 100000 → IsLexeme (decimal n)
number_lexeme n small =
    let fits : n < 2 ^ 64 = omega arith in
    digits_lexeme (decimal n) (decimal_nonempty n fits) (digits_decimal numerals n fits)

digit_no_name : (b : ℕ) (bs : Text) → is_ascii_digit b ≡ true → begins_name (b ∷ bs) ≡ false
digit_no_name b bs digit =
    let range = and_parts (leb 48 b) (leb b 57) digit in
    let most = leb-true b 57 range.1 in
    let small = lt-leb 97 b (omega arith) in
    let capital = lt-leb 65 b (omega arith) in
    let underscore = ne_eqb b 95 (λ (e : b ≡ 95). omega arith) in
    rw (small, capital, underscore) refl

digits_no_name : (t : Text) → all_ascii_digits t ≡ true → begins_name t ≡ false
digits_no_name [] digits = refl
digits_no_name (b ∷ bs) digits =
    digit_no_name b bs (and_parts (is_ascii_digit b) (all_ascii_digits bs) digits).0

-- a number begins no name
number_begins : (t : Text) (n : ℕ) → number_in t ≡ Some n → begins_name t ≡ false
number_begins t n e =
    let read = number_in-Some t n e in
    let fits : n < 2 ^ 64 = omega (arith, read.1) in
    ap begins_name read.0 ∙ digits_no_name (decimal n) (digits_decimal numerals n fits)

pub word_no_number : (t : Text) → begins_name t ≡ true → is_number t ≡ false
word_no_number t begins =
    elim (number_or_none t) [
      | inl some ↦ absurd (let e = number_begins t some.0 some.1 in cc)
      | inr none ↦ ap is_some none
    ]

some_text : (t u : Text) → t ≡ u → 0 < length u → t ≢ []
some_text t u e some = λ none. let h : length u ≡ 0 = ap length (sym e ∙ none) in
    absurd (omega arith)

pub number_some : (t : Text) (n : ℕ) → number_in t ≡ Some n → t ≢ []
number_some t n e =
    let read = number_in-Some t n e in
    some_text t (decimal n) read.0 (decimal_nonempty n (omega (arith, read.1)))

-- ---- a number that is asked for

pub number_seen : (at : At) (n : ℕ) → number_in (text_at at) ≡ Some n
    → number at ≡ Ok (n, after (part (text_at at)) at)
unfolding number
number_seen at n e = rw e refl

pub no_number_seen : (at : At) → number_in (text_at at) ≡ None → number at ≡ Err (line_at at)
unfolding number
no_number_seen at e = rw e refl

-- Which bytes are the decimal text of a number.
use Rattle.std.proofs.Common.{◌≡◌, ℕ, ◌-◌, ◌<◌, ◌≤◌, ◌^◌, List, length, get_or, zero, suc, Bool}
use Rattle.std.proofs.Common.{true, false, Some, None, nat_le, ◌&&◌, if◌then◌else◌, subst, sym}
use Rattle.std.proofs.Common.{arith, decimal, ap, ◌∙◌, refl}
use Rattle.std.proofs.lemmas.Grind.{common_steps}
use Rattle.std.proofs.lemmas.Fmt.{decimal_is_IsNumeral, first_decimal, decimal-digits_value}
use Rattle.std.proofs.lemmas.Fmt.{decimal_digit, IsAscii-decimal}
use Rattle.std.proofs.lemmas.Slice.Eq.{bytes_eq-Decides}
use Rattle.std.proofs.lemmas.Str.{IsUtf8-from_ascii}
use Rattle.std.proofs.lemmas.Str.Parse.{IsNumeralModel, numerals_by_value, tells_digits, digit_at}
use Rattle.std.proofs.lemmas.Str.Parse.{parse_plain}
use Rattle.std.specs.Prelude.{IsUtf8, Result, Ok, Err, bytes_eq, MatchOption}
use Rattle.std.specs.Bool.{then_some}
use Rattle.std.specs.Result.{result_ok}
use Rattle.std.specs.Str.Parse.{AllDigits, digits_value, ParsesUnsigned}
use Rattle.std.specs.declared.option.Option.{Option}
use Rattle.rv_base.specs.Numbers.{ReadsNumber, number_of, LeadsWell}

own : IsNumeralModel (AllDigits 10) (digits_value 10)
own = numerals_by_value (AllDigits 10) tells_digits

decimal-AllDigits : (text : List ℕ) (n : ℕ) → n < 2 ^ 64 → text ≡ decimal n → AllDigits 10 text
decimal-AllDigits text n fits e = subst (AllDigits 10) (sym e) (decimal_is_IsNumeral n fits).0.1

decimal-some : (text : List ℕ) (n : ℕ) → n < 2 ^ 64 → text ≡ decimal n → 0 < length text
decimal-some text n fits e = subst (λ (bytes : List ℕ). 0 < length bytes) (sym e)
    (decimal_is_IsNumeral n fits).0.0

decimal-value : (text : List ℕ) (n : ℕ) → n < 2 ^ 64 → text ≡ decimal n → digits_value 10 text ≡ n
decimal-value text n fits e = ap (digits_value 10) e ∙ (decimal_is_IsNumeral n fits).1

pub decimal-IsUtf8 : (text : List ℕ) (n : ℕ) → n < 2 ^ 64 → text ≡ decimal n → IsUtf8 text
decimal-IsUtf8 text n fits e = subst IsUtf8 (sym e)
    (IsUtf8-from_ascii (decimal n) (IsAscii-decimal n fits))

zero-alone : (n : ℕ) → n < 2 ^ 64 → get_or (decimal n) 0 0 ≡ 48 → length (decimal n) ≡ 1
zero-alone zero fits e = ap length (decimal_digit 0 (omega arith))
zero-alone (suc n) fits e = absurd (omega (arith, first_decimal (suc n) (omega arith) fits))

pub decimal-LeadsWell : (text : List ℕ) (n : ℕ) → n < 2 ^ 64 → text ≡ decimal n → LeadsWell text
decimal-LeadsWell text n fits e =
    let first = digit_at text 0 (decimal-AllDigits text n fits e) (decimal-some text n fits e) in (
      omega (arith, first),
      omega (arith, first),
      subst (λ (bytes : List ℕ). get_or bytes 0 0 ≡ 48
          → length bytes ≡ 1) (sym e) (zero-alone n fits),
    )

-- what `parse` answers, where a digit stands first and no zero before others
pub parse-ReadsNumber : {E : Type 0} (text : List ℕ) (r : Result ℕ E) → LeadsWell text
    → ParsesUnsigned 64 10 text r → ReadsNumber text (2 ^ 64 - 1) (result_ok r)
parse-ReadsNumber {E = E} text (Ok n) leads parses =
    let h = parse_plain own {E = E} 64 text (Ok n) parses
    (λ plus. absurd (omega (arith, leads))) in (
      omega (arith, h),
      sym (decimal-digits_value own text h.0.0 h.0.1 leads.2 h.0.2)
          ∙ ap decimal (sym h.1),
    )
parse-ReadsNumber {E = E} text (Err e) leads parses = λ n most same.
    let fits : n < 2 ^ 64 = omega (arith, most) in
    let value = decimal-value text n fits same in
    parse_plain own {E = E} 64 text (Err e) parses (λ plus. absurd (omega (arith, leads))) (
      decimal-AllDigits text n fits same,
      decimal-some text n fits same,
      omega
          (arith, value, fits),
    )

-- a bound on the number
at-most : (most n : ℕ) (within : Bool) (text : List ℕ) → nat_le n most ≡ within → most < 2 ^ 64
    → n < 2 ^ 64 → text ≡ decimal n → ReadsNumber text most (then_some within n)
at-most most n true text e fits small same = (grind (arith, common_steps), same)
at-most most n false text e fits small same = λ m le again.
    let value = decimal-value text m (omega (arith, le, fits)) again in
    let equal : n ≡ m = sym (decimal-value text n small same) ∙ value in
    let above : most < n = grind (arith, common_steps) in
    absurd (omega (arith, above, equal, le))

pub filter-ReadsNumber : (most : ℕ) (text : List ℕ) (all r : Option ℕ) (Answers : ℕ → Bool → Type 0)
    → most < 2 ^ 64 → ReadsNumber text (2 ^ 64 - 1) all
    → MatchOption all (r ≡ None) (λ n. (within : Bool) × Answers n within
    × (r ≡ then_some within n))
    → ((n : ℕ) (within : Bool) → Answers n within → within ≡ nat_le n most)
    → ReadsNumber text most r
filter-ReadsNumber most text None r Answers fits reads m tests = subst (ReadsNumber text most)
    (sym m) (λ n le. reads n (omega (arith, le, fits)))
filter-ReadsNumber most text (Some n) r Answers fits reads m tests =
    subst (ReadsNumber text most) (sym m.2)
    (at-most most n m.0 text (sym (tests n m.0 m.1)) fits (omega (arith, reads.0)) reads.1)

-- no other answer reads the number
none-of : (most value : ℕ) (text : List ℕ) (same within : Bool)
    → bytes_eq text (decimal value) ≡ same → nat_le value most ≡ within → ReadsNumber text most None
    → ◌≡◌ {A = Option ℕ} None (if same && within then Some value else None)
none-of most value text true true s w none = absurd
    (none value (grind (arith, common_steps)) ((bytes_eq-Decides text (decimal value)).0 s))
none-of most value text true false s w none = refl
none-of most value text false within s w none = refl

pub ReadsNumber-number_of : (most : ℕ) (text : List ℕ) (r : Option ℕ) → most < 2 ^ 64
    → ReadsNumber text most r → r ≡ number_of text most
unfolding number_of
ReadsNumber-number_of most text (Some n) fits reads =
    let value : digits_value 10 text ≡ n = decimal-value text n (omega (arith, reads.0, fits))
    reads.1 in
    let same : bytes_eq text (decimal (digits_value 10 text))
    ≡ true = (bytes_eq-Decides text (decimal (digits_value 10 text))).1
    (reads.1 ∙ ap decimal (sym value)) in
    let within : nat_le (digits_value 10 text) most ≡ true = grind
    (arith, common_steps, value, reads.0) in
    rw (same, within) (ap (λ (m : ℕ). Some m) (sym value))
ReadsNumber-number_of most text None fits none = none-of most (digits_value 10 text) text _ _ refl
    refl none

-- the number that is read has this text
some-of : (most value n : ℕ) (text : List ℕ) (same within : Bool)
    → bytes_eq text (decimal value) ≡ same → nat_le value most ≡ within
    → (if same && within then Some value else None) ≡ Some n → (n ≤ most) × (text ≡ decimal n)
some-of most value n text true true s w e =
    let equal : value ≡ n = cc in (
      subst (λ (m : ℕ). m ≤ most) equal (grind (arith, common_steps)),
      (bytes_eq-Decides text (decimal value)).0 s ∙ ap decimal equal,
    )
some-of most value n text true false s w e = absurd (cc)
some-of most value n text false within s w e = absurd (cc)

pub number_of-Some : (text : List ℕ) (most n : ℕ) → number_of text most ≡ Some n → (n ≤ most)
    × (text ≡ decimal n)
unfolding number_of
number_of-Some text most n e = some-of most (digits_value 10 text) n text _ _ refl refl e

pub number_of-decimal : (most n : ℕ) → most < 2 ^ 64 → n ≤ most
    → number_of (decimal n) most ≡ Some n
number_of-decimal most n fits le = sym
    (ReadsNumber-number_of most (decimal n) (Some n) fits (le, refl))

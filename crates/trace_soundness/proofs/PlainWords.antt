-- Words of digits and small letters, as those of steps and events are, and texts of such words with
-- single spaces between them.
use Rattle.std.proofs.Common.{◌≡◌, ◌≢◌, ◌≤◌, ◌<◌, ◌+◌, ◌*◌, ◌^◌, ◌&&◌, ◌||◌, ℕ, suc}
use Rattle.std.proofs.Common.{Bool}
use Rattle.std.proofs.Common.{true, false, List, [], ◌∷◌, length, nat_le, arith, refl}
use Rattle.std.proofs.Common.{ap}
use Rattle.std.proofs.Common.{◌∙◌, codes, decimal, subst}
use Rattle.std.specs.List.{All, AllByRecursion, list_all, join_with_byte}
use Rattle.std.specs.Str.Parse.{AllDigits}
use Rattle.std.proofs.Math.Nat.{suc-mul, one-mul}
use Rattle.std.proofs.lemmas.Bool.{and_parts}
use Rattle.std.proofs.lemmas.Grind.{common_steps}
use Rattle.std.proofs.lemmas.List.Elements.{All-append, All-nil, All-cons}
use Rattle.std.proofs.lemmas.Fmt.{decimal_is_IsNumeral, length-decimal-le}
use Rattle.std.proofs.lemmas.Str.Parse.{digit_at}
use Rattle.proto_model.specs.Tokens.{Text, IsNumber}
use Rattle.proto_model.specs.Texts.{event_words}
use Rattle.proto_model.specs.declared.rendezvous.Event.{Event}
use Rattle.proto_model.specs.declared.rendezvous.Event.TheVariants as event
use Rattle.schedule_replay.specs.EventLines as events
use Rattle.async_shape.specs.declared.step.Step.{Step}
use Rattle.async_shape.specs.declared.step.Step.TheVariants as step
use Rattle.async_machine.specs.StepText.{step_words}
use Rattle.run_replay.specs.StepLines as steps
use Rattle.trace_soundness.proofs.Fits.{Fits, fits-append, fits-less, fits-literal, fits-nil}

-- a digit or a small letter
abbrev pub is_plain : ℕ → Bool
is_plain b = (nat_le 48 b && nat_le b 57) || (nat_le 97 b && nat_le b 122)

-- a word of one to six such bytes
pub record IsPlainWord (word : Text) : Type 0 where
  pub some : 0 < length word
  pub few : length word ≤ 6
  pub plain : list_all is_plain word ≡ true

-- ---- bytes

-- A byte of such a word is none that isn't a digit or a small letter.
other : (b c : ℕ) → is_plain b ≡ true → is_plain c ≡ false → b ≢ c
other b c plain none = λ same. let no : is_plain b ≡ false = ap is_plain same ∙ none in cc

-- what holds of each plain byte holds of each byte of a word
each-byte : (P : ℕ → Type 0) → ((b : ℕ) → is_plain b ≡ true → P b) → (word : Text)
    → list_all is_plain word ≡ true → All P word
each-byte P holds [] plain = All-nil P
each-byte P holds (b ∷ bs) plain =
    let parts = and_parts (is_plain b) (list_all is_plain bs) plain in
    All-cons P b bs (holds b parts.0) (each-byte P holds bs parts.1)

-- ---- words

pub word-fits : (word : Text) → IsPlainWord word → Fits 6 word
word-fits word is = record {
  few = is.few;
  one_line = each-byte (λ b. b ≢ 10) (λ b plain. other b 10 plain refl) word is.plain;
}

pub word-no_colon : (word : Text) → IsPlainWord word → All (λ b. b ≢ 58) word
word-no_colon word is = each-byte (λ b. b ≢ 58) (λ b plain. other b 58 plain refl) word is.plain

-- digits
digits-plain : (digits : Text) → AllDigits 10 digits → list_all is_plain digits ≡ true
digits-plain [] all = refl
digits-plain (b ∷ bs) all =
    let range = digit_at (b ∷ bs) 0 all (omega arith) in
    let here : is_plain b ≡ true = grind (arith, common_steps) in
    ap (λ (plain : Bool). plain && list_all is_plain bs) here ∙ digits-plain bs all.1

-- a number's text has a byte, and digits alone
pub number-front : (n : ℕ) → n < 2 ^ 64
    → (0 < length (decimal n)) × (list_all is_plain (decimal n) ≡ true)
number-front n fits =
    let numeral = (decimal_is_IsNumeral n fits).0 in (numeral.0, digits-plain (decimal n) numeral.1)

number-plain : (n : ℕ) → IsNumber n → IsPlainWord (decimal n)
number-plain n small =
    let fits : n < 2 ^ 64 = omega (arith, small) in
    let numeral = (decimal_is_IsNumeral n fits).0 in
    record {
      some = numeral.0;
      few = let short : length (decimal n) ≤ 5 = length-decimal-le 5 n (omega arith)
          (omega (arith, small)) fits in
          omega (arith, short);
      plain = digits-plain (decimal n) numeral.1;
    }

-- a word that is written out
literal-plain : (word : Text) → 0 < length word → length word ≤ 6 → list_all is_plain word ≡ true
    → IsPlainWord word
literal-plain word some few plain = record { some = some; few = few; plain = plain }

tau : IsPlainWord (codes "tau")
tau = literal-plain (codes "tau") (omega arith) (omega arith) refl

home : IsPlainWord (codes "home")
home = literal-plain (codes "home") (omega arith) (omega arith) refl

remote : IsPlainWord (codes "remote")
remote = literal-plain (codes "remote") (omega arith) (omega arith) refl

send : IsPlainWord (codes "send")
send = literal-plain (codes "send") (omega arith) (omega arith) refl

up : IsPlainWord (codes "up")
up = literal-plain (codes "up") (omega arith) (omega arith) refl

down : IsPlainWord (codes "down")
down = literal-plain (codes "down") (omega arith) (omega arith) refl

-- the words of a step
pub step-plain : (s : Step) → steps.HasNumbers s → AllByRecursion IsPlainWord (step_words s)
step-plain (step.HomeTau g) small = (home, (tau, (number-plain g small, tt)))
step-plain (step.HomeTake j) small = (
  home,
  (
    literal-plain (codes "take") (omega arith) (omega arith) refl,
    (number-plain j small, tt),
  ),
)
step-plain (step.HomeSend g j) small =
    (home, (send, (number-plain g small.0, (number-plain j small.1, tt))))
step-plain (step.HomeDrop j) small = (
  home,
  (
    literal-plain (codes "drop") (omega arith) (omega arith) refl,
    (number-plain j small, tt),
  ),
)
step-plain (step.RemoteTau j g) small =
    (remote, (number-plain j small.0, (tau, (number-plain g small.1, tt))))
step-plain (step.RemoteSend j) small = (remote, (number-plain j small, (send, tt)))
step-plain (step.RemoteAnswer j) small = (
  remote,
  (
    number-plain j small,
    (literal-plain (codes "answer") (omega arith) (omega arith) refl, tt),
  ),
)
step-plain (step.RemoteReply j) small = (
  remote,
  (
    number-plain j small,
    (literal-plain (codes "reply") (omega arith) (omega arith) refl, tt),
  ),
)
step-plain (step.Up j) small = (up, (number-plain j small, tt))
step-plain (step.Down j) small = (down, (number-plain j small, tt))

-- the words of an event
pub event-plain : (e : Event) → events.HasNumbers e → AllByRecursion IsPlainWord (event_words e)
event-plain (event.TauHome g) small = (tau, (home, (number-plain g small, tt)))
event-plain (event.TauRemote j g) small =
    (tau, (number-plain j small.0, (number-plain g small.1, tt)))
event-plain (event.Up j h r) small =
    (up, (number-plain j small.0, (number-plain h small.1, (number-plain r small.2, tt))))
event-plain (event.Down j h r) small =
    (down, (number-plain j small.0, (number-plain h small.1, (number-plain r small.2, tt))))

-- ---- texts of words

one_more : (size : ℕ) → 6 + (1 + suc size * 7) ≡ suc (suc size) * 7
one_more size =
    let whole : suc (suc size) * 7 ≡ suc size * 7 + 7 = suc-mul (suc size) 7 in
    omega (arith, whole)

pub text-fits : (words : List Text) → AllByRecursion IsPlainWord words
    → Fits (length words * 7) (join_with_byte 32 words)
text-fits [] each = fits-nil (0 * 7)
text-fits (word ∷ []) each =
    fits-less (1 * 7) (word-fits word each.0)
    (let one : 1 * 7 ≡ 7 = one-mul 7 in omega (arith, one))
text-fits (word ∷ next ∷ words) each =
    let space : Fits 1 (32 ∷ []) = fits-literal (32 ∷ []) refl in
    subst (λ (most : ℕ). Fits most (join_with_byte 32 (word ∷ next ∷ words)))
    (one_more (length words))
    (fits-append (word-fits word each.0) (fits-append space (text-fits (next ∷ words) each.1)))

pub text-no_colon : (words : List Text) → AllByRecursion IsPlainWord words
    → All (λ b. b ≢ 58) (join_with_byte 32 words)
text-no_colon [] each = All-nil (λ b. b ≢ 58)
text-no_colon (word ∷ []) each = word-no_colon word each.0
text-no_colon (word ∷ next ∷ words) each =
    All-append (λ b. b ≢ 58) word (32 ∷ join_with_byte 32 (next ∷ words))
    (word-no_colon word each.0)
    (All-cons (λ b. b ≢ 58) 32 (join_with_byte 32 (next ∷ words))
    (λ same. absurd (omega (arith, same)))
    (text-no_colon (next ∷ words) each.1))

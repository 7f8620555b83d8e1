-- The first line of a step's block: it is a line that a trace may have, and the auditor hears the
-- words that tell of the step.
use Rattle.std.proofs.Common.{◌≡◌, ◌≢◌, ◌≤◌, ◌<◌, ◌==◌, ◌+◌, ◌&&◌, ◌||◌, ℕ}
use Rattle.std.proofs.Common.{Bool}
use Rattle.std.proofs.Common.{true, false, [], ◌∷◌, ◌++◌, length, Option, Some, arith}
use Rattle.std.proofs.Common.{refl, ap, ◌∙◌, codes, decimal, nat_eq}
use Rattle.std.proofs.Common.{if◌then◌else◌, bytes_eq}
use Rattle.std.specs.List.{All, starts_with, list_all, list_any}
use Rattle.std.specs.Option.{option_and_then}
use Rattle.std.proofs.Math.Nat.{mul-le-mul_right}
use Rattle.std.proofs.lemmas.Bool.{and_parts}
use Rattle.std.proofs.lemmas.Grind.{common_steps}
use Rattle.std.proofs.lemmas.Slice.Eq.{bytes_eq-Decides}
use Rattle.proto_model.specs.Tokens.{Text}
use Rattle.rendezvous_meaning.specs.Standing.{Standing}
use Rattle.async_shape.specs.declared.step.Step.{Step}
use Rattle.async_shape.specs.declared.step.Step.TheVariants as step
use Rattle.async_machine.specs.StepText.{step_text, step_words}
use Rattle.run_replay.specs.StepLines.{HasNumbers}
use Rattle.trace_audit.specs.Auditing.{Auditing, audit_line, is_indented, told_of, hear}
use Rattle.trace_audit.specs.declared.auditor.Section.TheVariants.{Steps, States}
use Rattle.trace_soundness.proofs.Fits.{Fits, fits-append, fits-less, fits-literal, fits-decimal}
use Rattle.trace_soundness.proofs.PlainWords.{is_plain, step-plain, text-fits}
use Rattle.trace_soundness.proofs.PlainWords.{text-no_colon, number-front}
use Rattle.trace_soundness.proofs.Goes.{IsTraceLine}
use Rattle.trace_audit.proofs.StepLines.{tells-told_of}

-- the line
abbrev pub first_line : ℕ → Step → Text → Text
first_line number s words =
    decimal number ++ (codes " " ++ (step_text s ++ (codes ": " ++ words)))

-- how many words a step has
few-words : (s : Step) → length (step_words s) ≤ 4
few-words (step.HomeTau g) = omega arith
few-words (step.HomeTake j) = omega arith
few-words (step.HomeSend g j) = omega arith
few-words (step.HomeDrop j) = omega arith
few-words (step.RemoteTau j g) = omega arith
few-words (step.RemoteSend j) = omega arith
few-words (step.RemoteAnswer j) = omega arith
few-words (step.RemoteReply j) = omega arith
few-words (step.Up j) = omega arith
few-words (step.Down j) = omega arith

-- the text of a step
step_text-fits : (s : Step) → HasNumbers s → Fits 28 (step_text s)
step_text-fits s small =
    fits-less 28 (text-fits (step_words s) (step-plain s small))
    (mul-le-mul_right 7 (few-words s))

-- it has no `:`
step_text-no_colon : (s : Step) → HasNumbers s → All (λ b. b ≢ 58) (step_text s)
step_text-no_colon s small = text-no_colon (step_words s) (step-plain s small)

-- it has a byte
some-bytes : (s : Step) → 0 < length (step_text s)
some-bytes (step.HomeTau g) = omega arith
some-bytes (step.HomeTake j) = omega arith
some-bytes (step.HomeSend g j) = omega arith
some-bytes (step.HomeDrop j) = omega arith
some-bytes (step.RemoteTau j g) = omega arith
some-bytes (step.RemoteSend j) = omega arith
some-bytes (step.RemoteAnswer j) = omega arith
some-bytes (step.RemoteReply j) = omega arith
some-bytes (step.Up j) = omega arith
some-bytes (step.Down j) = omega arith

-- The line is one that a trace may have.
pub first_line-IsTraceLine : (most number : ℕ) (s : Step) (words : Text) → number < 10000000
    → HasNumbers s → Fits most words → most ≤ 60000 → IsTraceLine (first_line number s words)
first_line-IsTraceLine most number s words few small fits short =
    let whole : Fits (7 + (1 + (28 + (2 + most)))) (first_line number s words) =
    fits-append (fits-decimal 7 number (omega arith) (omega (arith, few)) (omega (arith, few)))
    (fits-append (fits-literal (codes " ") refl)
    (fits-append (step_text-fits s small) (fits-append (fits-literal (codes ": ") refl) fits))) in
    let count : length (first_line number s words) ≤ 7 + (1 + (28 + (2 + most))) = whole.few in
    record { few = omega (arith, count, short); one_line = whole.one_line }

-- ---- what the auditor reads of it

-- A text that begins with a digit or a small letter doesn't begin with two spaces.
not-indented : (b : ℕ) (bs : Text) → is_plain b ≡ true → is_indented (b ∷ bs) ≡ false
not-indented b bs plain =
    let no_space : b ≢ 32 = λ same. let no : is_plain b ≡ false = ap is_plain same in cc in
    let unequal : nat_eq 32 b ≡ false = grind (arith, common_steps) in
    ap (λ (first : Bool). first && starts_with nat_eq bs (codes " ")) unequal

-- A number stands at the front, so the line doesn't begin with two spaces, and is not `end`.
front-not_indented : (number rest : Text) → 0 < length number → list_all is_plain number ≡ true
    → is_indented (number ++ rest) ≡ false
front-not_indented [] rest some plain = absurd (omega (arith, some))
front-not_indented (b ∷ bs) rest some plain =
    not-indented b (bs ++ rest) (and_parts (is_plain b) (list_all is_plain bs) plain).0

-- A space stands in a text.
pub spaced : (front rest : Text) → list_any (λ b. b == 32) (front ++ (32 ∷ rest)) ≡ true
spaced [] rest = refl
spaced (b ∷ bs) rest =
    ap (λ (later : Bool). (b == 32) || later) (spaced bs rest) ∙ or-true (b == 32)
  where
    or-true : (is : Bool) → (is || true) ≡ true
    or-true true = refl
    or-true false = refl

-- Such a text is not `end`.
pub no_end : (is : Bool) (line : Text) → bytes_eq line (codes "end") ≡ is
    → list_any (λ b. b == 32) line ≡ true → is ≡ false
no_end true line same space =
    let none : list_any (λ b. b == 32) line ≡ false =
    ap (list_any (λ b. b == 32)) ((bytes_eq-Decides line (codes "end")).0 same) in
    cc
no_end false line same space = refl

-- The line of a step is not `end`: it has a space.
not-end : (number rest : Text) → bytes_eq (number ++ (32 ∷ rest)) (codes "end") ≡ false
not-end number rest =
    no_end (bytes_eq (number ++ (32 ∷ rest)) (codes "end")) (number ++ (32 ∷ rest)) refl
    (spaced number rest)

-- the auditor in the part of the steps
abbrev pub at_steps : ℕ → ℕ → Standing → Auditing
at_steps told events standing =
    record { section = Steps told; events = events; standing = standing }

-- The auditor takes the line where it hears the words.
pub first_line-heard : (told events : ℕ) (standing : Standing) (s : Step) (words : Text)
    (next : Auditing) → told < 1000000 → HasNumbers s
    → hear (at_steps told events standing) (told + 1) words ≡ Some next
    → audit_line (at_steps told events standing) (first_line (told + 1) s words) ≡ Some next
first_line-heard told events standing s words next few small hears =
    let at = at_steps told events standing in
    let number = decimal (told + 1) in
    let rest : Text = step_text s ++ (codes ": " ++ words) in
    let line = first_line (told + 1) s words in
    let numeral = number-front (told + 1) (omega (arith, few)) in
    let read : told_of (told + 1) line ≡ Some words =
    tells-told_of (told + 1) line words (record {
      step = step_text s;
      some = some-bytes s;
      one_colon = step_text-no_colon s small;
      line_is = refl;
    }) in
    ap (λ (indented : Bool). if indented then Some at
    else (if bytes_eq line (codes "end") then Some (record at { section = States })
    else option_and_then (hear at (told + 1)) (told_of (told + 1) line)))
    (front-not_indented number (32 ∷ rest) numeral.0 numeral.1)
    ∙ ap (λ (last : Bool). if last then Some (record at { section = States })
    else option_and_then (hear at (told + 1)) (told_of (told + 1) line))
    (not-end number rest)
    ∙ ap (λ (said : Option Text). option_and_then (hear at (told + 1)) said) read
    ∙ hears

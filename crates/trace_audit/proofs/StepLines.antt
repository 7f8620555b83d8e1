-- What is read off a step's line is what the line tells, in both directions.
use Rattle.std.proofs.Common.{◌≡◌, ◌≢◌, ℕ, zero, suc, ◌<◌, [], ◌∷◌, ◌++◌, length}
use Rattle.std.proofs.Common.{take}
use Rattle.std.proofs.Common.{drop, get_or, Bool, true, false, Some, None, arith, refl}
use Rattle.std.proofs.Common.{sym}
use Rattle.std.proofs.Common.{◌∙◌, ap, subst, append_assoc, length-append, decimal}
use Rattle.std.proofs.lemmas.Bool.Decides.{Decides-eqb}
use Rattle.std.proofs.lemmas.Grind.{common_steps}
use Rattle.std.proofs.lemmas.List.{take-append-drop, get_or-take, length-take-le}
use Rattle.std.proofs.lemmas.List.{get_or_append_left}
use Rattle.std.proofs.lemmas.List.Quantifiers.{position-Some}
use Rattle.std.proofs.lemmas.List.Sums.{position_or_len_is}
use Rattle.std.proofs.lemmas.Slice.Eq.{starts_is}
use Rattle.std.proofs.Math.Seq.{drop-append_seam, get_or-append_seam}
use Rattle.std.specs.Prelude.{codes, nat_eq, nat_lt, All, cond}
use Rattle.std.specs.List.{starts_with, position, position_or_len}
use Rattle.std.specs.Option.{option_and_then}
use Rattle.rv_base.proofs.Lists.{some_when, some_and_then}
use Rattle.proto_model.specs.Tokens.{Text}
use Rattle.trace_audit.specs.Auditing.{behind, is_colon, told_at, told_behind, told_of, is_indented}
use Rattle.trace_audit.specs.PrintedRun.{TellsOf, IsIndented}

-- ---- a front, and what stands behind it

pub behind-is : (front bytes rest : Text) → behind front bytes ≡ Some rest → bytes ≡ front ++ rest
behind-is front bytes rest e =
    let begins = starts_with nat_eq bytes front in
    let taken = some_when begins (drop (length front) bytes) rest e in
    (starts_is {E = nat_eq} Decides-eqb bytes front begins refl).0 taken.0
    ∙ ap (λ more. front ++ more) taken.1

front-begins : (front bytes rest : Text) → bytes ≡ front ++ rest
    → starts_with nat_eq bytes front ≡ true
front-begins front bytes rest e =
    (starts_is {E = nat_eq} Decides-eqb bytes front (starts_with nat_eq bytes front) refl).1 rest e

pub behind-front : (front bytes rest : Text) → bytes ≡ front ++ rest
    → behind front bytes ≡ Some rest
behind-front front bytes rest e =
    rw (front-begins front bytes rest e)
    (ap (λ (more : Text). Some more) (ap (drop (length front)) e ∙ drop-append_seam front rest))

pub indented-is : (line : Text) → is_indented line ≡ true → IsIndented line
indented-is line e = (
  drop 2 line,
  (starts_is {E = nat_eq} Decides-eqb line (codes "  ") (is_indented line) refl).0 e,
)

pub is-indented : (line : Text) → IsIndented line → is_indented line ≡ true
is-indented line (rest, e) = front-begins (codes "  ") line rest e

-- ---- the first colon

-- no byte of the front is a colon
abbrev NoColon : Text → Type 0
NoColon step = All (λ b. b ≢ 58) step

no-colon : (b : ℕ) → is_colon b ≡ false → b ≢ 58
no-colon b e = grind (arith, common_steps)

not-colon : (b : ℕ) → b ≢ 58 → is_colon b ≡ false
not-colon b n = grind (arith, common_steps)

-- bytes that have the first colon at this place, behind which the words stand
record IsCut (bytes words : Text) : Type 0 where
  step : Text
  some : 0 < length step
  one_colon : NoColon step
  bytes_are : bytes ≡ step ++ (codes ": " ++ words)

pub any-default : (bytes : Text) (k d : ℕ) → k < length bytes → get_or bytes k d ≡ get_or bytes k 0
any-default [] k d within = absurd (omega (arith, within))
any-default (b ∷ bytes) zero d within = refl
any-default (b ∷ bytes) (suc k) d within = any-default bytes k d (omega (arith, within))

front-clear : (bytes : Text) (place : ℕ) → place < length bytes
    → ((k : ℕ) → k < place → is_colon (get_or bytes k 0) ≡ false)
    → NoColon (take place bytes)
front-clear bytes place within clear k d inside =
    let size : length (take place bytes) ≡ place =
    length-take-le place bytes (omega (arith, within)) in
    let below : k < place = omega (arith, inside, size) in
    let same : get_or (take place bytes) k d ≡ get_or bytes k 0 = get_or-take place bytes k d below
    ∙ any-default bytes k d (omega (arith, below, within)) in
    subst (λ (b : ℕ). b ≢ 58) (sym same) (no-colon (get_or bytes k 0) (clear k below))

cut-at : (bytes words : Text) (place : ℕ) → position is_colon bytes ≡ Some place
    → told_at bytes place ≡ Some words → IsCut bytes words
cut-at bytes words zero found told = absurd (cc)
cut-at bytes words (suc place) found told =
    let at = position-Some is_colon bytes (suc place) 0 found in
    record {
      step = take (suc place) bytes;
      some = omega (arith, length-take-le (suc place) bytes (omega (arith, at.0)));
      one_colon = front-clear bytes (suc place) at.0 at.2;
      bytes_are = sym (take-append-drop (suc place) bytes)
          ∙ ap (λ more. take (suc place) bytes ++ more)
          (behind-is (codes ": ") (drop (suc place) bytes) words told);
    }

told-cut : (bytes words : Text) → told_behind bytes ≡ Some words → IsCut bytes words
told-cut bytes words e =
    let place = some_and_then (told_at bytes) (position is_colon bytes) words e in
    cut-at bytes words place.0 place.1 place.2

-- the words that a line tells
pub told_of-tells : (number : ℕ) (line words : Text) → told_of number line ≡ Some words
    → TellsOf number line words
told_of-tells number line words e =
    let front = decimal number ++ codes " " in
    let rest = some_and_then told_behind (behind front line) words e in
    let cut = told-cut rest.0 words rest.2 in
    record {
      step = cut.step;
      some = cut.some;
      one_colon = cut.one_colon;
      line_is = behind-is front line rest.0 rest.1
          ∙ (append_assoc (decimal number) (codes " ") rest.0
          ∙ ap (λ more. decimal number ++ (codes " " ++ more)) cut.bytes_are);
    }

-- ---- and the other way

place-first : (step words : Text) → NoColon step
    → position_or_len is_colon (step ++ (codes ": " ++ words)) ≡ length step
place-first step words clear =
    let bytes = step ++ (codes ": " ++ words) in
    position_or_len_is is_colon bytes (length step) 0
    (omega (arith, length-append step (codes ": " ++ words)))
    (λ k below.
    let same : get_or bytes k 0 ≡ get_or step k 0 =
    get_or_append_left step (codes ": " ++ words) 0 k below in
    not-colon (get_or bytes k 0) (subst (λ (b : ℕ). b ≢ 58) (sym same) (clear k 0 below)))
    (λ within. ap is_colon (get_or-append_seam step 58 (codes " " ++ words) 0))

within-bytes : (step words : Text) → nat_lt (length step) (length (step ++ (codes ": " ++ words)))
    ≡ true
within-bytes step words =
    let size = length-append step (codes ": " ++ words) in
    let below : length step < length (step ++ (codes ": " ++ words)) = omega (arith, size) in
    lt-true (length step) (length (step ++ (codes ": " ++ words))) below
  where
    lt-true : (a b : ℕ) → a < b → nat_lt a b ≡ true
    lt-true a b below = grind (arith, common_steps)

position-first : (step words : Text) → NoColon step
    → position is_colon (step ++ (codes ": " ++ words)) ≡ Some (length step)
position-first step words clear =
    let size = length (step ++ (codes ": " ++ words)) in
    ap (λ (n : ℕ). cond (nat_lt n size) (Some n) None) (place-first step words clear)
    ∙ ap (λ (b : Bool). cond b (Some (length step)) None) (within-bytes step words)

told_at-cut : (step words : Text) → 0 < length step
    → told_at (step ++ (codes ": " ++ words)) (length step) ≡ Some words
told_at-cut [] words some = absurd (omega (arith, some))
told_at-cut (b ∷ step) words some =
    behind-front (codes ": ") (drop (length (b ∷ step)) ((b ∷ step) ++ (codes ": " ++ words))) words
    (drop-append_seam (b ∷ step) (codes ": " ++ words))

told-behind : (step words : Text) → 0 < length step → NoColon step
    → told_behind (step ++ (codes ": " ++ words)) ≡ Some words
told-behind step words some clear =
    ap (option_and_then (told_at (step ++ (codes ": " ++ words))))
    (position-first step words clear)
    ∙ told_at-cut step words some

-- each line that tells words is read
pub tells-told_of : (number : ℕ) (line words : Text) → TellsOf number line words
    → told_of number line ≡ Some words
tells-told_of number line words tells =
    let front = decimal number ++ codes " " in
    let rest = tells.step ++ (codes ": " ++ words) in
    let all : line ≡ front ++ rest = tells.line_is
    ∙ sym (append_assoc (decimal number) (codes " ") rest) in
    ap (option_and_then told_behind) (behind-front front line rest all)
    ∙ told-behind tells.step words tells.some tells.one_colon

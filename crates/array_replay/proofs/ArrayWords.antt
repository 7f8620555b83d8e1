-- What the words of a line of a schedule of steps of several cache lines say.
use Rattle.std.proofs.Common.{◌≡◌, ◌≢◌, ℕ, List, [], ◌∷◌, Bool, true, false, Some, None, Option}
use Rattle.std.proofs.Common.{if◌then◌else◌, refl, sym, ◌∙◌, ap, subst}
use Rattle.std.specs.Prelude.{bytes_eq, codes, is_none}
use Rattle.std.specs.Option.{option_and_then}
use Rattle.std.proofs.lemmas.Option.{same_Some}
use Rattle.rv_base.proofs.Lists.{some_and_then}
use Rattle.proto_model.specs.Tokens.{Text}
use Rattle.ordered_links.specs.Link.{Link}
use Rattle.async_shape.specs.Site.{site, arrival_link}
use Rattle.async_shape.specs.declared.step.Step.{Step}
use Rattle.async_shape.specs.declared.step.Step.TheVariants as step
use Rattle.async_machine.specs.StepText.{step_words}
use Rattle.proto_model.specs.ScheduleNumbers.{number}
use Rattle.proto_model.proofs.ScheduleNumbers.{number-is, number-decimal}
use Rattle.rv_base.proofs.SameWords.{same-bytes}
use Rattle.run_replay.specs.StepLines.{HasNumbers, step_of}
use Rattle.run_replay.proofs.StepWords.{says-step, step_of-words}
use Rattle.line_array.specs.declared.line_step.LineStep.{LineStep}
use Rattle.line_array.specs.declared.line_step.LineStep.TheVariants as array
use Rattle.array_replay.specs.ArrayLines.{array_words, IsSayable, own_step, delivery, step_at}
use Rattle.array_replay.specs.ArrayLines.{array_step}

-- These are the words of the step, which a line can say.
abbrev IsSaid : List Text → LineStep → Type 0
IsSaid ws s = (ws ≡ array_words s) × IsSayable s

-- Equal words make equal lines.
after-at : {a x : Text} {ws others : List Text} → a ≡ x → ws ≡ others
    → codes "at" ∷ a ∷ ws ≡ codes "at" ∷ x ∷ others
after-at p q = cc

-- An own step of a cache line is one in which no packet arrives.
own-is : (a : ℕ) (s : Step) (answer : LineStep) → own_step a s ≡ Some answer
    → (array.At a s ≡ answer) × (arrival_link (site s) ≡ None)
own-is a s answer says = by (arrival_link (site s)) says where
  by : (link : Option Link) → (if is_none link then Some (array.At a s) else None) ≡ Some answer
      → (array.At a s ≡ answer) × (link ≡ None)
  by None is = (same_Some (array.At a s) answer is, refl)
  by (Some link) is = absurd (cc)

-- A step in which no packet arrives is an own step of a cache line.
is-own : (a : ℕ) (s : Step) → arrival_link (site s) ≡ None → own_step a s ≡ Some (array.At a s)
is-own a s none =
    ap (λ (link : Option Link). if is_none link then Some (array.At a s) else None) none

-- The words behind `at`.
says-at : (ws : List Text) (s : LineStep) → step_at ws ≡ Some s → IsSaid (codes "at" ∷ ws) s
says-at [] s says = absurd (cc)
says-at (a ∷ ws) s says =
    let at = some_and_then (λ n. option_and_then (own_step n) (step_of ws)) (number a) s says in
    let its = some_and_then (own_step at.0) (step_of ws) s at.2 in
    let written = number-is a at.0 at.1 in
    let words = says-step ws its.0 its.1 in
    let own = own-is at.0 its.0 s its.2 in
    subst (IsSaid (codes "at" ∷ a ∷ ws)) own.0
    (after-at written.0 words.0, (written.1, words.1, own.1))

-- The words of a delivery.
says-delivery : (ws : List Text) (s : LineStep) → option_and_then delivery (step_of ws) ≡ Some s
    → IsSaid ws s
says-delivery ws s says =
    let at = some_and_then delivery (step_of ws) s says in
    by at.0 (says-step ws at.0 at.1) at.2 where
      by : (t : Step) → (ws ≡ step_words t) × HasNumbers t → delivery t ≡ Some s → IsSaid ws s
      by (step.HomeTau g) words is = absurd (cc)
      by (step.HomeTake j) words is = absurd (cc)
      by (step.HomeSend g j) words is = absurd (cc)
      by (step.HomeDrop j) words is = absurd (cc)
      by (step.RemoteTau j g) words is = absurd (cc)
      by (step.RemoteSend j) words is = absurd (cc)
      by (step.RemoteAnswer j) words is = absurd (cc)
      by (step.RemoteReply j) words is = absurd (cc)
      by (step.Up j) words is = subst (IsSaid ws) (same_Some (array.Up j) s is) words
      by (step.Down j) words is = subst (IsSaid ws) (same_Some (array.Down j) s is) words

-- Words that say a step are its words.
pub says-array : (ws : List Text) (s : LineStep) → array_step ws ≡ Some s
    → (ws ≡ array_words s) × IsSayable s
says-array [] s says = absurd (cc)
says-array (w ∷ ws) s says = by (bytes_eq w (codes "at")) refl says where
  by : (at : Bool) → bytes_eq w (codes "at") ≡ at
      → (if at then step_at ws else option_and_then delivery (step_of (w ∷ ws))) ≡ Some s
      → IsSaid (w ∷ ws) s
  by true same is =
      subst (λ (word : Text). IsSaid (word ∷ ws) s) (sym (same-bytes w (codes "at") same))
      (says-at ws s is)
  by false other is = says-delivery (w ∷ ws) s is

-- A step's words say it.
pub array_step-words : (s : LineStep) → IsSayable s → array_step (array_words s) ≡ Some s
array_step-words (array.At a s) small =
    rw (number-decimal a small.0, step_of-words s small.1) (is-own a s small.2)
array_step-words (array.Up j) small = rw (number-decimal j small) refl
array_step-words (array.Down j) small = rw (number-decimal j small) refl

-- So words that say no step are those of none.
pub says-none : (ws : List Text) → array_step ws ≡ None → (s : LineStep) → IsSayable s
    → ws ≢ array_words s
says-none ws none s small same =
    let some = ap array_step same ∙ array_step-words s small in absurd (cc)

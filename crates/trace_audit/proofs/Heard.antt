-- What a line did that was taken.
use Rattle.std.proofs.Common.{◌≡◌, ℕ, ◌+◌, Bool, true, false, Some, None, inl, inr, ◌⊎◌, refl, sym}
use Rattle.std.specs.Prelude.{bytes_eq, codes, ◌++◌, if◌then◌else◌}
use Rattle.std.specs.Option.{option_map, option_and_then}
use Rattle.std.specs.declared.option.Option.{Option}
use Rattle.rv_base.proofs.Lists.{some_when, some_map, some_and_then}
use Rattle.rv_base.proofs.SameWords.{same-bytes}
use Rattle.proto_model.specs.Tokens.{Text}
use Rattle.proto_model.specs.RendezvousNext.{rv_next}
use Rattle.proto_model.specs.declared.rendezvous.Event.{Event}
use Rattle.proto_model.specs.declared.rendezvous.RvConfig.{RvConfig}
use Rattle.rendezvous_meaning.specs.GivenMessage.{event_told}
use Rattle.schedule_replay.specs.EventLines.{leading_event}
use Rattle.trace_audit.specs.Auditing.{Auditing, told_of, is_quiet, is_indented, after_event}
use Rattle.trace_audit.specs.Auditing.{after_words, in_section, with_event, hear}
use Rattle.trace_audit.specs.Auditing.{abstraction_line, abstraction_text, line_in}
use Rattle.trace_audit.specs.declared.auditor.Section.{Section}
use Rattle.trace_audit.specs.declared.auditor.Section.TheVariants.{Steps, States, Abstraction}

same : {X : Type 0} (x y : X) → Some x ≡ Some y → y ≡ x
same x y e = cc

-- An event was told with its message, and carried out.
pub record HearsEvent (at : Auditing) (number : ℕ) (words : Text) (new : Auditing) : Type 0 where
  pub event : Event
  pub config : RvConfig
  pub words_are : words ≡ event_told at.standing.protocol at.standing.config event
  pub leads : rv_next at.standing.protocol at.standing.config event ≡ Some config
  pub new_is : new ≡ with_event at number config

-- No event was told, or one.
abbrev pub HearsWords : Auditing → ℕ → Text → Auditing → Type 0
HearsWords at number words new =
    ((is_quiet words ≡ true) × (new ≡ in_section at (Steps number)))
    ⊎ HearsEvent at number words new

-- A line of the first part.
pub record TellsStep (at : Auditing) (number : ℕ) (line : Text) (new : Auditing) : Type 0 where
  pub words : Text
  pub told : told_of number line ≡ Some words
  pub hears : HearsWords at number words new

abbrev pub StepsLineIs : Auditing → ℕ → Text → Auditing → Type 0
StepsLineIs at told line new =
    ((is_indented line ≡ true) × (new ≡ at))
    ⊎ (((line ≡ codes "end") × (new ≡ in_section at States))
    ⊎ TellsStep at (told + 1) line new)

-- A line of the second part.
abbrev pub StatesLineIs : Auditing → Text → Auditing → Type 0
StatesLineIs at line new =
    ((is_indented line ≡ true) × (new ≡ at))
    ⊎ ((line ≡ codes "abstract") × (new ≡ in_section at (Abstraction 0)))

-- A line of the third part.
abbrev pub AbstractionLineIs : Auditing → ℕ → Text → Auditing → Type 0
AbstractionLineIs at seen line new =
    (line ++ codes "\n" ≡ abstraction_text at.standing seen)
    × (new ≡ in_section at (Abstraction (seen + 1)))

-- The line stood in this part.
abbrev pub LineIs : Auditing → Section → Text → Auditing → Type 0
LineIs at (Steps told) line new = StepsLineIs at told line new
LineIs at States line new = StatesLineIs at line new
LineIs at (Abstraction seen) line new = AbstractionLineIs at seen line new

-- what is there only under a test
pub some_if : {X : Type 0} (test : Bool) (o : Option X) (x : X)
    → (if test then o else None) ≡ Some x → (test ≡ true) × (o ≡ Some x)
some_if true o x e = (refl, e)
some_if false o x e = absurd (cc)

hears-event : (at : Auditing) (number : ℕ) (words : Text) (new : Auditing) (config : RvConfig)
    → after_words at.standing words ≡ Some config → with_event at number config ≡ new
    → HearsEvent at number words new
hears-event at number words new config leads goes =
    let event = some_and_then (after_event at.standing words) (leading_event words) config leads in
    let told = event_told at.standing.protocol at.standing.config event.0 in
    let taken = some_if (bytes_eq words told)
    (rv_next at.standing.protocol at.standing.config event.0) config event.2 in
    record {
      event = event.0;
      config = config;
      words_are = same-bytes words told taken.0;
      leads = taken.1;
      new_is = sym goes;
    }

hears-by : (at : Auditing) (number : ℕ) (words : Text) (new : Auditing) (quiet : Bool)
    → is_quiet words ≡ quiet
    → (if quiet then Some (in_section at (Steps number))
    else option_map (with_event at number) (after_words at.standing words)) ≡ Some new
    → HearsWords at number words new
hears-by at number words new true q e = inl (q, same (in_section at (Steps number)) new e)
hears-by at number words new false q e =
    let config = some_map (with_event at number) (after_words at.standing words) new e in
    inr (hears-event at number words new config.0 config.1 config.2)

hears : (at : Auditing) (number : ℕ) (words : Text) (new : Auditing)
    → hear at number words ≡ Some new → HearsWords at number words new
hears at number words new e = hears-by at number words new (is_quiet words) refl e

tells-step : (at : Auditing) (number : ℕ) (line : Text) (new : Auditing)
    → option_and_then (hear at number) (told_of number line) ≡ Some new
    → TellsStep at number line new
tells-step at number line new e =
    let words = some_and_then (hear at number) (told_of number line) new e in
    record { words = words.0; told = words.1; hears = hears at number words.0 new words.2 }

steps-by : (at : Auditing) (told : ℕ) (line : Text) (new : Auditing) (indented last : Bool)
    → is_indented line ≡ indented → bytes_eq line (codes "end") ≡ last
    → (if indented then Some at
    else (if last then Some (in_section at States)
    else option_and_then (hear at (told + 1)) (told_of (told + 1) line))) ≡ Some new
    → StepsLineIs at told line new
steps-by at told line new true last i l e = inl (i, same at new e)
steps-by at told line new false true i l e =
    inr (inl (same-bytes line (codes "end") l, same (in_section at States) new e))
steps-by at told line new false false i l e = inr (inr (tells-step at (told + 1) line new e))

states-by : (at : Auditing) (line : Text) (new : Auditing) (indented last : Bool)
    → is_indented line ≡ indented → bytes_eq line (codes "abstract") ≡ last
    → (if indented then Some at
    else (if last then Some (in_section at (Abstraction 0)) else None)) ≡ Some new
    → StatesLineIs at line new
states-by at line new true last i l e = inl (i, same at new e)
states-by at line new false true i l e =
    inr (same-bytes line (codes "abstract") l, same (in_section at (Abstraction 0)) new e)
states-by at line new false false i l e = absurd (cc)

abstraction-is : (at : Auditing) (seen : ℕ) (line : Text) (new : Auditing)
    → abstraction_line at seen line ≡ Some new → AbstractionLineIs at seen line new
abstraction-is at seen line new e =
    let test = bytes_eq (line ++ codes "\n") (abstraction_text at.standing seen) in
    let taken = some_when test (in_section at (Abstraction (seen + 1))) new e in
    (same-bytes (line ++ codes "\n") (abstraction_text at.standing seen) taken.0, sym taken.1)

-- a line that was taken
pub line-is : (at : Auditing) (section : Section) (line : Text) (new : Auditing)
    → line_in at section line ≡ Some new → LineIs at section line new
line-is at (Steps told) line new e =
    steps-by at told line new (is_indented line) (bytes_eq line (codes "end")) refl refl e
line-is at States line new e =
    states-by at line new (is_indented line) (bytes_eq line (codes "abstract")) refl refl e
line-is at (Abstraction seen) line new e = abstraction-is at seen line new e

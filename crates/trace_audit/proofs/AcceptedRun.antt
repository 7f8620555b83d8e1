-- A trace that is accepted prints a run of the rendezvous meaning, and its last configuration.
use Rattle.std.proofs.Common.{◌≡◌, ℕ, suc, ◌+◌, List, [], ◌∷◌, ◌++◌, length, Bool, true}
use Rattle.std.proofs.Common.{false}
use Rattle.std.proofs.Common.{Some, None, Ok, Err, inl, inr, ◌⊎◌, arith, refl, sym, ◌∙◌, ap, subst}
use Rattle.std.proofs.Common.{append_assoc}
use Rattle.std.proofs.lemmas.Grind.{common_steps}
use Rattle.std.proofs.lemmas.List.{append-nil}
use Rattle.std.specs.Prelude.{codes, bytes_eq, Result, ◌||◌, ◌==◌, nat_le, nat_lt, if◌then◌else◌}
use Rattle.std.specs.List.{AllByRecursion}
use Rattle.std.specs.declared.option.Option.{Option}
use Rattle.rv_base.proofs.Lists.{AllByRecursion-front, AllByRecursion-back}
use Rattle.proto_model.specs.Tokens.{Text}
use Rattle.proto_model.specs.Numbered.{NumberedProtocol}
use Rattle.proto_model.specs.declared.rendezvous.Event.{Event}
use Rattle.proto_model.specs.declared.rendezvous.RvConfig.{RvConfig}
use Rattle.proto_model.proofs.Steps.{RvStep-next}
use Rattle.rendezvous_meaning.specs.Standing.{Standing}
use Rattle.schedule_replay.specs.TextLines.{closed_lines, open_part, joined, HasNoLf}
use Rattle.schedule_replay.specs.RvPlay.{home_line, remote_lines}
use Rattle.schedule_replay.specs.declared.limits.Limits.{Limits}
use Rattle.trace_audit.specs.Auditing.{Auditing, audit_start, audit_line, is_whole}
use Rattle.trace_audit.specs.Auditing.{is_last, in_section, with_event, line_in}
use Rattle.trace_audit.specs.AuditedTrace.{Accepted, RefusedAt, line_then, concluded}
use Rattle.trace_audit.specs.AuditedTrace.{found}
use Rattle.trace_audit.specs.AuditedTrace.{line_within, after_lines, audited_from}
use Rattle.trace_audit.specs.PrintedRun.{RvRun, IsIndented, TellsOf, PrintsSteps, PrintsRun}
use Rattle.trace_audit.specs.declared.auditor.Section.{Section}
use Rattle.trace_audit.specs.declared.auditor.Section.TheVariants.{Steps, States, Abstraction}
use Rattle.trace_audit.proofs.ClosedAndOpen.{joined-closed_open, closed_lines-clear}
use Rattle.rv_base.proofs.SameWords.{same-bytes}
use Rattle.trace_audit.proofs.Heard.{HearsWords, StepsLineIs}
use Rattle.trace_audit.proofs.Heard.{StatesLineIs, LineIs, line-is}
use Rattle.trace_audit.proofs.StepLines.{told_of-tells, indented-is}
use Rattle.trace_audit.proofs.ShownTexts.{texts_from, line-shown, all-texts}

abbrev going : Auditing → Result Auditing ℕ
going at = Ok at

same-Ok : (x y : Auditing) → going x ≡ going y → y ≡ x
same-Ok x y e = cc

-- ---- one line

not-none : (test : Bool) (o : Option Auditing) (next : Auditing)
    → (if test then None else o) ≡ Some next → o ≡ Some next
not-none true o next e = absurd (cc)
not-none false o next e = e

module _ (limits : Limits) where
  -- the line was taken, and the others behind it
  record FirstLine (before : ℕ) (at : Auditing) (line : Text) (lines : List Text)
      (last : Auditing) : Type 0 where
    next : Auditing
    takes : audit_line at line ≡ Some next
    later : after_lines limits (before + 1) next lines ≡ Ok last

  first-by : (before : ℕ) (at : Auditing) (line : Text) (lines : List Text) (last : Auditing)
      (taken : Option Auditing) → line_within limits before at line ≡ taken
      → line_then before taken (λ next. after_lines limits (before + 1) next lines) ≡ Ok last
      → FirstLine before at line lines last
  first-by before at line lines last None is e = absurd (cc)
  first-by before at line lines last (Some next) is e = record {
    next = next;
    takes = not-none (nat_le limits.lines before || nat_lt limits.line (length line))
        (audit_line at line) next is;
    later = e;
  }

  first-line : (before : ℕ) (at : Auditing) (line : Text) (lines : List Text) (last : Auditing)
      → after_lines limits before at (line ∷ lines) ≡ Ok last
      → FirstLine before at line lines last
  first-line before at line lines last e =
      first-by before at line lines last (line_within limits before at line) refl e

  -- what it did, by the part in which it stood
  line-did : (at : Auditing) (section : Section) (line : Text) (next : Auditing)
      → at.section ≡ section → audit_line at line ≡ Some next → LineIs at section line next
  line-did at section line next is e =
      line-is at section line next (ap (λ s. line_in at s line) (sym is) ∙ e)

  -- the others, from where it led
  later-from : (before : ℕ) (next known last : Auditing) (lines : List Text) → next ≡ known
      → after_lines limits before next lines ≡ Ok last
      → after_lines limits before known lines ≡ Ok last
  later-from before next known last lines same e =
      ap (λ at. after_lines limits before at lines) (sym same) ∙ e

  unfinished : (at last : Auditing) (section : Section) → at.section ≡ section → last ≡ at
      → is_last at section ≡ false → is_whole last ≡ true → ⊥
  unfinished at last section is same missing whole =
      absurd (let now : is_last at at.section ≡ true = ap is_whole (sym same) ∙ whole in
      let there : is_last at section ≡ true = ap (is_last at) (sym is) ∙ now in cc)

  -- ---- the abstraction

  record AbstractionDone (at : Auditing) (seen : ℕ) (lines : List Text) (last : Auditing)
      : Type 0 where
    texts : joined lines ≡ texts_from at.standing seen (length lines)
    last_is : last ≡ in_section at (Abstraction (seen + length lines))

  abstraction-done : (before : ℕ) (at : Auditing) (seen : ℕ) (lines : List Text)
      (last : Auditing) → at.section ≡ Abstraction seen
      → after_lines limits before at lines ≡ Ok last → AbstractionDone at seen lines last
  abstraction-done before at seen [] last is e =
      let none : seen ≡ seen + 0 = omega arith in
      record {
        texts = refl;
        last_is = same-Ok at last e ∙ ap (in_section at) (is ∙ ap (λ n. Abstraction n) none);
      }
  abstraction-done before at seen (line ∷ lines) last is e =
      let first = first-line before at line lines last e in
      let did = line-did at (Abstraction seen) line first.next is first.takes in
      let one : seen + 1 ≡ suc seen = omega arith in
      let next : first.next ≡ in_section at (Abstraction (suc seen)) = did.1
      ∙ ap (λ n. in_section at (Abstraction n)) one in
      let later = abstraction-done (before + 1) (in_section at (Abstraction (suc seen))) (suc seen)
      lines last refl
      (later-from (before + 1) first.next (in_section at (Abstraction (suc seen))) last lines next
      first.later) in
      let count : suc seen + length lines ≡ seen + length (line ∷ lines) = omega arith in
      record {
        texts = line-shown at.standing seen line lines did.0 later.texts;
        last_is = later.last_is ∙ ap (λ n. in_section at (Abstraction n)) count;
      }

  -- ---- the lines of the controllers

  record StatesDone (at : Auditing) (lines : List Text) (last : Auditing) : Type 0 where
    states : List Text
    shown : List Text
    lines_are : lines ≡ states ++ codes "abstract" ∷ shown
    indented : AllByRecursion IsIndented states
    before : ℕ
    after : after_lines limits before (in_section at (Abstraction 0)) shown ≡ Ok last

  states-by : (before : ℕ) (at : Auditing) (line : Text) (lines : List Text) (last next : Auditing)
      → StatesLineIs at line next → after_lines limits before next lines ≡ Ok last
      → (after_lines limits before at lines ≡ Ok last → StatesDone at lines last)
      → StatesDone at (line ∷ lines) last
  states-by before at line lines last next (inl (indented, is)) later again =
      let done = again (later-from before next at last lines is later) in
      record {
        states = line ∷ done.states;
        shown = done.shown;
        lines_are = ap (λ ls. line ∷ ls) done.lines_are;
        indented = (indented-is line indented, done.indented);
        before = done.before;
        after = done.after;
      }
  states-by before at line lines last next (inr (ends, is)) later again = record {
    states = [];
    shown = lines;
    lines_are = ap (λ l. l ∷ lines) ends;
    indented = tt;
    before = before;
    after = later-from before next (in_section at (Abstraction 0)) last lines is later;
  }

  states-done : (before : ℕ) (at : Auditing) (lines : List Text) (last : Auditing)
      → at.section ≡ States → after_lines limits before at lines ≡ Ok last
      → is_whole last ≡ true → StatesDone at lines last
  states-done before at [] last is e whole =
      absurd (unfinished at last States is (same-Ok at last e) refl whole)
  states-done before at (line ∷ lines) last is e whole =
      let first = first-line before at line lines last e in
      states-by (before + 1) at line lines last first.next
      (line-did at States line first.next is first.takes) first.later
      (λ later. states-done (before + 1) at lines last is later whole)

  -- ---- the lines of the steps

  -- so far so many events, which lead here
  abbrev behind-steps : Auditing → ℕ → RvConfig → Auditing
  behind-steps at count config = record {
    section = States;
    events = at.events + count;
    standing = record { protocol = at.standing.protocol; config = config };
  }

  record StepsDone (at : Auditing) (told : ℕ) (lines : List Text) (last : Auditing) : Type 0 where
    steps : List Text
    others : List Text
    events : List Event
    config : RvConfig
    lines_are : lines ≡ steps ++ codes "end" ∷ others
    prints : PrintsSteps at.standing.protocol told at.standing.config steps events config
    run : RvRun at.standing.protocol at.standing.config events config
    before : ℕ
    after : after_lines limits before (behind-steps at (length events) config) others ≡ Ok last

  quiet-words : (words : Text) (refused : Bool) → bytes_eq words (codes "refused") ≡ refused
      → (refused || bytes_eq words (codes "stutter")) ≡ true
      → (words ≡ codes "refused") ⊎ (words ≡ codes "stutter")
  quiet-words words true e quiet = inl (same-bytes words (codes "refused") e)
  quiet-words words false e quiet = inr (same-bytes words (codes "stutter") quiet)

  tells-quiet : (number : ℕ) (line words : Text) → TellsOf number line words
      → (words ≡ codes "refused") ⊎ (words ≡ codes "stutter")
      → TellsOf number line (codes "refused") ⊎ TellsOf number line (codes "stutter")
  tells-quiet number line words tells (inl is) = inl (subst (TellsOf number line) is tells)
  tells-quiet number line words tells (inr is) = inr (subst (TellsOf number line) is tells)

  words-by : (before : ℕ) (at : Auditing) (told : ℕ) (line words : Text) (lines : List Text)
      (last next : Auditing) → TellsOf (told + 1) line words → HearsWords at (told + 1) words next
      → after_lines limits before next lines ≡ Ok last
      → ((from : Auditing) → from.section ≡ Steps (told + 1)
      → after_lines limits before from lines ≡ Ok last → StepsDone from (told + 1) lines last)
      → StepsDone at told (line ∷ lines) last
  words-by before at told line words lines last next tells (inl (quiet, is)) later again =
      let from = in_section at (Steps (told + 1)) in
      let done = again from refl (later-from before next from last lines is later) in
      record {
        steps = line ∷ done.steps;
        others = done.others;
        events = done.events;
        config = done.config;
        lines_are = ap (λ ls. line ∷ ls) done.lines_are;
        prints = inr (inl (
          tells-quiet (told + 1) line words tells
              (quiet-words words (bytes_eq words (codes "refused")) refl quiet),
          done.prints,
        ));
        run = done.run;
        before = done.before;
        after = done.after;
      }
  words-by before at told line words lines last next tells (inr hears) later again =
      let from = with_event at (told + 1) hears.config in
      let done = again from refl (later-from before next from last lines hears.new_is later) in
      let step = RvStep-next at.standing.protocol at.standing.config hears.event hears.config
      hears.leads in
      let count : at.events + 1 + length done.events
      ≡ at.events + length (hears.event ∷ done.events) = omega arith in
      record {
        steps = line ∷ done.steps;
        others = done.others;
        events = hears.event ∷ done.events;
        config = done.config;
        lines_are = ap (λ ls. line ∷ ls) done.lines_are;
        prints = inr (inr (
          hears.event,
          done.events,
          hears.config,
          refl,
          step,
          subst (TellsOf (told + 1) line) hears.words_are tells,
          done.prints,
        ));
        run = (hears.config, step, done.run);
        before = done.before;
        after = ap (λ n. after_lines limits done.before (record {
          section = States;
          events = n;
          standing = record { protocol = at.standing.protocol; config = done.config };
        }) done.others) (sym count)
            ∙ done.after;
      }

  steps-by : (before : ℕ) (at : Auditing) (told : ℕ) (line : Text) (lines : List Text)
      (last next : Auditing) → StepsLineIs at told line next
      → after_lines limits before next lines ≡ Ok last
      → (after_lines limits before at lines ≡ Ok last → StepsDone at told lines last)
      → ((from : Auditing) → from.section ≡ Steps (told + 1)
      → after_lines limits before from lines ≡ Ok last → StepsDone from (told + 1) lines last)
      → StepsDone at told (line ∷ lines) last
  steps-by before at told line lines last next (inl (indented, is)) later same again =
      let done = same (later-from before next at last lines is later) in
      record {
        steps = line ∷ done.steps;
        others = done.others;
        events = done.events;
        config = done.config;
        lines_are = ap (λ ls. line ∷ ls) done.lines_are;
        prints = inl (indented-is line indented, done.prints);
        run = done.run;
        before = done.before;
        after = done.after;
      }
  steps-by before at told line lines last next (inr (inl (ends, is))) later same again =
      let none : at.events + 0 ≡ at.events = omega arith in
      record {
        steps = [];
        others = lines;
        events = [];
        config = at.standing.config;
        lines_are = ap (λ l. l ∷ lines) ends;
        prints = (refl, refl);
        run = refl;
        before = before;
        after = ap (λ n. after_lines limits before (record {
          section = States;
          events = n;
          standing = at.standing;
        }) lines) none
            ∙ later-from before next (in_section at States) last lines is later;
      }
  steps-by before at told line lines last next (inr (inr tells)) later same again =
      words-by before at told line tells.words lines last next
      (told_of-tells (told + 1) line tells.words tells.told) tells.hears later again

  steps-done : (before : ℕ) (at : Auditing) (told : ℕ) (lines : List Text) (last : Auditing)
      → at.section ≡ Steps told → after_lines limits before at lines ≡ Ok last
      → is_whole last ≡ true → StepsDone at told lines last
  steps-done before at told [] last is e whole =
      absurd (unfinished at last (Steps told) is (same-Ok at last e) refl whole)
  steps-done before at told (line ∷ lines) last is e whole =
      let first = first-line before at line lines last e in
      steps-by (before + 1) at told line lines last first.next
      (line-did at (Steps told) line first.next is first.takes) first.later
      (λ later. steps-done (before + 1) at told lines last is later whole)
      (λ from at_steps later. steps-done (before + 1) from (told + 1) lines last at_steps later
      whole)

  -- ---- the whole trace

  -- the lines were taken, no byte stands behind the last LF, and the trace is whole
  record IsAccepted (start : Auditing) (text : List ℕ) (count : ℕ) : Type 0 where
    last : Auditing
    takes : after_lines limits 0 start (closed_lines text) ≡ Ok last
    closed : open_part text ≡ []
    whole : is_whole last ≡ true
    events : last.events ≡ count

  whole-by : (start last : Auditing) (text : List ℕ) (lines count : ℕ) (whole : Bool)
      → after_lines limits 0 start (closed_lines text) ≡ Ok last → open_part text ≡ []
      → is_whole last ≡ whole
      → (if whole then Accepted last.events else RefusedAt (lines + 1)) ≡ Accepted count
      → IsAccepted start text count
  whole-by start last text lines count true takes closed is e = record {
    last = last;
    takes = takes;
    closed = closed;
    whole = is;
    events = cc;
  }
  whole-by start last text lines count false takes closed is e = absurd (cc)

  concluded-by : (start last : Auditing) (text part : List ℕ) (lines count : ℕ)
      → after_lines limits 0 start (closed_lines text) ≡ Ok last → open_part text ≡ part
      → concluded lines last part ≡ Accepted count → IsAccepted start text count
  concluded-by start last text [] lines count takes closed e =
      whole-by start last text lines count (is_whole last) takes closed refl e
  concluded-by start last text (b ∷ part) lines count takes closed e = absurd (cc)

  found-by : (start : Auditing) (text : List ℕ) (lines count : ℕ) (after : Result Auditing ℕ)
      → after_lines limits 0 start (closed_lines text) ≡ after
      → found lines after (open_part text) ≡ Accepted count → IsAccepted start text count
  found-by start text lines count (Ok last) is e =
      concluded-by start last text (open_part text) lines count is refl e
  found-by start text lines count (Err number) is e = absurd (cc)

  all-seen : (at last : Auditing) (seen : ℕ) → last ≡ in_section at (Abstraction seen)
      → is_whole last ≡ true → seen ≡ suc (length at.standing.config.remotes)
  all-seen at last seen is whole =
      let test : (seen == length at.standing.config.remotes + 1) ≡ true =
      ap is_whole (sym is) ∙ whole in
      same-number seen (length at.standing.config.remotes) test
    where
      same-number : (a b : ℕ) → (a == b + 1) ≡ true → a ≡ suc b
      same-number a b e = grind (arith, common_steps)

  joined-append : (lines more : List Text) → joined (lines ++ more) ≡ joined lines ++ joined more
  joined-append [] more = refl
  joined-append (line ∷ lines) more =
      ap (λ bytes. line ++ (10 ∷ bytes)) (joined-append lines more)
      ∙ sym (append_assoc line (10 ∷ joined lines) (joined more))

  -- the lines in front of the abstraction
  abbrev in-front : List Text → List Text → List Text
  in-front steps states = steps ++ (codes "end" ∷ (states ++ codes "abstract" ∷ []))

  fronted : (steps states shown : List Text)
      → steps ++ (codes "end" ∷ (states ++ codes "abstract" ∷ shown))
      ≡ in-front steps states ++ shown
  fronted steps states shown =
      ap (λ lines. steps ++ (codes "end" ∷ lines))
      (sym (append_assoc states (codes "abstract" ∷ []) shown))
      ∙ sym (append_assoc steps (codes "end" ∷ (states ++ codes "abstract" ∷ [])) shown)

  pub accepted-run : (protocol : NumberedProtocol) (n : ℕ) (text : List ℕ) (count : ℕ)
      → audited_from limits (audit_start protocol n) text ≡ Accepted count
      → (events : List Event) × (length events ≡ count) × PrintsRun protocol n text events
  accepted-run protocol n text count e =
      let start = audit_start protocol n in
      let whole = found-by start text (length (closed_lines text)) count
      (after_lines limits 0 start (closed_lines text)) refl e in
      let steps = steps-done 0 start 0 (closed_lines text) whole.last refl whole.takes
      whole.whole in
      let behind = behind-steps start (length steps.events) steps.config in
      let states = states-done steps.before behind steps.others whole.last refl steps.after
      whole.whole in
      let standing : Standing = record { protocol = protocol; config = steps.config } in
      let shown = abstraction-done states.before (in_section behind (Abstraction 0)) 0 states.shown
      whole.last refl states.after in
      let seen : 0 + length states.shown ≡ suc (length steps.config.remotes) =
      all-seen behind whole.last (0 + length states.shown) shown.last_is whole.whole in
      let size : length states.shown ≡ suc (length steps.config.remotes) = omega (arith, seen) in
      let lines : closed_lines text ≡ in-front steps.steps states.states ++ states.shown =
      steps.lines_are ∙ (ap (λ ls. steps.steps ++ (codes "end" ∷ ls)) states.lines_are
      ∙ fronted steps.steps states.states states.shown) in
      let texts : joined states.shown ≡ home_line standing ++ remote_lines standing =
      shown.texts ∙ (ap (texts_from standing 0) size ∙ all-texts standing) in
      let bytes : text ≡ joined (closed_lines text) =
      sym (joined-closed_open text) ∙ (ap (λ part. joined (closed_lines text) ++ part) whole.closed
      ∙ append-nil (joined (closed_lines text))) in
      let clear = subst (AllByRecursion HasNoLf) steps.lines_are (closed_lines-clear text) in
      let others = AllByRecursion-back HasNoLf steps.steps (codes "end" ∷ steps.others) clear in
      let told : 0 + length steps.events ≡ count =
      ap (λ (at : Auditing). at.events) (sym shown.last_is) ∙ whole.events in (
        steps.events,
        omega (arith, told),
        record {
          last = steps.config;
          run = steps.run;
          steps = steps.steps;
          states = states.states;
          prints = steps.prints;
          shows = states.indented;
          step_lines = AllByRecursion-front HasNoLf steps.steps (codes "end" ∷ steps.others)
              clear;
          state_lines = AllByRecursion-front HasNoLf states.states (codes "abstract" ∷ states.shown)
              (subst (AllByRecursion HasNoLf) states.lines_are others.1);
          text_is = bytes
              ∙ (ap joined lines ∙ (joined-append (in-front steps.steps states.states) states.shown
              ∙ ap (λ more. joined (in-front steps.steps states.states) ++ more) texts));
        },
      )

-- The block of a step of a run: the auditor takes its lines, and comes to the configuration for
-- which the next one stands.
use Rattle.std.proofs.Common.{◌≡◌, ◌≢◌, ◌≤◌, ◌<◌, ◌+◌, ℕ, Bool, true}
use Rattle.std.proofs.Common.{false}
use Rattle.std.proofs.Common.{[], ◌∷◌, ◌++◌, length, Option, Some, None, arith, refl, sym, ap}
use Rattle.std.proofs.Common.{◌∙◌, codes, decimal, subst, append_assoc, slice_get}
use Rattle.std.proofs.Common.{unwrap_or}
use Rattle.std.specs.Option.{option_map_or}
use Rattle.std.proofs.lemmas.List.Elements.{All-cons}
use Rattle.std.proofs.lemmas.Option.{slice_get_within}
use Rattle.proto_model.specs.Tokens.{Text}
use Rattle.proto_model.specs.Numbered.{NumberedProtocol}
use Rattle.proto_model.specs.Proper.{IsProper}
use Rattle.proto_model.specs.declared.rendezvous.RvConfig.{RvConfig}
use Rattle.proto_model.proofs.Steps.{rv_next-step}
use Rattle.rendezvous_meaning.specs.Standing.{Standing}
use Rattle.schedule_replay.specs.TextLines.{HasNoLf}
use Rattle.schedule_replay.specs.Played.{numbered_block}
use Rattle.async_shape.specs.Setting.{Setting}
use Rattle.async_shape.specs.Config.{Config}
use Rattle.async_shape.specs.Next.{next, displaced_sender}
use Rattle.async_shape.specs.Run.{after_step}
use Rattle.async_shape.specs.Shape.{IsShaped}
use Rattle.async_shape.specs.Site.{site, remote_named}
use Rattle.async_shape.specs.declared.config.RemoteState.{RemoteState}
use Rattle.async_shape.specs.declared.step.Step.{Step}
use Rattle.async_shape.proofs.EveryStepKeep.{IsShaped-next}
use Rattle.abstraction_map.specs.Abstraction.{abstraction}
use Rattle.abstraction_map.specs.Told.{told}
use Rattle.abstraction_map.specs.Meant.{Means}
use Rattle.abstraction_map.specs.declared.told.Told.{Told}
use Rattle.abstraction_map.specs.declared.told.Told.TheVariants.{Refused, Stutter, Is}
use Rattle.abstraction_map.proofs.Refined.{shaped-refined}
use Rattle.async_machine.specs.StepText.{step_text}
use Rattle.run_replay.specs.StepLines.{HasNumbers}
use Rattle.run_replay.specs.StateLines.{remote_state_line, remote_line_of}
use Rattle.run_replay.specs.RunTrace.{Running, run_play, shows_home, home_line_if}
use Rattle.run_replay.specs.RunTrace.{remote_line_if, lines_if}
use Rattle.run_replay.specs.ToldWords.{told_words}
use Rattle.trace_audit.specs.Auditing.{Auditing, hear}
use Rattle.trace_soundness.proofs.Plain.{IsPlain}
use Rattle.trace_soundness.specs.ShownLines.{IsShownLine}
use Rattle.trace_soundness.proofs.Fits.{Fits, fits-literal}
use Rattle.trace_soundness.proofs.Goes.{Goes, IsTraceLine, goes-line, goes-none, goes-append}
use Rattle.trace_soundness.proofs.StateLinesFit.{home-shown, remote-shown}
use Rattle.trace_soundness.proofs.StepLine.{at_steps, first_line, first_line-IsTraceLine}
use Rattle.trace_soundness.proofs.StepLine.{first_line-heard}
use Rattle.trace_soundness.proofs.HeardEvents.{event-heard}
use Rattle.trace_soundness.proofs.ToldFits.{event-small, event_told-fits}

-- ---- lines that show where a process stands

-- a line that begins with two spaces
pub shown-line : (rest : Text) → length rest + 2 ≤ 65536 → HasNoLf rest
    → IsTraceLine (32 ∷ 32 ∷ rest)
shown-line rest few one_line = record {
  few = omega (arith, few);
  one_line =
      let no_lf : 32 ≢ 10 = λ same. absurd (omega (arith, same)) in
      All-cons (λ b. b ≢ 10) 32 (32 ∷ rest) no_lf (All-cons (λ b. b ≢ 10) 32 rest no_lf one_line);
}

-- A line that begins with two spaces leaves the auditor where it is, among the steps.
pub shown-goes : (count events : ℕ) (standing : Standing) (text : Text) → IsShownLine text
    → Goes 1 (at_steps count events standing) (at_steps count events standing) text
shown-goes count events standing text is =
    subst (Goes 1 (at_steps count events standing) (at_steps count events standing)) (sym is.is)
    (goes-line (32 ∷ 32 ∷ is.rest) (shown-line is.rest is.few is.one_line) refl)

module _ (setting : Setting) (proper : IsProper setting.protocol) (plain : IsPlain setting.protocol)
    (count events : ℕ) (standing : Standing) where
  -- where the auditor stands
  abbrev here : Auditing
  here = at_steps count events standing

  -- the line of a remote, if it is there
  remote-goes_by : (d : Config) → IsShaped setting d → (j : ℕ) (found : Option RemoteState)
      → slice_get d.remotes j ≡ found
      → Goes 1 here here (option_map_or (remote_line_of setting.protocol d.links j) found [])
  remote-goes_by d shaped j None there = goes-none 1 here
  remote-goes_by d shaped j (Some remote) there =
      subst (λ (found : Option RemoteState).
      Goes 1 here here (option_map_or (remote_line_of setting.protocol d.links j) found [])) there
      (shown-goes count events standing (remote_state_line setting.protocol d j)
      (remote-shown setting d j proper plain shaped
      (slice_get_within d.remotes j remote there)))

  -- the line of this remote, if there is one
  remote-goes : (d : Config) → IsShaped setting d → (remote : Option ℕ)
      → Goes 1 here here (remote_line_if setting.protocol d remote)
  remote-goes d shaped None = goes-none 1 here
  remote-goes d shaped (Some j) = remote-goes_by d shaped j (slice_get d.remotes j) refl

  -- the line of the home, or none
  home-goes : (d : Config) → IsShaped setting d → (shows : Bool)
      → Goes 1 here here (home_line_if setting.protocol d shows)
  home-goes d shaped true =
      shown-goes count events standing _ (home-shown setting d proper plain shaped)
  home-goes d shaped false = goes-none 1 here

  -- the lines after a step, if it moved
  lines-go : (s : Step) (displaced : Option ℕ) (after : Option Config)
      → ((d : Config) → after ≡ Some d → IsShaped setting d)
      → Goes 3 here here (lines_if setting.protocol s displaced after)
  lines-go s displaced None shaped = goes-none 3 here
  lines-go s displaced (Some d) shaped =
      let is = shaped d refl in
      goes-append (home-goes d is (shows_home (site s)))
      (goes-append (remote-goes d is (remote_named (site s))) (remote-goes d is displaced))

-- ---- a block

-- The pieces of a block's first line, and what follows the line.
line-apart : (a b c d e rest : Text)
    → a ++ (b ++ (c ++ (d ++ (e ++ (10 ∷ rest)))))
    ≡ ((a ++ (b ++ (c ++ (d ++ e)))) ++ 10 ∷ []) ++ rest
line-apart a b c d e rest =
    let tail = 10 ∷ rest in
    ap (λ (text : Text). a ++ (b ++ text))
    (ap (λ (text : Text). c ++ text) (sym (append_assoc d e tail))
    ∙ sym (append_assoc c (d ++ e) tail))
    ∙ ap (λ (text : Text). a ++ text) (sym (append_assoc b (c ++ (d ++ e)) tail))
    ∙ sym (append_assoc a (b ++ (c ++ (d ++ e))) tail)
    ∙ sym (append_assoc (a ++ (b ++ (c ++ (d ++ e)))) (10 ∷ []) rest)

-- Where the auditor is led by what is told, and with how many events.
pub record Hears (protocol : NumberedProtocol) (c after : Config) (count events : ℕ) (words : Text)
    : Type 0 where
  pub most : ℕ
  pub fits : Fits most words
  pub short : most ≤ 60000
  pub events_after : ℕ
  pub hears :
      hear (at_steps count events (record { protocol = protocol; config = abstraction protocol c }))
      (count + 1) words
      ≡ Some (at_steps (count + 1) events_after
      (record { protocol = protocol; config = abstraction protocol after }))

module _ (setting : Setting) (proper : IsProper setting.protocol) (plain : IsPlain setting.protocol)
    (c : Config) (shaped : IsShaped setting c) where
  -- the rendezvous configuration for which a configuration stands
  abbrev stands_for : Config → Standing
  stands_for at = record { protocol = setting.protocol; config = abstraction setting.protocol at }

  -- What is told of a step is heard, and leads to what the next configuration stands for.
  told-heard : (count events : ℕ) (what : Told) (after : Option Config) → Means setting c what after
      → Hears setting.protocol c (unwrap_or after c) count events
      (told_words setting.protocol (abstraction setting.protocol c) what)
  told-heard count events Refused after means = record {
    most = 7;
    fits = fits-literal (codes "refused") refl;
    short = omega arith;
    events_after = events;
    hears = ap (λ (found : Option Config). Some
        (at_steps (count + 1) events (stands_for (unwrap_or found c))))
        (sym means);
  }
  told-heard count events Stutter after means = record {
    most = 7;
    fits = fits-literal (codes "stutter") refl;
    short = omega arith;
    events_after = events;
    hears =
        ap (λ (config : RvConfig). Some (at_steps (count + 1) events
        (record { protocol = setting.protocol; config = config }))) (sym means.2)
        ∙ ap (λ (found : Option Config). Some
        (at_steps (count + 1) events (stands_for (unwrap_or found c))))
        (sym means.1);
  }
  told-heard count events (Is e) after means =
      let stands = (shaped-refined setting c shaped proper).config in
      let small = event-small setting.protocol proper (abstraction setting.protocol c)
      (abstraction setting.protocol means.0) stands e means.2 in
      record {
        most = 257;
        fits = event_told-fits setting.protocol proper plain (abstraction setting.protocol c) stands
            e
            small;
        short = omega arith;
        events_after = events + 1;
        hears =
            event-heard count events (count + 1) (stands_for c) e
            (abstraction setting.protocol means.0) small
            (rv_next-step setting.protocol (abstraction setting.protocol c) e
            (abstraction setting.protocol means.0) means.2)
            ∙ ap (λ (found : Option Config). Some (at_steps (count + 1) (events + 1)
            (stands_for (unwrap_or found c)))) (sym means.1);
      }

-- A block, and where it leads: the number of events, and the lines.
pub record BlockGoes (setting : Setting) (c after : Config) (count events : ℕ) (text : Text) : Type
    0
  where
    pub events_after : ℕ
    pub goes :
        Goes 4
        (at_steps count events
        (record { protocol = setting.protocol; config = abstraction setting.protocol c }))
        (at_steps (count + 1) events_after
        (record { protocol = setting.protocol; config = abstraction setting.protocol after }))
        text

-- The block of a step.
pub block-goes : (running : Running) (s : Step) (count events : ℕ)
    → IsProper running.setting.protocol → IsPlain running.setting.protocol
    → IsShaped running.setting running.config → count < 1000000 → HasNumbers s
    → BlockGoes running.setting running.config (after_step running.setting running.config s) count
    events (numbered_block run_play count running s)
block-goes running s count events proper plain shaped few small =
    let setting = running.setting in
    let c = running.config in
    let protocol = setting.protocol in
    let words = told_words protocol (abstraction protocol c) (told setting c s) in
    let means = (shaped-refined setting c shaped proper).steps s in
    let heard = told-heard setting proper plain c shaped count events (told setting c s)
    (next setting c s) means in
    let stands : Standing = record { protocol = protocol; config = abstraction protocol c } in
    let stands_after : Standing = record {
      protocol = protocol;
      config = abstraction protocol (after_step setting c s);
    } in
    let line = first_line (count + 1) s words in
    let shown = lines_if protocol s (displaced_sender setting c s) (next setting c s) in
    record {
      events_after = heard.events_after;
      goes =
          subst (Goes 4 (at_steps count events stands)
          (at_steps (count + 1) heard.events_after stands_after))
          (sym (line-apart (decimal (count + 1)) (codes " ") (step_text s) (codes ": ") words
          shown))
          (goes-append
          (goes-line line
          (first_line-IsTraceLine heard.most (count + 1) s words (omega (arith, few)) small
          heard.fits
          heard.short)
          (first_line-heard count events stands s words
          (at_steps (count + 1) heard.events_after stands_after) few small heard.hears))
          (lines-go setting proper plain (count + 1) heard.events_after stands_after s
          (displaced_sender setting c s) (next setting c s)
          (λ d did. IsShaped-next setting proper c d s shaped did)));
    }

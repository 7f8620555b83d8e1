-- What is played of a schedule of steps, line by line: the auditor takes the blocks.
use Rattle.std.proofs.Common.{◌≡◌, ◌≤◌, ◌<◌, ◌+◌, ◌*◌, ℕ, zero, suc, Bool, true, false, List}
use Rattle.std.proofs.Common.{[], ◌∷◌}
use Rattle.std.proofs.Common.{length, Option, Some, None, arith, refl, sym, subst}
use Rattle.std.proofs.Common.{nat_le, nat_lt}
use Rattle.std.proofs.Math.Nat.{suc-mul}
use Rattle.std.proofs.lemmas.Grind.{common_steps}
use Rattle.std.proofs.lemmas.Option.{slice_get_within}
use Rattle.rv_base.specs.Words.{words}
use Rattle.proto_model.specs.Tokens.{Text}
use Rattle.proto_model.specs.Numbered.{NumberedProtocol}
use Rattle.proto_model.specs.Proper.{IsProper}
use Rattle.proto_model.specs.declared.numbered.NumberedClaim.{NumberedClaim}
use Rattle.rendezvous_meaning.specs.Claims.{broken, remote_states}
use Rattle.rendezvous_meaning.specs.Standing.{Standing}
use Rattle.rendezvous_meaning.proofs.BrokenClaims.{broken-first}
use Rattle.schedule_replay.specs.ScheduleLimits.{schedule_limits}
use Rattle.schedule_replay.specs.Played.{Stop, AtEnd, AtLine, TooMany, Halted, Played}
use Rattle.schedule_replay.specs.Played.{played_lines, played_from, stopped}
use Rattle.schedule_replay.specs.Played.{line_then, unless_halted, behind, numbered_block}
use Rattle.schedule_replay.specs.declared.player.Meaning.{Meaning}
use Rattle.schedule_replay.specs.declared.player.Meaning.TheVariants.{Blank, Says, Bad}
use Rattle.async_shape.specs.Config.{Config}
use Rattle.async_shape.specs.Run.{after_step}
use Rattle.async_shape.specs.Shape.{IsShaped}
use Rattle.async_shape.specs.declared.step.Step.{Step}
use Rattle.async_shape.proofs.EveryStepKeep.{IsShaped-after_step}
use Rattle.abstraction_map.specs.Abstraction.{abstraction}
use Rattle.run_replay.specs.StepLines.{HasNumbers, step_of, step_line, line_of_words, said}
use Rattle.run_replay.specs.RunTrace.{Running, running_after, run_play}
use Rattle.run_replay.proofs.StepWords.{says-step}
use Rattle.trace_audit.specs.AuditedTrace.{found}
use Rattle.trace_soundness.proofs.Plain.{IsPlain}
use Rattle.trace_soundness.proofs.Goes.{Goes, goes-none, goes-append, goes-more}
use Rattle.trace_soundness.proofs.StepLine.{at_steps}
use Rattle.trace_soundness.proofs.BlocksGo.{block-goes}

-- A claim that is broken is one of the claims.
broken-within : (claims : List NumberedClaim) (states : List ℕ) (number : ℕ)
    → broken claims states ≡ Some number → number < length claims
broken-within claims states number is =
    let first = broken-first claims states number is in
    slice_get_within claims number first.broken_claim first.there

-- A step that a line says has numbers that a line can write.
said-small : (s t : Step) (ws : List Text) → step_of ws ≡ Some t → said (Some t) ≡ Says s
    → HasNumbers s
said-small s t ws is says =
    let same : t ≡ s = cc in
    subst HasNumbers same (says-step ws t is).1

words-small : (ws : List Text) (s : Step) (found : Option Step) → step_of ws ≡ found
    → said found ≡ Says s → HasNumbers s
words-small ws s None is says = absurd (cc)
words-small ws s (Some t) is says = said-small s t ws is says

line-small : (ws : List Text) (s : Step) → line_of_words ws ≡ Says s → HasNumbers s
line-small [] s says = absurd (cc)
line-small (w ∷ ws) s says = words-small (w ∷ ws) s (step_of (w ∷ ws)) refl says

-- what the configuration of the controllers stands for
abbrev pub stands_for : NumberedProtocol → Config → Standing
stands_for protocol c = record { protocol = protocol; config = abstraction protocol c }

-- What is played from here: it ends in a configuration that has the shape, and the auditor takes
-- its blocks, at most four lines for each line that may still come. Where a claim is broken, it is
-- one of the protocol's.
pub record PlayedGoes (room count events : ℕ) (running : Running) (all : Played Running) : Type 0
  where
    pub last : Config
    pub count_after : ℕ
    pub events_after : ℕ
    pub state : all.state
        ≡ record { claims = running.claims; setting = running.setting; config = last }
    pub shaped : IsShaped running.setting last
    pub few_steps : count ≤ 1000000 → count_after ≤ 1000000
    pub halts : (lines claim : ℕ) → all.stop ≡ Halted lines claim → claim < length running.claims
    pub goes :
        Goes (room * 4)
        (at_steps count events (stands_for running.setting.protocol running.config))
        (at_steps count_after events_after (stands_for running.setting.protocol last)) all.blocks

-- Nothing more is played.
stopped-goes : (room count events : ℕ) (running : Running) (stop : Stop)
    → IsShaped running.setting running.config
    → ((lines claim : ℕ) → stop ≡ Halted lines claim → claim < length running.claims)
    → PlayedGoes room count events running (stopped running stop)
stopped-goes room count events running stop shaped halts = record {
  last = running.config;
  count_after = count;
  events_after = events;
  state = refl;
  shaped = shaped;
  few_steps = λ few. few;
  halts = halts;
  goes = goes-none (room * 4) _;
}

-- A step is played, and then nothing more, or what follows.
step-goes : (room count events before : ℕ) (running : Running) (s : Step) (halt : Option ℕ)
    (later : Played Running)
    → IsProper running.setting.protocol → IsPlain running.setting.protocol
    → IsShaped running.setting running.config → count < 1000000 → HasNumbers s
    → run_play.halts (running_after running s) ≡ halt
    → ((events_after : ℕ) → PlayedGoes room (count + 1) events_after (running_after running s)
    later)
    → PlayedGoes (suc room) count events running
    (behind (numbered_block run_play count running s)
    (unless_halted halt (before + 1) (running_after running s) later))
step-goes room count events before running s (Some claim) later proper plain shaped few small
    broken follows =
    let block = block-goes running s count events proper plain shaped few small in
    let more : suc room * 4 ≡ room * 4 + 4 = suc-mul room 4 in
    record {
      last = after_step running.setting running.config s;
      count_after = count + 1;
      events_after = block.events_after;
      state = refl;
      shaped = IsShaped-after_step running.setting proper running.config s shaped;
      few_steps = λ less. omega (arith, few);
      halts = λ lines number same.
          let is : claim ≡ number = cc in
          let within = broken-within running.claims
          (remote_states (abstraction running.setting.protocol
          (after_step running.setting running.config s))) claim broken in
          omega (arith, is, within);
      goes = goes-more (suc room * 4)
          (goes-append block.goes (goes-none 0 _)) (omega (arith, more));
    }
step-goes room count events before running s None later proper plain shaped few small broken follows
    =
    let block = block-goes running s count events proper plain shaped few small in
    let rest = follows block.events_after in
    let more : suc room * 4 ≡ room * 4 + 4 = suc-mul room 4 in
    record {
      last = rest.last;
      count_after = rest.count_after;
      events_after = rest.events_after;
      state = rest.state;
      shaped = rest.shaped;
      few_steps = λ less. rest.few_steps (omega (arith, few));
      halts = rest.halts;
      goes = goes-more (suc room * 4) (goes-append block.goes rest.goes) (omega (arith, more));
    }

-- as many lines as may come, and one more
roomier : (room count events : ℕ) (running : Running) (all : Played Running)
    → PlayedGoes room count events running all → PlayedGoes (suc room) count events running all
roomier room count events running all is =
    let more : suc room * 4 ≡ room * 4 + 4 = suc-mul room 4 in
    record {
      last = is.last;
      count_after = is.count_after;
      events_after = is.events_after;
      state = is.state;
      shaped = is.shaped;
      few_steps = is.few_steps;
      halts = is.halts;
      goes = goes-more (suc room * 4) is.goes (omega (arith, more));
    }

-- the lines from here on
lines-go : (room before count events : ℕ) (running : Running) (lines : List Text)
    → IsProper running.setting.protocol → IsPlain running.setting.protocol
    → IsShaped running.setting running.config → before + room ≡ 1000000 → count ≤ before
    → PlayedGoes room count events running
    (played_lines run_play schedule_limits before count running lines)
lines-go room before count events running [] proper plain shaped total few =
    stopped-goes room count events running AtEnd shaped (λ l c same. absurd (cc))
lines-go zero before count events running (line ∷ lines) proper plain shaped total few =
    let full : nat_le 1000000 before ≡ true = grind (arith, common_steps) in
    subst (λ (many : Bool). PlayedGoes zero count events running
    (line_then run_play many (nat_lt 256 (length line)) (step_line line) before count running
    (λ c next. played_lines run_play schedule_limits (before + 1) c next lines))) (sym full)
    (stopped-goes zero count events running TooMany shaped (λ l c same. absurd (cc)))
lines-go (suc room) before count events running (line ∷ lines) proper plain shaped total few =
    by (nat_le 1000000 before) (nat_lt 256 (length line)) (step_line line) refl
    (λ c e next proper_next plain_next shaped_next few_next.
    lines-go room (before + 1) c e next lines proper_next plain_next shaped_next
    (omega (arith, total)) few_next)
  where
    by : (many long : Bool) (says : Meaning Step) → step_line line ≡ says
        → ((c e : ℕ) (next : Running) → IsProper next.setting.protocol
        → IsPlain next.setting.protocol
        → IsShaped next.setting next.config → c ≤ before + 1
        → PlayedGoes room c e next
        (played_lines run_play schedule_limits (before + 1) c next lines))
        → PlayedGoes (suc room) count events running
        (line_then run_play many long says before count running
        (λ c next. played_lines run_play schedule_limits (before + 1) c next lines))
    by true long says is later =
        stopped-goes (suc room) count events running TooMany shaped (λ l c same. absurd (cc))
    by false true says is later =
        stopped-goes (suc room) count events running (AtLine (before + 1)) shaped
        (λ l c same. absurd (cc))
    by false false Blank is later =
        roomier room count events running _
        (later count events running proper plain shaped (omega (arith, few)))
    by false false (Says s) is later =
        step-goes room count events before running s (run_play.halts (running_after running s)) _
        proper
        plain shaped (omega (arith, few, total)) (line-small (words line) s is) refl
        (λ e. later (count + 1) e (running_after running s) proper plain
        (IsShaped-after_step running.setting proper running.config s shaped) (omega (arith, few)))
    by false false Bad is later =
        stopped-goes (suc room) count events running (AtLine (before + 1)) shaped
        (λ l c same. absurd (cc))

-- a schedule
pub schedule-goes : (running : Running) (lines : List Text) → IsProper running.setting.protocol
    → IsPlain running.setting.protocol → IsShaped running.setting running.config
    → PlayedGoes 1000000 0 0 running (played_from run_play schedule_limits running lines)
schedule-goes running lines proper plain shaped = by (run_play.halts running) refl
  where
    by : (halt : Option ℕ) → run_play.halts running ≡ halt → PlayedGoes 1000000 0 0 running
        (unless_halted halt 0 running (played_lines run_play schedule_limits 0 0 running lines))
    by (Some claim) broken =
        stopped-goes 1000000 0 0 running (Halted 0 claim) shaped
        (λ l number same.
        let is : claim ≡ number = cc in
        let within = broken-within running.claims (remote_states (abstraction
        running.setting.protocol running.config)) claim broken in
        omega (arith, is, within))
    by None broken =
        lines-go 1000000 0 0 0 running lines proper plain shaped (omega arith) (omega arith)

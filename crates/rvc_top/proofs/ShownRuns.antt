-- Each run whose file isn't refused is shown: its blocks tell truly what its steps are.
use Rattle.std.proofs.Common.{◌≡◌, inl, inr, ℕ, ◌+◌, List, [], ◌∷◌}
use Rattle.std.proofs.Common.{refl, ap, subst}
use Rattle.std.specs.List.{AllByRecursion}
use Rattle.proto_model.specs.Tokens.{Text}
use Rattle.proto_model.specs.Numbered.{CheckedProtocol}
use Rattle.proto_model.specs.declared.mode.Mode.{Mode}
use Rattle.schedule_replay.specs.Played.{Played, played_text, played_from}
use Rattle.schedule_replay.specs.PlayedItems.{blocks_of}
use Rattle.schedule_replay.specs.ScheduleLimits.{schedule_limits}
use Rattle.schedule_replay.specs.TextLines.{lines_of}
use Rattle.async_shape.specs.Setting.{Setting}
use Rattle.async_shape.specs.Config.{Config}
use Rattle.async_shape.specs.Next.{next, displaced_sender}
use Rattle.async_shape.specs.Run.{run}
use Rattle.async_shape.specs.declared.step.Step.{Step}
use Rattle.abstraction_map.specs.Abstraction.{abstraction}
use Rattle.abstraction_map.specs.Told.{told}
use Rattle.abstraction_map.specs.Meant.{Means, IsRefined}
use Rattle.abstraction_map.specs.declared.told.Told.{Told}
use Rattle.abstraction_map.specs.declared.told.Told.TheVariants.{Refused, Stutter, Is}
use Rattle.run_replay.specs.RunTrace.{Running, running_after, run_play, run_start, lines_if}
use Rattle.run_replay.specs.ToldWords.{told_words}
use Rattle.run_replay.specs.WhereStopped.{played_behind, steps_in}
use Rattle.run_replay.proofs.FirstStop.{first_stop}
use Rattle.run_replay.proofs.StopsMean.{stop-means}
use Rattle.rvc_top.specs.Commands.{said_at}
use Rattle.rvc_top.specs.Verdict.{IsSaid}
use Rattle.rvc_top.specs.Shown.{Tells, AreBlocks, IsShown}
use Rattle.rvc_top.specs.ShownRuns.{EveryRunIsShown, EveryBootIsShown}
use Rattle.rvc_top.specs.declared.status.Status.{Status}
use Rattle.rvc_top.proofs.RunRefines.{run-refines, boot-refines}

-- what is told of a step that means it, tells truly what the step is
tells-truly : (setting : Setting) (c : Config) (s : Step) (what : Told)
    → Means setting c what (next setting c s)
    → Tells setting c s (told_words setting.protocol (abstraction setting.protocol c) what)
tells-truly setting c s Refused means = inl (refl, means)
tells-truly setting c s Stutter means = inr (inl (refl, means))
tells-truly setting c s (Is e) means = inr (inr (e, refl, means))

-- the blocks of steps from a configuration on, each of which means what is told of it
pub are-blocks : (running : Running) (before : ℕ) (steps : List Step)
    → AllByRecursion (IsRefined running.setting) (run running.setting running.config steps)
    → AreBlocks running.setting before running.config steps
    (blocks_of run_play before running steps)
are-blocks running before [] refined = refl
are-blocks running before (s ∷ steps) refined =
    let setting = running.setting in
    let c = running.config in
    let what = told setting c s in
    let means = refined.0.steps s in (
      _,
      _,
      refl,
      record {
        words = told_words setting.protocol (abstraction setting.protocol c) what;
        lines = lines_if setting.protocol s (displaced_sender setting c s) (next setting c s);
        is = refl;
        tells = tells-truly setting c s what means;
        stand = refl;
      },
      are-blocks (running_after running s) (before + 1) steps refined.1,
    )

module _ (n k : ℕ) (mode : Mode) (checked : CheckedProtocol)
    (refines : (steps : List Step)
    → AllByRecursion (IsRefined (run_start checked mode n k).setting)
    (run (run_start checked mode n k).setting (run_start checked mode n k).config steps))
    (schedule : Text) (status : Status) (text : Text) where
  -- What is said of a schedule that is played is what is said of the plain form.
  is-shown : IsSaid (said_at
      (played_from run_play schedule_limits (run_start checked mode n k) (lines_of schedule)).stop
      (played_text run_play
      (played_from run_play schedule_limits (run_start checked mode n k) (lines_of schedule))))
      status text
      → IsShown n k mode checked schedule status text
  is-shown said =
      let start = run_start checked mode n k in
      let lines = lines_of schedule in
      let all : Played Running = played_from run_play schedule_limits start lines in
      let first = first_stop run_play schedule_limits start lines in
      let plain : played_text run_play all
      ≡ played_text run_play (played_behind run_play start lines first.n all.stop) =
      ap (played_text run_play) first.same in
      record {
        lines = first.n;
        stop = all.stop;
        stops = first.first;
        means = stop-means schedule_limits start lines;
        blocks = blocks_of run_play 0 start (steps_in lines first.n);
        told = are-blocks start 0 (steps_in lines first.n) (refines (steps_in lines first.n));
        said = subst (λ (t : Text). IsSaid (said_at all.stop t) status text) plain said;
        refined = refines (steps_in lines first.n);
      }

pub every-run-shown : EveryRunIsShown
every-run-shown n k mode numbers file schedule status text (inl refused) decided =
    absurd (decided refused.0)
every-run-shown n k mode numbers file schedule status text (inr x) decided = (
  x.0,
  x.1,
  is-shown n k mode x.0 (run-refines n k mode numbers file x.0 x.1) schedule status text x.2,
)

pub every-boot-shown : EveryBootIsShown
every-boot-shown n k numbers file schedule status text (inl refused) decided =
    absurd (decided refused.0)
every-boot-shown n k numbers file schedule status text (inr x) decided = (
  x.0,
  x.1,
  is-shown n k x.0.mode x.0.checked (boot-refines n k numbers file x.0 x.1) schedule status text
      x.2,
)

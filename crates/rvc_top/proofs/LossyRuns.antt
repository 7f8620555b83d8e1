-- What `lossy` writes is what `run` writes of the steps that are taken.
use Rattle.std.proofs.Common.{◌≡◌, ℕ, ◌+◌, List, [], ◌∷◌, ◌++◌, refl, sym, ap, subst, ◌∙◌, inl, inr}
use Rattle.std.specs.List.{AllByRecursion}
use Rattle.proto_model.specs.Tokens.{Text}
use Rattle.proto_model.specs.Numbered.{CheckedProtocol}
use Rattle.proto_model.specs.declared.mode.Mode.{Mode}
use Rattle.proto_model.specs.declared.numbered.NumberedClaim.{NumberedClaim}
use Rattle.schedule_replay.specs.Played.{AtEnd, Played, numbered_block, played_text}
use Rattle.schedule_replay.specs.Played.{played_from}
use Rattle.schedule_replay.specs.PlayedItems.{blocks_of, state_at_end}
use Rattle.schedule_replay.specs.ScheduleLimits.{schedule_limits}
use Rattle.schedule_replay.specs.TextLines.{lines_of}
use Rattle.async_shape.specs.Run.{run}
use Rattle.async_shape.specs.declared.step.Step.{Step}
use Rattle.abstraction_map.specs.Meant.{IsRefined}
use Rattle.run_replay.specs.RunTrace.{Running, running_after, run_play, run_start}
use Rattle.run_replay.specs.WhereStopped.{IsFirstStop, items_in, steps_in, played_behind}
use Rattle.run_replay.proofs.FirstStop.{first_stop, played-behind}
use Rattle.lossy_replay.specs.LossyTrace.{LossyRunning, lossy_play, lossy_start}
use Rattle.lossy_replay.specs.StepsTaken.{steps_taken, blocks_taken, numbered_anew}
use Rattle.lossy_replay.proofs.TakenRuns.{of_taken}
use Rattle.rvc_top.specs.Forms.{checked_form}
use Rattle.rvc_top.specs.Commands.{said_at}
use Rattle.rvc_top.specs.Verdict.{IsSaid, TaskVerdict}
use Rattle.rvc_top.specs.AuditedRuns.{run_task}
use Rattle.rvc_top.specs.Shown.{AreBlocks}
use Rattle.rvc_top.specs.LossyRuns.{IsLossyShown, EveryLossyRunIsShown}
use Rattle.rvc_top.specs.declared.status.Status.{Status}
use Rattle.rvc_top.specs.declared.status.Status.TheVariants.{Done}
use Rattle.rvc_top.proofs.RunRefines.{run-refines}
use Rattle.rvc_top.proofs.ShownRuns.{are-blocks}

-- ---- claims are in no block

-- the same controllers in the same configuration, with other claims
abbrev with_claims : List NumberedClaim → Running → Running
with_claims claims running =
    record { claims = claims; setting = running.setting; config = running.config }

blocks-same : (claims : List NumberedClaim) (running : Running) (before : ℕ) (steps : List Step)
    → blocks_of run_play before running steps
    ≡ blocks_of run_play before (with_claims claims running) steps
blocks-same claims running before [] = refl
blocks-same claims running before (s ∷ steps) =
    ap (λ (text : Text). numbered_block run_play before running s ++ text)
    (blocks-same claims (running_after running s) (before + 1) steps)

ending-same : (claims : List NumberedClaim) (running : Running) (steps : List Step)
    → run_play.ending (state_at_end run_play running steps)
    ≡ run_play.ending (state_at_end run_play (with_claims claims running) steps)
ending-same claims running [] = refl
ending-same claims running (s ∷ steps) = ending-same claims (running_after running s) steps

-- ---- a run of `lossy`

module _ (n k : ℕ) (mode : Mode) (file : Text) (checked : CheckedProtocol)
    (holds : checked_form.Holds file checked)
    (refines : (steps : List Step)
    → AllByRecursion (IsRefined (run_start checked mode n k).setting)
    (run (run_start checked mode n k).setting (run_start checked mode n k).config steps))
    (schedule : Text) where
  module _ (count : ℕ) where
    module _ (other : Text) (lines : ℕ)
        (stops : IsFirstStop run_play schedule_limits (run_start checked mode n k)
        (lines_of other) lines AtEnd)
        (same : steps_in (lines_of other) lines
        ≡ steps_taken (lossy_start checked.protocol mode n k)
        (items_in lossy_play (lines_of schedule) count)) where
      verdict : TaskVerdict (run_task n k mode) file other Done
          (numbered_anew 0 (blocks_taken (lossy_start checked.protocol mode n k)
          (items_in lossy_play (lines_of schedule) count))
          ++ lossy_play.ending
          (state_at_end lossy_play (lossy_start checked.protocol mode n k)
          (items_in lossy_play (lines_of schedule) count)))
      verdict =
          let lossy = lossy_start checked.protocol mode n k in
          let start = run_start checked mode n k in
          let items = items_in lossy_play (lines_of schedule) count in
          let steps = steps_in (lines_of other) lines in
          let runs = of_taken lossy items in
          let blocks : numbered_anew 0 (blocks_taken lossy items) ≡ blocks_of run_play 0 start steps
          =
          runs.blocks
          ∙ (sym (blocks-same [] start 0 (steps_taken lossy items))
          ∙ ap (blocks_of run_play 0 start) (sym same)) in
          let ending : lossy_play.ending (state_at_end lossy_play lossy items)
          ≡ run_play.ending (state_at_end run_play start steps) =
          runs.ending
          ∙ (sym (ending-same [] start (steps_taken lossy items))
          ∙ ap (λ (taken : List Step). run_play.ending (state_at_end run_play start taken))
          (sym same)) in
          let text : numbered_anew 0 (blocks_taken lossy items)
          ++ lossy_play.ending (state_at_end lossy_play lossy items)
          ≡ played_text run_play (played_behind run_play start (lines_of other) lines AtEnd) =
          ap
          (λ (t : Text). t ++ lossy_play.ending (state_at_end lossy_play lossy items)) blocks
          ∙ ap (λ (t : Text). blocks_of run_play 0 start steps ++ t) ending in
          let plain : played_from run_play schedule_limits start (lines_of other)
          ≡ played_behind run_play start (lines_of other) lines AtEnd =
          played-behind run_play schedule_limits start (lines_of other) lines AtEnd stops in
          inr (
            checked,
            holds,
            subst
                (λ (all : Played Running). IsSaid (said_at all.stop (played_text run_play all)) Done
                (numbered_anew 0 (blocks_taken lossy items)
                ++ lossy_play.ending (state_at_end lossy_play lossy items)))
                (sym plain) (refl, text),
          )

    told : AreBlocks (run_start checked mode n k).setting 0 (run_start checked mode n k).config
        (steps_taken (lossy_start checked.protocol mode n k)
        (items_in lossy_play (lines_of schedule) count))
        (numbered_anew 0 (blocks_taken (lossy_start checked.protocol mode n k)
        (items_in lossy_play (lines_of schedule) count)))
    told =
        let lossy = lossy_start checked.protocol mode n k in
        let start = run_start checked mode n k in
        let items = items_in lossy_play (lines_of schedule) count in
        let steps = steps_taken lossy items in
        let blocks : blocks_of run_play 0 start steps ≡ numbered_anew 0 (blocks_taken lossy items) =
        blocks-same [] start 0 steps ∙ sym (of_taken lossy items).blocks in
        subst (λ (text : Text). AreBlocks start.setting 0 start.config steps text) blocks
        (are-blocks start 0 steps (refines steps))

  lossy-shown : (status : Status) (text : Text)
      → IsSaid (said_at
      (played_from lossy_play schedule_limits (lossy_start checked.protocol mode n k)
      (lines_of schedule)).stop
      (played_text lossy_play
      (played_from lossy_play schedule_limits (lossy_start checked.protocol mode n k)
      (lines_of schedule)))) status text
      → IsLossyShown n k mode file checked schedule status text
  lossy-shown status text said =
      let lossy = lossy_start checked.protocol mode n k in
      let lines = lines_of schedule in
      let all : Played LossyRunning = played_from lossy_play schedule_limits lossy lines in
      let first = first_stop lossy_play schedule_limits lossy lines in
      let plain : played_text lossy_play all
      ≡ played_text lossy_play (played_behind lossy_play lossy lines first.n all.stop) =
      ap (played_text lossy_play) first.same in
      record {
        lines = first.n;
        stop = all.stop;
        stops = first.first;
        said = subst (λ (t : Text). IsSaid (said_at all.stop t) status text) plain said;
        runs = of_taken lossy (items_in lossy_play lines first.n);
        told = told first.n;
        as_run = verdict first.n;
      }

pub every-lossy-shown : EveryLossyRunIsShown
every-lossy-shown n k mode numbers file schedule status text (inl refused) decided =
    absurd (decided refused.0)
every-lossy-shown n k mode numbers file schedule status text (inr x) decided = (
  x.0,
  x.1,
  lossy-shown n k mode file x.0 x.1 (run-refines n k mode numbers file x.0 x.1) schedule status text
      x.2,
)

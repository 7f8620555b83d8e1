-- What `lossy` writes is what `run` writes, but for the moves of the network and the steps that
-- wait.
use Rattle.std.specs.Prelude.{◌≡◌, ℕ, ◌++◌, Some}
use Rattle.proto_model.specs.Tokens.{Text}
use Rattle.proto_model.specs.Numbered.{CheckedProtocol}
use Rattle.proto_model.specs.declared.mode.Mode.{Mode}
use Rattle.schedule_replay.specs.Played.{Stop, AtEnd, last_text}
use Rattle.schedule_replay.specs.PlayedItems.{blocks_of, state_at_end}
use Rattle.schedule_replay.specs.ScheduleLimits.{schedule_limits}
use Rattle.schedule_replay.specs.TextLines.{lines_of}
use Rattle.run_replay.specs.RunTrace.{run_play, run_start}
use Rattle.run_replay.specs.WhereStopped.{IsFirstStop, items_in, steps_in}
use Rattle.lossy_replay.specs.LossyTrace.{lossy_play, lossy_start}
use Rattle.lossy_replay.specs.StepsTaken.{steps_taken, blocks_taken, numbered_anew, IsRunOfTaken}
use Rattle.rvc_top.specs.Forms.{checked_form}
use Rattle.rvc_top.specs.Commands.{Task, describe, said_at}
use Rattle.rvc_top.specs.Verdict.{IsSaid, TaskVerdict}
use Rattle.rvc_top.specs.AuditedRuns.{run_task}
use Rattle.rvc_top.specs.Shown.{AreBlocks}
use Rattle.rvc_top.specs.declared.command.Command.TheVariants.{Lossy}
use Rattle.rvc_top.specs.declared.status.Status.{Status}
use Rattle.rvc_top.specs.declared.status.Status.TheVariants.{Done, FileRefused}

-- what `lossy` does, with n remotes and k slots, in this mode
abbrev pub lossy_task : ℕ → ℕ → Mode → Task
lossy_task n k mode = (describe (Some (Lossy n k mode))).task

-- What is shown of a schedule over links that lose, repeat and reorder, where the run ends with
-- this status and writes this text: of a file, by its protocol.
pub record IsLossyShown (n k : ℕ) (mode : Mode) (file : Text) (checked : CheckedProtocol)
    (schedule : Text) (status : Status) (text : Text) : Type 0 where
  -- So many lines of the schedule are played, up to what stops it, and the text is the blocks of
  -- the items that they say, the last text, and the error text where the schedule is refused.
  pub lines : ℕ
  pub stop : Stop
  pub stops :
      IsFirstStop lossy_play schedule_limits (lossy_start checked.protocol mode n k)
      (lines_of schedule) lines stop
  pub said :
      IsSaid (said_at stop (blocks_of lossy_play 0 (lossy_start checked.protocol mode n k)
      (items_in lossy_play (lines_of schedule) lines)
      ++ last_text lossy_play
      (state_at_end lossy_play (lossy_start checked.protocol mode n k)
      (items_in lossy_play (lines_of schedule) lines)) stop))
      status text
  -- The steps that are taken on the way are a run of the controllers, and so are their blocks and
  -- the last text.
  pub runs :
      IsRunOfTaken (lossy_start checked.protocol mode n k)
      (items_in lossy_play (lines_of schedule) lines)
  -- Numbered anew, their blocks tell truly what these steps are in the protocol.
  pub told :
      AreBlocks (run_start checked mode n k).setting 0 (run_start checked mode n k).config
      (steps_taken (lossy_start checked.protocol mode n k)
      (items_in lossy_play (lines_of schedule) lines))
      (numbered_anew 0 (blocks_taken (lossy_start checked.protocol mode n k)
      (items_in lossy_play (lines_of schedule) lines)))
  -- A schedule of these steps alone, which `run` plays to its end, has the verdict that it is done
  -- with these blocks and the same last text.
  pub as_run :
      (other : Text) (count : ℕ)
      → IsFirstStop run_play schedule_limits (run_start checked mode n k) (lines_of other) count
      AtEnd
      → steps_in (lines_of other) count
      ≡ steps_taken (lossy_start checked.protocol mode n k)
      (items_in lossy_play (lines_of schedule) lines)
      → TaskVerdict (run_task n k mode) file other Done
      (numbered_anew 0 (blocks_taken (lossy_start checked.protocol mode n k)
      (items_in lossy_play (lines_of schedule) lines))
      ++ lossy_play.ending
      (state_at_end lossy_play (lossy_start checked.protocol mode n k)
      (items_in lossy_play (lines_of schedule) lines)))

-- Whatever the verdict of `lossy` is where the file isn't refused, the run is shown so.
abbrev pub EveryLossyRunIsShown : Type 0
EveryLossyRunIsShown =
    (n k : ℕ) (mode : Mode) → (describe (Some (Lossy n k mode))).Numbers
    → (file schedule : Text) (status : Status) (text : Text)
    → TaskVerdict (lossy_task n k mode) file schedule status text → (status ≡ FileRefused → ⊥)
    → (checked : CheckedProtocol) × checked_form.Holds file checked
    × IsLossyShown n k mode file checked schedule status text

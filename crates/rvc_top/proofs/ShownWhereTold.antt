-- Where all bytes are told and it is decided how the run ends, what `run` and `boot` write is
-- shown.
use Rattle.std.proofs.Common.{◌≡◌, ℕ, Option, Some, None, ◌++◌, IfSome, subst}
use Rattle.std.proofs.lemmas.Option.{none-some, same_Some}
use Rattle.proto_model.specs.Tokens.{Text}
use Rattle.proto_model.specs.declared.mode.Mode.{Mode}
use Rattle.schedule_replay.specs.declared.limits.Limits.{Limits}
use Rattle.rvc_top.specs.Forms.{FileForm}
use Rattle.rvc_top.specs.Commands.{Replay, ReplaysSchedule, describe}
use Rattle.rvc_top.specs.Verdict.{TaskVerdict}
use Rattle.rvc_top.specs.AuditedRuns.{run_task}
use Rattle.rvc_top.specs.BootedRuns.{boot_task}
use Rattle.rvc_top.specs.Endings.{Kind, Decided, ReadFailed, WriteFailed, Wanting, kind_of}
use Rattle.rvc_top.specs.Endings.{DecidedKind, IsDecided, Written, EndsBy, Ends, WhereTold}
use Rattle.rvc_top.specs.Endings.{FaultLeaves}
use Rattle.rvc_top.specs.Runs.{Seen, IsRun}
use Rattle.rvc_top.specs.ShownRuns.{IsShownOfFile, IsShownOfImage}
use Rattle.rvc_top.specs.declared.command.Command.TheVariants.{Run, Boot}
use Rattle.rvc_top.specs.declared.status.Status.{Status}
use Rattle.rvc_top.specs.declared.status.Status.TheVariants.{FileRefused}
use Rattle.rvc_top.proofs.ShownRuns.{every-run-shown, every-boot-shown}

-- where it is decided how the run ends, the text of the verdict is written
decided-written : (kind : Kind) (verdict : Status → Text → Type 0) (fault : Type 0) (old : Text)
    (new : Option Text) (status : Status) → DecidedKind kind
    → EndsBy kind verdict fault old new status → Written verdict old new status
decided-written (Decided reach) verdict fault old new status decided ends = ends
decided-written ReadFailed verdict fault old new status decided ends = absurd decided
decided-written WriteFailed verdict fault old new status decided ends = absurd decided
decided-written Wanting verdict fault old new status decided ends = absurd decided

module _ (Value : Type 0) (form : FileForm Value) (limits : Limits) (replay : Value → Replay) where
  -- what is so where file, schedule and sink tell their bytes, is so of these bytes
  at-told : (fact : Text → Text → Text → Type 0) (file schedule out : Option Text)
      (f s old : Text) → file ≡ Some f → schedule ≡ Some s → out ≡ Some old
      → WhereTold (ReplaysSchedule Value form limits replay) file schedule
      (λ x y. IfSome out (λ z. fact x y z))
      → fact f s old
  at-told fact None schedule out f s old file_is schedule_is out_is told =
      absurd (none-some f file_is)
  at-told fact (Some x) None out f s old file_is schedule_is out_is told =
      absurd (none-some s schedule_is)
  at-told fact (Some x) (Some y) None f s old file_is schedule_is out_is told =
      absurd (none-some old out_is)
  at-told fact (Some x) (Some y) (Some z) f s old file_is schedule_is out_is told =
      subst (λ (t : Text). fact t s old) (same_Some x f file_is)
      (subst (λ (t : Text). fact x t old) (same_Some y s schedule_is)
      (subst (λ (t : Text). fact x y t) (same_Some z old out_is) told.1))

  written-where : (file schedule out : Seen) (answer : Status)
      → IsRun (ReplaysSchedule Value form limits replay) file schedule out answer
      → (f s old : Text) → file.old.bytes ≡ Some f → schedule.old.bytes ≡ Some s
      → out.old.bytes ≡ Some old → IsDecided answer
      → Written (TaskVerdict (ReplaysSchedule Value form limits replay) f s) old out.new.bytes
      answer
  written-where file schedule out answer run f s old file_is schedule_is out_is decided =
      let task = ReplaysSchedule Value form limits replay in
      let fault : Text → Text → Text → Type 0 =
      λ x y z. FaultLeaves task file.old.faults file.new.faults x y schedule.new.bytes z
      out.new.bytes in
      decided-written (kind_of answer) (TaskVerdict task f s) (fault f s old) old out.new.bytes
      answer decided
      (at-told (λ x y z. Ends (TaskVerdict task x y) (fault x y z) z out.new.bytes answer)
      file.old.bytes schedule.old.bytes out.old.bytes f s old file_is schedule_is out_is run.bytes)

module _ (n k : ℕ) (file schedule out : Seen) (answer : Status) (f s old : Text)
    (file_is : file.old.bytes ≡ Some f) (schedule_is : schedule.old.bytes ≡ Some s)
    (out_is : out.old.bytes ≡ Some old) (decided : IsDecided answer)
    (not_refused : answer ≡ FileRefused → ⊥) where
  pub run-shown : (mode : Mode) → (describe (Some (Run n k mode))).Numbers
      → IsRun (run_task n k mode) file schedule out answer
      → (text : Text) × (out.new.bytes ≡ Some (old ++ text))
      × IsShownOfFile n k mode f s answer text
  run-shown mode numbers run =
      let written =
      written-where _ _ _ _ file schedule out answer run f s old file_is schedule_is out_is decided
      in (
        written.0,
        written.2,
        every-run-shown n k mode numbers f s answer written.0 written.1 not_refused,
      )

  pub boot-shown : (describe (Some (Boot n k))).Numbers
      → IsRun (boot_task n k) file schedule out answer
      → (text : Text) × (out.new.bytes ≡ Some (old ++ text))
      × IsShownOfImage n k f s answer text
  boot-shown numbers run =
      let written =
      written-where _ _ _ _ file schedule out answer run f s old file_is schedule_is out_is decided
      in (
        written.0,
        written.2,
        every-boot-shown n k numbers f s answer written.0 written.1 not_refused,
      )

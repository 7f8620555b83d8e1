-- What follows of a run: where nothing failed, the verdict's status is the answer.
use Rattle.std.proofs.Common.{◌≡◌, ◌⊎◌, ℕ, [], None, ap, subst, refl, inl, inr}
use Rattle.std.specs.declared.option.Option.{Option}
use Rattle.rv_base.specs.Outside.{Rose}
use Rattle.rvc_top.specs.Texts.{usage_text}
use Rattle.rvc_top.specs.Commands.{Task, describe}
use Rattle.rvc_top.specs.Verdict.{TaskVerdict}
use Rattle.rvc_top.specs.Endings.{kind_of, run_write_failed, IsOrFails, AnswersOrFails, Answers}
use Rattle.rvc_top.specs.Endings.{WhereTold}
use Rattle.rvc_top.specs.Endings.{ReadsFile, ReadsSchedule, FaultIsOf}
use Rattle.rvc_top.specs.Runs.{Seen, IsRun}
use Rattle.rvc_top.specs.declared.command.Command.{Command}
use Rattle.rvc_top.specs.declared.status.Status.{Status}
use Rattle.rvc_top.specs.declared.status.Status.TheVariants.{Usage, ReadFault, WriteFault, NoMemory}
use Rattle.rvc_top.proofs.Endings.{rose-where, where-then}

-- no read fault comes where no source that is read failed
pub no-fault : (task : Task) (file_old file_new schedule_old schedule_new : ℕ)
    (stopped : Type 0)
    → (ReadsFile task → Rose file_old file_new → ⊥)
    → (ReadsSchedule task → Rose schedule_old schedule_new → ⊥)
    → FaultIsOf task file_old file_new schedule_old schedule_new stopped → ⊥
no-fault task file_old file_new schedule_old schedule_new stopped no_file no_schedule
    (inl x) = no_file x.0 x.1
no-fault task file_old file_new schedule_old schedule_new stopped no_file no_schedule
    (inr x) = no_schedule x.1 x.2

-- an answer that is no fault is the status, or want of memory
exact-complete : (status answer : Status) → (answer ≡ ReadFault → ⊥) → (answer ≡ WriteFault → ⊥)
    → IsOrFails status answer → (answer ≡ status) ⊎ (answer ≡ NoMemory)
exact-complete status answer no_read no_write (inl e) = inl e
exact-complete status answer no_read no_write (inr (inl e)) = absurd (no_read e)
exact-complete status answer no_read no_write (inr (inr (inl e))) = absurd (no_write e)
exact-complete status answer no_read no_write (inr (inr (inr e))) = inr e

module _ (task : Task) (file schedule out : Seen) (answer : Status)
    (run : IsRun task file schedule out answer) where
  -- where no source that is read failed, no read fault is answered
  pub run-unfailed : (ReadsFile task → Rose file.old.faults file.new.faults → ⊥)
      → (ReadsSchedule task → Rose schedule.old.faults schedule.new.faults → ⊥)
      → answer ≡ ReadFault → ⊥
  run-unfailed no_file no_schedule e = no-fault task file.old.faults file.new.faults
      schedule.old.faults schedule.new.faults (schedule.Same × (out.new.bytes ≡ out.old.bytes))
      no_file no_schedule (run.read_fault e)

  run-unwritten : answer ≡ WriteFault → Rose out.old.faults out.new.faults
  run-unwritten e = rose-where (run_write_failed (kind_of answer)) out.old.faults out.new.faults
      (ap (λ s. run_write_failed (kind_of s)) e) run.write_count

  pub run-complete : (ReadsFile task → Rose file.old.faults file.new.faults → ⊥)
      → (ReadsSchedule task → Rose schedule.old.faults schedule.new.faults → ⊥)
      → (Rose out.old.faults out.new.faults → ⊥)
      → WhereTold task file.old.bytes schedule.old.bytes
      (λ f s. Answers (TaskVerdict task f s) answer)
  run-complete no_file no_schedule no_write =
      where-then task file.old.bytes schedule.old.bytes
      (λ f s. AnswersOrFails (TaskVerdict task f s) answer)
      (λ f s. Answers (TaskVerdict task f s) answer)
      (λ f s exact status text verdict. exact-complete status answer
      (run-unfailed no_file no_schedule) (λ e. no_write (run-unwritten e))
      (exact status text verdict)) run.exact

-- a run over words that have no form
pub no-form : (file schedule out : Seen) (answer : Status)
    → IsRun (describe None).task file schedule out answer → (answer ≡ Usage) ⊎ (answer ≡ WriteFault)
    ⊎ (answer ≡ NoMemory)
no-form file schedule out answer run = without (run.exact [] [] Usage usage_text (refl, refl))
  where
    without : IsOrFails Usage answer → (answer ≡ Usage) ⊎ (answer ≡ WriteFault)
        ⊎ (answer ≡ NoMemory)
    without (inl e) = inl e
    without (inr (inl e)) = absurd (run-unfailed (describe None).task file schedule out answer run
        (λ reads rose. reads) (λ reads rose. reads) e)
    without (inr (inr (inl e))) = inr (inl e)
    without (inr (inr (inr e))) = inr (inr e)

-- the run of what the words mean is that of what was found
pub run-of : (found command : Option Command) → found ≡ command → (file schedule out : Seen)
    (answer : Status) → IsRun (describe found).task file schedule out answer
    → IsRun (describe command).task file schedule out answer
run-of found command same file schedule out answer run =
    subst (λ (m : Option Command). IsRun (describe m).task file schedule out answer) same run

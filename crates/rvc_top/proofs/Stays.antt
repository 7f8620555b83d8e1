-- Counts that stay, and sources and sinks that are as they were.
use Rattle.std.proofs.Common.{◌≡◌, ℕ, ◌≤◌, [], Some, None, ap, refl, arith, Result, Ok, Err}
use Rattle.std.specs.declared.option.Option.{Option}
use Rattle.proto_model.specs.Tokens.{Text}
use Rattle.rv_base.specs.Outside.{RisesWhere, MayRise}
use Rattle.rv_base.specs.Whole.{TakesAtMost}
use Rattle.rvc_top.specs.Endings.{kind_of, run_read_failed, run_wants}
use Rattle.rvc_top.specs.FileRead.{reading_failed, reading_wants}
use Rattle.rvc_top.specs.Reply.{Finishes}
use Rattle.rvc_top.specs.Runs.{SeenAt, Seen, WantsStay}
use Rattle.rvc_top.specs.declared.reply.Reply.{Reply}
use Rattle.rvc_top.specs.declared.reply.Failure.{Failure}
use Rattle.rvc_top.specs.declared.reply.Failure.TheVariants.{Read, NoMemory as WantsMemory}
use Rattle.rvc_top.specs.declared.status.Status.{Status}
use Rattle.rvc_top.specs.declared.status.Status.TheVariants.{Done, Usage, FileRefused, ReadFault}
use Rattle.rvc_top.specs.declared.status.Status.TheVariants.{ScheduleRefused, WriteFault, NoMemory}
use Rattle.rvc_top.specs.declared.status.Status.TheVariants.{ClaimBroken}

-- ---- counts

-- where no read fault is answered, no read of the file failed
pub replied-stays : (before now : ℕ) (old new : Option Text) (reply : Result Reply Failure)
    (answer : Status) → RisesWhere (reading_failed reply) before now → Finishes old new reply answer
    → (answer ≡ ReadFault → ⊥) → now ≡ before
replied-stays before now old new (Ok r) answer count finishes fine = count
replied-stays before now old new (Err Read) answer count finishes fine = absurd (fine finishes.0)
replied-stays before now old new (Err WantsMemory) answer count finishes fine = count

-- where no read fault is answered, no read of the schedule failed
pub replayed-stays : (before now : ℕ) (answer : Status)
    → RisesWhere (run_read_failed (kind_of answer)) before now → (answer ≡ ReadFault → ⊥)
    → now ≡ before
replayed-stays before now Done count fine = count
replayed-stays before now Usage count fine = count
replayed-stays before now FileRefused count fine = count
replayed-stays before now ScheduleRefused count fine = count
replayed-stays before now ClaimBroken count fine = count
replayed-stays before now ReadFault count fine = absurd (fine refl)
replayed-stays before now WriteFault count fine = count
replayed-stays before now NoMemory count fine = count

-- where the run doesn't end for want of memory, no call had none
pub wants-stay : (before now : ℕ) (answer : Status)
    → MayRise (run_wants (kind_of answer)) before now → (answer ≡ NoMemory → ⊥) → now ≡ before
wants-stay before now Done rises fine = rises
wants-stay before now Usage rises fine = rises
wants-stay before now FileRefused rises fine = rises
wants-stay before now ScheduleRefused rises fine = rises
wants-stay before now ClaimBroken rises fine = rises
wants-stay before now ReadFault rises fine = rises
wants-stay before now WriteFault rises fine = rises
wants-stay before now NoMemory rises fine = absurd (fine refl)

-- where the run doesn't end for want of memory, no read of the file had none
pub finished-wants : (a b : ℕ) (old now : Option Text) (reply : Result Reply Failure)
    (answer : Status) → MayRise (reading_wants reply) a b → Finishes old now reply answer
    → (answer ≡ NoMemory → ⊥) → b ≡ a
finished-wants a b old now (Ok r) answer rises w fine = rises
finished-wants a b old now (Err Read) answer rises w fine = rises
finished-wants a b old now (Err WantsMemory) answer rises w fine = absurd (fine w.0)

-- ---- a source or a sink that is as it was

-- where the bytes left stay, none are taken
takes-nothing : (most : ℕ) (old new : Option Text) → new ≡ old → TakesAtMost most old new
takes-nothing most None new e = ([], omega arith, rw e refl)
takes-nothing most (Some text) new e = ([], omega arith, rw e refl)

-- A source or a sink is as it was.
pub record IsStill (side : Seen) : Type 0 where
  pub at : side.new ≡ side.old
  pub same : side.Same

module _ (side : Seen) (still : IsStill side) where
  still-left : side.new.bytes ≡ side.old.bytes
  still-left = ap (λ (x : SeenAt). x.bytes) still.at

  pub still-count : side.new.faults ≡ side.old.faults
  still-count = ap (λ (x : SeenAt). x.faults) still.at

  pub still-wants : WantsStay side
  still-wants = ap (λ (x : SeenAt). x.wants) still.at

  pub still-taken : (most : ℕ) → TakesAtMost most side.old.bytes side.new.bytes
  still-taken most = takes-nothing most side.old.bytes side.new.bytes still-left

  pub still-le : side.old.faults ≤ side.new.faults
  still-le = omega (arith, still-count)

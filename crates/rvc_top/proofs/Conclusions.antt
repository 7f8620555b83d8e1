-- How the answer of a run follows from how its replay ended.
use Rattle.std.proofs.Common.{◌≡◌, ℕ, Bool, true, false, not, ◌&&◌, [], ◌++◌, sym, ◌∙◌, subst, refl}
use Rattle.std.proofs.lemmas.List.{append-nil}
use Rattle.std.specs.declared.option.Option.{Option}
use Rattle.proto_model.specs.Tokens.{Text}
use Rattle.rv_base.specs.Outside.{RisesWhere, MayRise}
use Rattle.schedule_replay.specs.Played.{Stop, AtEnd, AtLine, TooMany, Halted}
use Rattle.schedule_replay.specs.Replayed.{answer_of, replay_read_failed, replay_write_failed}
use Rattle.schedule_replay.specs.Replayed.{replay_wants}
use Rattle.schedule_replay.specs.Replayed.{is_decided}
use Rattle.schedule_replay.specs.declared.replaying.Replayed.{Replayed}
use Rattle.schedule_replay.specs.declared.replaying.Replayed.TheVariants as replay
use Rattle.rvc_top.specs.Texts.{bad_line_text, too_many_text}
use Rattle.rvc_top.specs.Commands.{said_at}
use Rattle.rvc_top.specs.Endings.{kind_of, DecidedKind, IsDecided, IsOfSchedule, run_read_failed}
use Rattle.rvc_top.specs.Endings.{run_write_failed}
use Rattle.rvc_top.specs.Reply.{Concludes}
use Rattle.rvc_top.specs.Runs.{ReachesSchedule}
use Rattle.rvc_top.specs.declared.status.Status.{Status}
use Rattle.rvc_top.specs.declared.status.Status.TheVariants.{Done, ScheduleRefused, ReadFault}
use Rattle.rvc_top.specs.declared.status.Status.TheVariants.{WriteFault, NoMemory, ClaimBroken}
use Rattle.rvc_top.proofs.Endings.{by-delivery}

-- ---- what is said, by the answer of the replay

-- the status of a run whose replay ended so
abbrev pub status_by : Replayed → Status
status_by replay.Done = Done
status_by (replay.BadLine line) = ScheduleRefused
status_by replay.TooManyLines = ScheduleRefused
status_by (replay.ClaimBroken claim) = ClaimBroken
status_by replay.ReadFault = ReadFault
status_by replay.WriteFault = WriteFault
status_by replay.NoMemory = NoMemory

-- the text that follows the trace
abbrev pub error_by : Replayed → Text
error_by replay.Done = []
error_by (replay.BadLine line) = bad_line_text line
error_by replay.TooManyLines = too_many_text
error_by (replay.ClaimBroken claim) = []
error_by replay.ReadFault = []
error_by replay.WriteFault = []
error_by replay.NoMemory = []

-- the status that is said is that of a run whose replay ended so
pub said-status : (stop : Stop) (text : Text)
    → (said_at stop text).status ≡ status_by (answer_of stop)
said-status AtEnd text = refl
said-status (AtLine line) text = refl
said-status TooMany text = refl
said-status (Halted lines claim) text = refl

-- the text that is said is the trace and what follows it
pub said-text : (stop : Stop) (text : Text) → (said_at stop text).text ≡ text
    ++ error_by (answer_of stop)
said-text AtEnd text = sym (append-nil text)
said-text (AtLine line) text = refl
said-text TooMany text = refl
said-text (Halted lines claim) text = sym (append-nil text)

-- ---- what holds of the answer of the run

-- The run's answer is that of its replay; or, as the schedule is refused, the writing failed.
pub by-conclusion : (P : Replayed → Status → Type 0) → ((r : Replayed) → P r (status_by r))
    → ((r : Replayed) → is_decided r ≡ true → P r WriteFault × P r NoMemory)
    → (old new : Option Text) (replayed : Replayed) (answer : Status)
    → Concludes old new replayed answer → P replayed answer
by-conclusion P same cut old new replay.Done answer w =
    subst (P replay.Done) (sym w.0) (same replay.Done)
by-conclusion P same cut old new (replay.BadLine line) answer w =
    by-delivery (P (replay.BadLine line)) old new (bad_line_text line) ScheduleRefused answer w
    (same (replay.BadLine line)) (cut (replay.BadLine line) refl).0
    (cut (replay.BadLine line) refl).1
by-conclusion P same cut old new replay.TooManyLines answer w =
    by-delivery (P replay.TooManyLines) old new too_many_text ScheduleRefused answer w
    (same replay.TooManyLines) (cut replay.TooManyLines refl).0 (cut replay.TooManyLines refl).1
by-conclusion P same cut old new (replay.ClaimBroken claim) answer w =
    subst (P (replay.ClaimBroken claim)) (sym w.0) (same (replay.ClaimBroken claim))
by-conclusion P same cut old new replay.ReadFault answer w =
    subst (P replay.ReadFault) (sym w.0) (same replay.ReadFault)
by-conclusion P same cut old new replay.WriteFault answer w =
    subst (P replay.WriteFault) (sym w.0) (same replay.WriteFault)
by-conclusion P same cut old new replay.NoMemory answer w =
    subst (P replay.NoMemory) (sym w.0) (same replay.NoMemory)

status-reaches : (r : Replayed) → ReachesSchedule (status_by r)
status-reaches replay.Done = tt
status-reaches (replay.BadLine line) = tt
status-reaches replay.TooManyLines = tt
status-reaches (replay.ClaimBroken claim) = tt
status-reaches replay.ReadFault = tt
status-reaches replay.WriteFault = tt
status-reaches replay.NoMemory = tt

status-read : (r : Replayed) → run_read_failed (kind_of (status_by r)) ≡ replay_read_failed r
status-read replay.Done = refl
status-read (replay.BadLine line) = refl
status-read replay.TooManyLines = refl
status-read (replay.ClaimBroken claim) = refl
status-read replay.ReadFault = refl
status-read replay.WriteFault = refl
status-read replay.NoMemory = refl

status-write : (r : Replayed) → run_write_failed (kind_of (status_by r)) ≡ replay_write_failed r
status-write replay.Done = refl
status-write (replay.BadLine line) = refl
status-write replay.TooManyLines = refl
status-write (replay.ClaimBroken claim) = refl
status-write replay.ReadFault = refl
status-write replay.WriteFault = refl
status-write replay.NoMemory = refl

decided-reads : (r : Replayed) → is_decided r ≡ true → false ≡ replay_read_failed r
decided-reads replay.Done e = refl
decided-reads (replay.BadLine line) e = refl
decided-reads replay.TooManyLines e = refl
decided-reads (replay.ClaimBroken claim) e = refl
decided-reads replay.ReadFault e = absurd (cc)
decided-reads replay.WriteFault e = absurd (cc)
decided-reads replay.NoMemory e = absurd (cc)

-- a status that is decided is the replay's, which is decided too
decided-same : (r : Replayed) → IsDecided (status_by r) → (is_decided r ≡ true)
    × (status_by r ≡ status_by r)
decided-same replay.Done is = (refl, refl)
decided-same (replay.BadLine line) is = (refl, refl)
decided-same replay.TooManyLines is = (refl, refl)
decided-same (replay.ClaimBroken claim) is = (refl, refl)
decided-same replay.ReadFault is = absurd is
decided-same replay.WriteFault is = absurd is
decided-same replay.NoMemory is = absurd is

module _ (old new : Option Text) (replayed : Replayed) (answer : Status)
    (w : Concludes old new replayed answer) where
  pub concluded-reaches : ReachesSchedule answer
  concluded-reaches = by-conclusion (λ r s. ReachesSchedule s) status-reaches
      (λ r e. (tt, tt)) old new replayed answer w

  concluded-read : run_read_failed (kind_of answer) ≡ replay_read_failed replayed
  concluded-read = by-conclusion (λ r s. run_read_failed (kind_of s) ≡ replay_read_failed r)
      status-read (λ r e. (decided-reads r e, decided-reads r e)) old new replayed answer w

  pub concluded-read-count : (before now : ℕ) → RisesWhere (replay_read_failed replayed) before now
      → RisesWhere (run_read_failed (kind_of answer)) before now
  concluded-read-count before now rises = subst (λ (b : Bool). RisesWhere b before now)
      (sym concluded-read) rises

  pub concluded-decided : IsDecided answer → (is_decided replayed ≡ true)
      × (answer ≡ status_by replayed)
  concluded-decided = by-conclusion (λ r s. IsDecided s → (is_decided r ≡ true) × (s ≡ status_by r))
      decided-same (λ r e. (λ is. absurd is, λ is. absurd is)) old new replayed answer w

-- the count of the sink's faults over the replay and the run's last text
count-then : (failed wrote : Bool) (a b c : ℕ) → (failed ≡ true → wrote ≡ true)
    → RisesWhere failed a b → RisesWhere (not failed && wrote) b c → RisesWhere wrote a c
count-then true wrote a b c same first last =
    subst (λ (w : Bool). RisesWhere w a c) (sym (same refl))
    (subst (λ (n : ℕ). RisesWhere true a n) (sym last) first)
count-then false wrote a b c same first last = subst (λ (n : ℕ). RisesWhere wrote n c) first last

failed-same : (r : Replayed) → replay_write_failed r ≡ true → is_decided r ≡ false
failed-same replay.Done e = absurd (cc)
failed-same (replay.BadLine line) e = absurd (cc)
failed-same replay.TooManyLines e = absurd (cc)
failed-same (replay.ClaimBroken claim) e = absurd (cc)
failed-same replay.ReadFault e = absurd (cc)
failed-same replay.WriteFault e = refl
failed-same replay.NoMemory e = absurd (cc)

pub concluded-write-count : (old new : Option Text) (replayed : Replayed) (answer : Status)
    → Concludes old new replayed answer → (a b c : ℕ)
    → RisesWhere (replay_write_failed replayed) a b
    → RisesWhere (not (replay_write_failed replayed) && run_write_failed (kind_of answer)) b c
    → RisesWhere (run_write_failed (kind_of answer)) a c
concluded-write-count old new replayed answer w a b c first last =
    count-then (replay_write_failed replayed) (run_write_failed (kind_of answer)) a b c
    (by-conclusion (λ r s. replay_write_failed r ≡ true → run_write_failed (kind_of s) ≡ true)
    (λ r e. status-write r ∙ e)
    (λ r is. (λ e. refl, λ e. absurd (let undecided = failed-same r e in cc))) old new replayed
    answer w)
    first last

-- where the run doesn't end for want of memory, no call of its replay had none
pub concluded-wants : (old new : Option Text) (replayed : Replayed) (answer : Status)
    → Concludes old new replayed answer → (a b : ℕ) → MayRise (replay_wants replayed) a b
    → (answer ≡ NoMemory → ⊥) → b ≡ a
concluded-wants old new replay.Done answer w a b rises fine = rises
concluded-wants old new (replay.BadLine line) answer w a b rises fine = rises
concluded-wants old new replay.TooManyLines answer w a b rises fine = rises
concluded-wants old new (replay.ClaimBroken claim) answer w a b rises fine = rises
concluded-wants old new replay.ReadFault answer w a b rises fine = rises
concluded-wants old new replay.WriteFault answer w a b rises fine = rises
concluded-wants old new replay.NoMemory answer w a b rises fine = absurd (fine w.0)

-- only a replay that is done gives Done
done-replay : (r : Replayed) → status_by r ≡ Done → r ≡ replay.Done
done-replay replay.Done e = refl
done-replay (replay.BadLine line) e = absurd (cc)
done-replay replay.TooManyLines e = absurd (cc)
done-replay (replay.ClaimBroken claim) e = absurd (cc)
done-replay replay.ReadFault e = absurd (cc)
done-replay replay.WriteFault e = absurd (cc)
done-replay replay.NoMemory e = absurd (cc)

pub concluded-done : (old new : Option Text) (replayed : Replayed) (answer : Status)
    → Concludes old new replayed answer → answer ≡ Done → replayed ≡ replay.Done
concluded-done old new replayed answer w =
    by-conclusion (λ r s. s ≡ Done → r ≡ replay.Done) done-replay
    (λ r e. (λ f. absurd (cc), λ f. absurd (cc))) old new replayed answer w

-- a status that is decided in the schedule is decided
pub of-schedule-decided : (answer : Status) → IsOfSchedule answer → IsDecided answer
of-schedule-decided answer e = subst DecidedKind (sym e) tt

-- All that is known of a run by what its command does, as one fact.
use Rattle.std.specs.Prelude.{◌≡◌, ℕ, ◌≤◌, Bool, true, false, Option, None, IsSome, IfSome}
use Rattle.std.specs.Io.KnownBytes.{IsAtEnd}
use Rattle.proto_model.specs.Tokens.{Text}
use Rattle.rv_base.specs.Outside.{RisesWhere}
use Rattle.rv_base.specs.Whole.{TakesAtMost}
use Rattle.schedule_replay.specs.ScheduleLimits.{most_taken}
use Rattle.schedule_replay.specs.Replayed.{LeavesAt}
use Rattle.schedule_replay.specs.declared.limits.Limits.{Limits}
use Rattle.rvc_top.specs.Commands.{Task, WritesText, RepliesToFile, ReplaysSchedule, Replay}
use Rattle.rvc_top.specs.Verdict.{IsSaid, TaskVerdict}
use Rattle.rvc_top.specs.Endings.{Kind, Decided, ReadFailed, WriteFailed, Wanting, InWords, InFile}
use Rattle.rvc_top.specs.Endings.{InSchedule, ToEnd, kind_of, IsOfSchedule, run_read_failed}
use Rattle.rvc_top.specs.Endings.{run_write_failed}
use Rattle.rvc_top.specs.Endings.{Ends, IsOrFails, AnswersOrFails, ReadsFile, ReadsSchedule}
use Rattle.rvc_top.specs.Endings.{most_of_file, most_of_schedule, NeedsNoSchedule}
use Rattle.rvc_top.specs.Endings.{WhereTold}
use Rattle.rvc_top.specs.Endings.{FaultLeaves, FaultIsOf, DecidesSchedule}
use Rattle.rvc_top.specs.declared.status.Status.{Status}
use Rattle.rvc_top.specs.declared.status.Status.TheVariants.{Done, Usage, FileRefused, ReadFault}
use Rattle.rvc_top.specs.declared.status.Status.TheVariants.{NoMemory}

-- What is seen of a source or of a sink at one time: the bytes left or taken, where they are told,
-- how many calls failed, and how many had no memory.
pub record SeenAt : Type 0 where
  pub bytes : Option Text
  pub faults : ℕ
  pub wants : ℕ

-- What is seen of a source or of a sink before and after a run, whether the last read of a source
-- answered that nothing is left, which is false of a sink, and that it is as it was.
pub record Seen : Type 1 where
  pub old : SeenAt
  pub new : SeenAt
  pub ended : Bool
  pub Same : Type 0

-- What is seen of a source, by how its bytes, its two counts and its last read are told.
abbrev pub seen_source : {A : Type 0} → (A → Option Text) → (A → ℕ) → (A → ℕ) → (A → Bool)
    → A → A → Seen
seen_source left faults wants ended old new = record {
  old = record { bytes = left old; faults = faults old; wants = wants old };
  new = record { bytes = left new; faults = faults new; wants = wants new };
  ended = ended new;
  Same = new ≡ old;
}

-- What is seen of a sink, by how its bytes and its two counts are told.
abbrev pub seen_sink : {A : Type 0} → (A → Option Text) → (A → ℕ) → (A → ℕ) → A → A → Seen
seen_sink taken faults wants old new = record {
  old = record { bytes = taken old; faults = faults old; wants = wants old };
  new = record { bytes = taken new; faults = faults new; wants = wants new };
  ended = false;
  Same = new ≡ old;
}

-- What is seen of a source that isn't there: it stays as it is.
abbrev pub unseen : Seen
unseen = record {
  old = record { bytes = None; faults = 0; wants = 0 };
  new = record { bytes = None; faults = 0; wants = 0 };
  ended = false;
  Same = Unit {0};
}

-- A source was read to its end.
abbrev pub WasEnded : Seen → Type 0
WasEnded source = IsAtEnd source.new.bytes × (source.ended ≡ true)

-- The count of calls without memory stayed: no call on the source or on the sink had none.
abbrev pub WantsStay : Seen → Type 0
WantsStay side = side.new.wants ≡ side.old.wants

-- Both counts stayed: no call on the source or on the sink failed, and none had no memory.
abbrev pub CountsStay : Seen → Type 0
CountsStay side = (side.new.faults ≡ side.old.faults) × WantsStay side

-- The words are refused.
abbrev pub RefusesWords : Task → Type 0
RefusesWords (WritesText said) = said.status ≡ Usage
RefusesWords (RepliesToFile Value form says) = ⊥
RefusesWords (ReplaysSchedule Value form limits replay) = ⊥

-- A run that does this ends with this answer, and leaves its file, its schedule and its sink so.
-- Each field is the clause of `rvc` of the same name, which says what it means.
pub record IsRun (task : Task) (file schedule out : Seen) (answer : Status) : Type 0 where
  pub bytes : WhereTold task file.old.bytes schedule.old.bytes (λ f s. IfSome out.old.bytes (λ old.
      Ends (TaskVerdict task f s)
      (FaultLeaves task file.old.faults file.new.faults f s schedule.new.bytes old out.new.bytes)
      old out.new.bytes answer))
  pub exact : WhereTold task file.old.bytes schedule.old.bytes
      (λ f s. AnswersOrFails (TaskVerdict task f s) answer)
  pub usage : answer ≡ Usage → RefusesWords task
  pub read_fault : answer ≡ ReadFault → FaultIsOf task file.old.faults file.new.faults
      schedule.old.faults schedule.new.faults
      (schedule.Same × (out.new.bytes ≡ out.old.bytes))
  pub file_count : file.old.faults ≤ file.new.faults
  pub schedule_count : schedule.old.faults ≤ schedule.new.faults
  pub reads_stay : (answer ≡ ReadFault → ⊥)
      → (file.new.faults ≡ file.old.faults) × (schedule.new.faults ≡ schedule.old.faults)
  pub write_count : RisesWhere (run_write_failed (kind_of answer)) out.old.faults out.new.faults
  pub wants : (answer ≡ NoMemory → ⊥) → WantsStay file × WantsStay schedule × WantsStay out
  pub file_stops : (CountsStay file → ⊥) → schedule.Same × out.Same
  pub unread : (ReadsFile task → ⊥) → file.Same
  pub end : answer ≡ Done → ReadsFile task → WasEnded file
  pub taken : TakesAtMost (most_of_file task) file.old.bytes file.new.bytes
  pub unused : (ReadsSchedule task → ⊥) → schedule.Same
  pub file_first : answer ≡ FileRefused → schedule.Same
  pub unasked : IfSome file.old.bytes (λ f. NeedsNoSchedule task f → schedule.Same)
  pub schedule_end : answer ≡ Done → ReadsSchedule task → WasEnded schedule
  pub schedule_decided : IsOfSchedule answer
      → DecidesSchedule task file.old.bytes schedule.old.bytes schedule.new.bytes answer
  pub schedule_taken : TakesAtMost (most_of_schedule task) schedule.old.bytes schedule.new.bytes

-- ---- a replay

-- What a status comes of, where the run gets to its schedule.
abbrev pub ReachesScheduleKind : Kind → Type 0
ReachesScheduleKind (Decided InWords) = ⊥
ReachesScheduleKind (Decided InFile) = ⊥
ReachesScheduleKind (Decided InSchedule) = Unit {0}
ReachesScheduleKind (Decided ToEnd) = Unit {0}
ReachesScheduleKind ReadFailed = Unit {0}
ReachesScheduleKind WriteFailed = Unit {0}
ReachesScheduleKind Wanting = Unit {0}

-- A run that gets to its schedule ends so.
abbrev pub ReachesSchedule : Status → Type 0
ReachesSchedule status = ReachesScheduleKind (kind_of status)

-- This is so of the schedule that is replayed, where it tells its bytes; and of every schedule
-- where a claim is broken before the first line.
abbrev pub WhereAsked : Replay → Option Text → (Text → Type 0) → Type 0
WhereAsked replay schedule fact =
    (IsSome replay.broken → (s : Text) → fact s) × IfSome schedule (λ s. fact s)

-- A replay of a schedule within these limits ends with this answer, and leaves its schedule and its
-- sink so. A field of a name that `IsRun` has says what is said there, where the file is read and
-- holds the value by which the schedule is replayed; `schedule_count` says besides when the count
-- rises. `reaches`: the answer is none of those that come before the schedule is read.
pub record IsReplay (replay : Replay) (limits : Limits) (schedule out : Seen)
    (answer : Status) : Type 0 where
  pub bytes : WhereAsked replay schedule.old.bytes (λ s. IfSome out.old.bytes (λ old.
      Ends (IsSaid (replay.says s)) (replay.Leaves s schedule.new.bytes old out.new.bytes)
      old out.new.bytes answer))
  pub exact : WhereAsked replay schedule.old.bytes (λ s. IsOrFails (replay.says s).status answer)
  pub reaches : ReachesSchedule answer
  pub schedule_count : RisesWhere (run_read_failed (kind_of answer)) schedule.old.faults
      schedule.new.faults
  pub write_count : RisesWhere (run_write_failed (kind_of answer)) out.old.faults out.new.faults
  pub wants : (answer ≡ NoMemory → ⊥) → WantsStay schedule × WantsStay out
  pub unasked : IsSome replay.broken → schedule.Same
  pub schedule_end : answer ≡ Done → WasEnded schedule
  pub schedule_decided : IsOfSchedule answer
      → IfSome schedule.old.bytes (λ s. (answer ≡ (replay.says s).status)
      × LeavesAt limits (replay.stop s) s schedule.new.bytes)
  pub schedule_taken : TakesAtMost (most_taken limits) schedule.old.bytes schedule.new.bytes

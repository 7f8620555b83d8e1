-- How a run ends, and what it leaves in the sink and in its sources.
use Rattle.std.specs.Prelude.{◌≡◌, ◌⊎◌, ℕ, ◌+◌, Bool, true, false, ◌++◌, take, Option, Some, IsSome}
use Rattle.std.specs.Prelude.{IfSome}
use Rattle.proto_model.specs.Tokens.{Text}
use Rattle.rv_base.specs.Outside.{Rose}
use Rattle.schedule_replay.specs.ScheduleLimits.{most_taken}
use Rattle.schedule_replay.specs.Replayed.{LeavesAt}
use Rattle.rvc_top.specs.Commands.{Task, WritesText, RepliesToFile, ReplaysSchedule}
use Rattle.rvc_top.specs.declared.status.Status.{Status}
use Rattle.rvc_top.specs.declared.status.Status.TheVariants.{Done, Usage, FileRefused}
use Rattle.rvc_top.specs.declared.status.Status.TheVariants.{ScheduleRefused, ReadFault, WriteFault}
use Rattle.rvc_top.specs.declared.status.Status.TheVariants.{NoMemory, ClaimBroken}

-- ---- kinds of status

-- Where it is decided how a run ends: in its words, in its file, in its schedule, or at its end,
-- where all that the words ask for is done.
pub data Reach : Type 0 where
  InWords : Reach
  InFile : Reach
  InSchedule : Reach
  ToEnd : Reach

-- What a status comes of: words, file and schedule decide it, in one of these places; a source
-- failed; the sink failed; or there was no memory.
pub data Kind : Type 0 where
  Decided : Reach → Kind
  ReadFailed : Kind
  WriteFailed : Kind
  Wanting : Kind

-- What each status comes of.
abbrev pub kind_of : Status → Kind
kind_of Done = Decided ToEnd
kind_of Usage = Decided InWords
kind_of FileRefused = Decided InFile
kind_of ScheduleRefused = Decided InSchedule
kind_of ClaimBroken = Decided InSchedule
kind_of ReadFault = ReadFailed
kind_of WriteFault = WriteFailed
kind_of NoMemory = Wanting

-- Words, file and schedule decide it.
abbrev pub DecidedKind : Kind → Type 0
DecidedKind (Decided reach) = Unit {0}
DecidedKind ReadFailed = ⊥
DecidedKind WriteFailed = ⊥
DecidedKind Wanting = ⊥

-- The status is that of a verdict: words, file and schedule decide it, and neither a fault nor want
-- of memory does.
abbrev pub IsDecided : Status → Type 0
IsDecided status = DecidedKind (kind_of status)

-- The status is decided in the schedule: a line of it is refused, or it has too many, or a claim of
-- the file is broken, before the first line or after one.
abbrev pub IsOfSchedule : Status → Type 0
IsOfSchedule status = kind_of status ≡ Decided InSchedule

-- The run ended since a read failed.
abbrev pub run_read_failed : Kind → Bool
run_read_failed (Decided reach) = false
run_read_failed ReadFailed = true
run_read_failed WriteFailed = false
run_read_failed Wanting = false

-- The run ended since a write failed.
abbrev pub run_write_failed : Kind → Bool
run_write_failed (Decided reach) = false
run_write_failed ReadFailed = false
run_write_failed WriteFailed = true
run_write_failed Wanting = false

-- The run ended for want of memory.
abbrev pub run_wants : Kind → Bool
run_wants (Decided reach) = false
run_wants ReadFailed = false
run_wants WriteFailed = false
run_wants Wanting = true

-- ---- what the sink has taken

-- What the sink has taken before the run is now followed by the text of the verdict with this
-- status.
abbrev pub Written : (Status → Text → Type 0) → Text → Option Text → Status → Type 0
Written verdict old new status =
    (text : Text) × verdict status text × (new ≡ Some (old ++ text))

-- What the sink has taken before the run is now followed by a front of the verdict's text.
abbrev pub PartWritten : (Status → Text → Type 0) → Text → Option Text → Type 0
PartWritten verdict old new =
    (status : Status) (text : Text) → verdict status text
    → (count : ℕ) × (new ≡ Some (old ++ take count text))

-- What the sink has taken before the run and after, by what the status comes of.
abbrev pub EndsBy : Kind → (Status → Text → Type 0) → Type 0 → Text → Option Text → Status → Type 0
EndsBy (Decided reach) verdict fault old new status = Written verdict old new status
EndsBy ReadFailed verdict fault old new status = fault
EndsBy WriteFailed verdict fault old new status = PartWritten verdict old new
EndsBy Wanting verdict fault old new status = PartWritten verdict old new

-- What the sink has taken before the run and after, where the run ends so. After the status of a
-- verdict the verdict's text is written; after a write fault or want of memory a front of it. After
-- a read fault what is given here as `fault` holds.
abbrev pub Ends : (Status → Text → Type 0) → Type 0 → Text → Option Text → Status → Type 0
Ends verdict fault old new status = EndsBy (kind_of status) verdict fault old new status

-- The answer is this status, or a fault of a source or of the sink, or want of memory.
abbrev pub IsOrFails : Status → Status → Type 0
IsOrFails status answer =
    (answer ≡ status) ⊎ (answer ≡ ReadFault) ⊎ (answer ≡ WriteFault) ⊎ (answer ≡ NoMemory)

-- The answer is the verdict's status, or a fault of a source or of the sink, or want of memory.
abbrev pub AnswersOrFails : (Status → Text → Type 0) → Status → Type 0
AnswersOrFails verdict answer =
    (status : Status) (text : Text) → verdict status text → IsOrFails status answer

-- The answer is the verdict's status, or want of memory.
abbrev pub Answers : (Status → Text → Type 0) → Status → Type 0
Answers verdict answer =
    (status : Status) (text : Text) → verdict status text → (answer ≡ status) ⊎ (answer ≡ NoMemory)

-- ---- what is read

-- The file is read.
abbrev pub ReadsFile : Task → Type 0
ReadsFile (WritesText said) = ⊥
ReadsFile (RepliesToFile Value form says) = Unit {0}
ReadsFile (ReplaysSchedule Value form limits replay) = Unit {0}

-- The schedule is read.
abbrev pub ReadsSchedule : Task → Type 0
ReadsSchedule (WritesText said) = ⊥
ReadsSchedule (RepliesToFile Value form says) = ⊥
ReadsSchedule (ReplaysSchedule Value form limits replay) = Unit {0}

-- The most bytes that are taken of the file: one more than it may have.
abbrev pub most_of_file : Task → ℕ
most_of_file (WritesText said) = 0
most_of_file (RepliesToFile Value form says) = form.limit + 1
most_of_file (ReplaysSchedule Value form limits replay) = form.limit + 1

-- The most bytes that are taken of the schedule.
abbrev pub most_of_schedule : Task → ℕ
most_of_schedule (WritesText said) = 0
most_of_schedule (RepliesToFile Value form says) = 0
most_of_schedule (ReplaysSchedule Value form limits replay) = most_taken limits

-- The run ends the same whatever the schedule holds, and reads none of it: the command reads none,
-- or the file is refused, or a claim of the value that it holds is broken before the first line.
abbrev pub NeedsNoSchedule : Task → Text → Type 0
NeedsNoSchedule (WritesText said) file = Unit {0}
NeedsNoSchedule (RepliesToFile Value form says) file = Unit {0}
NeedsNoSchedule (ReplaysSchedule Value form limits replay) file =
    ((text : Text) × form.Refuses file text)
    ⊎ ((value : Value) × form.Holds file value × IsSome (replay value).broken)

-- This is so of the file and of the schedule, where each of them that is read tells its bytes.
-- Where one isn't read, it is so whatever that one holds; and so it is of the schedule where the
-- file needs none.
abbrev pub WhereTold : Task → Option Text → Option Text → (Text → Text → Type 0) → Type 0
WhereTold (WritesText said) file schedule fact = (f s : Text) → fact f s
WhereTold (RepliesToFile Value form says) file schedule fact =
    IfSome file (λ f. (s : Text) → fact f s)
WhereTold (ReplaysSchedule Value form limits replay) file schedule fact =
    IfSome file (λ f. (NeedsNoSchedule (ReplaysSchedule Value form limits replay) f
    → (s : Text) → fact f s) × IfSome schedule (λ s. fact f s))

-- ---- what a read fault leaves

-- What a read fault of the schedule leaves in the sink, where this is left of the schedule. Such a
-- fault comes only where the file holds a value.
abbrev pub ScheduleFaultLeaves : Task → Text → Text → Option Text → Text → Option Text → Type 0
ScheduleFaultLeaves (WritesText said) file schedule left old new = ⊥
ScheduleFaultLeaves (RepliesToFile Value form says) file schedule left old new = ⊥
ScheduleFaultLeaves (ReplaysSchedule Value form limits replay) file schedule left old new =
    (value : Value) × form.Holds file value × (replay value).Leaves schedule left old new

-- What a read fault leaves in the sink, by the count of the file's faults before and after. Where
-- it rose, the file failed and nothing is written. Else the schedule failed.
abbrev pub FaultLeaves : Task → ℕ → ℕ → Text → Text → Option Text → Text → Option Text → Type 0
FaultLeaves task count_old count_new file schedule left old new =
    (Rose count_old count_new × (new ≡ Some old))
    ⊎ ((count_new ≡ count_old) × ScheduleFaultLeaves task file schedule left old new)

-- Whose fault a read fault is, by the counts of faults before and after. It is the file's, which
-- the command reads and whose count rose, and `stopped` holds, which says that the run has not gone
-- on; or it is the schedule's, which the command reads and whose count rose, and the file's count
-- stayed.
abbrev pub FaultIsOf : Task → ℕ → ℕ → ℕ → ℕ → Type 0 → Type 0
FaultIsOf task file_old file_new schedule_old schedule_new stopped =
    (ReadsFile task × Rose file_old file_new × stopped)
    ⊎ ((file_new ≡ file_old) × ReadsSchedule task × Rose schedule_old schedule_new)

-- ---- what is left of a schedule

-- There is a value, one that the file holds where it tells its bytes, by which this status is said
-- of the schedule, and this is left of the schedule where it ends so: few bytes past the one that
-- decides it were taken, and none where a claim is broken before the first line.
abbrev pub DecidesSchedule : Task → Option Text → Option Text → Option Text → Status → Type 0
DecidesSchedule (WritesText said) file schedule left status = ⊥
DecidesSchedule (RepliesToFile Value form says) file schedule left status = ⊥
DecidesSchedule (ReplaysSchedule Value form limits replay) file schedule left status =
    (value : Value) × IfSome file (λ f. form.Holds f value)
    × IfSome schedule (λ s. (status ≡ ((replay value).says s).status)
    × LeavesAt limits ((replay value).stop s) s left)

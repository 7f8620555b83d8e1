-- How a replay ends, what it has taken of the schedule by then, and what it has written.
use Rattle.std.specs.Prelude.{◌≡◌, ◌≤◌, ◌<◌, ℕ, ◌+◌, ◌-◌, zero, suc, min, Bool, true, false, List}
use Rattle.std.specs.Prelude.{[], ◌++◌, length, take, Some, get_or}
use Rattle.std.specs.declared.option.Option.{Option}
use Rattle.rv_base.specs.Outside.{RisesWhere, MayRise}
use Rattle.schedule_replay.specs.TextLines.{lines_of, closed_lines, open_part, joined}
use Rattle.schedule_replay.specs.Play.{Play}
use Rattle.schedule_replay.specs.Played.{Stop, AtEnd, AtLine, TooMany, Halted, played, played_from}
use Rattle.schedule_replay.specs.Played.{trace}
use Rattle.schedule_replay.specs.declared.limits.Limits.{Limits}
use Rattle.schedule_replay.specs.declared.replaying.Replayed.{Replayed}
use Rattle.schedule_replay.specs.declared.replaying.Replayed.TheVariants.{Done, BadLine}
use Rattle.schedule_replay.specs.declared.replaying.Replayed.TheVariants.{TooManyLines, ClaimBroken}
use Rattle.schedule_replay.specs.declared.replaying.Replayed.TheVariants.{ReadFault, WriteFault}
use Rattle.schedule_replay.specs.declared.replaying.Replayed.TheVariants.{NoMemory}

-- The answer of a replay that comes to where the schedule ends.
abbrev pub answer_of : Stop → Replayed
answer_of AtEnd = Done
answer_of (AtLine number) = BadLine number
answer_of TooMany = TooManyLines
answer_of (Halted lines claim) = ClaimBroken claim

-- The text follows what was written before.
abbrev pub WroteText : List ℕ → List ℕ → Option (List ℕ) → Type 0
WroteText before text now = now ≡ Some (before ++ text)

-- A front of the text follows what was written before.
abbrev pub WroteFront : List ℕ → List ℕ → Option (List ℕ) → Type 0
WroteFront before text now = (count : ℕ) × WroteText before (take count text) now

-- At most 255 bytes past the deciding one were taken, and all bytes where there is no such byte.
abbrev pub TakesFew : ℕ → List ℕ → Option (List ℕ) → Type 0
TakesFew deciding text left =
    (taken : List ℕ) × (rest : List ℕ) × (text ≡ taken ++ rest) × (left ≡ Some rest)
    × (length taken ≤ deciding + 255) × (length text < deciding → rest ≡ [])

module _ (limits : Limits) where
  -- How many bytes of a text there are up to the one that decides over the line with this number,
  -- counted from 1, with that byte: it is the line's LF, or the first byte past those that a line
  -- may have.
  abbrev pub line_decides : ℕ → List ℕ → ℕ
  line_decides number text =
      length (joined (take (number - 1) (lines_of text)))
      + (min limits.line (length (get_or (lines_of text) (number - 1) [])) + 1)

  -- How many bytes of a text there are up to the first one past as many lines as a schedule may
  -- have, with that byte.
  abbrev pub count_decides : List ℕ → ℕ
  count_decides text = length (joined (take limits.lines (lines_of text))) + 1

  -- What is left of a text where its schedule ends: nothing at its end; few bytes past the deciding
  -- one were taken where a line is refused, or is one too many, or where the machine halts after a
  -- line; none was taken where it halts before the first.
  abbrev pub LeavesAt : Stop → List ℕ → Option (List ℕ) → Type 0
  LeavesAt AtEnd text left = left ≡ Some []
  LeavesAt (AtLine number) text left = TakesFew (line_decides number text) text left
  LeavesAt TooMany text left = TakesFew (count_decides text) text left
  LeavesAt (Halted zero claim) text left = left ≡ Some text
  LeavesAt (Halted (suc lines) claim) text left = TakesFew (line_decides (suc lines) text) text left

module _ {State Item : Type 0} (play : Play State Item) (limits : Limits) (start : State) where
  -- These bytes show no line at which the schedule ends: they hold no LF of a malformed line or of
  -- one after which the machine halts, no byte of a line past those that it may have, and no byte
  -- past as many lines as there may be. Nor does the machine halt before the first line.
  abbrev pub NothingStops : List ℕ → Type 0
  NothingStops taken =
      ((played_from play limits start (closed_lines taken)).stop ≡ AtEnd)
      × (length (open_part taken) ≤ limits.line)
      × (length (closed_lines taken) ≡ limits.lines → open_part taken ≡ [])

  -- the blocks of the lines whose LF is among these bytes
  abbrev pub blocks_taken : List ℕ → List ℕ
  blocks_taken taken = (played_from play limits start (closed_lines taken)).blocks

  -- The bytes that were taken before a read fault: nothing that was taken shows where the schedule
  -- ends.
  abbrev pub BreaksOff : List ℕ → Option (List ℕ) → List ℕ → Type 0
  BreaksOff text left taken =
      ((rest : List ℕ) × (text ≡ taken ++ rest) × (left ≡ Some rest)) × NothingStops taken

  -- The answer is that of where the schedule ends, and what is left of it is what is left there.
  abbrev pub Decides : List ℕ → Option (List ℕ) → Replayed → Type 0
  Decides text left result =
      (result ≡ answer_of (played play limits start text).stop)
      × LeavesAt limits (played play limits start text).stop text left

  -- The answer, and what is left of the schedule, whose bytes were told.
  abbrev pub StopsSo : List ℕ → Option (List ℕ) → Replayed → Type 0
  StopsSo text left Done = Decides text left Done
  StopsSo text left (BadLine number) = Decides text left (BadLine number)
  StopsSo text left TooManyLines = Decides text left TooManyLines
  StopsSo text left (ClaimBroken claim) = Decides text left (ClaimBroken claim)
  StopsSo text left ReadFault = (taken : List ℕ) × BreaksOff text left taken
  StopsSo text left WriteFault = Unit {0}
  StopsSo text left NoMemory = Unit {0}

  -- The answer, and what was written, where the bytes of the schedule and of the sink were told.
  -- After a read fault exactly the blocks of the lines whose LF was taken are written; after a
  -- write fault or want of memory a front of what would have been written.
  abbrev pub WritesSo : List ℕ → Option (List ℕ) → List ℕ → Option (List ℕ) → Replayed → Type 0
  WritesSo text left before now Done = WroteText before (trace play limits start text) now
  WritesSo text left before now (BadLine number) =
      WroteText before (trace play limits start text) now
  WritesSo text left before now TooManyLines = WroteText before (trace play limits start text) now
  WritesSo text left before now (ClaimBroken claim) =
      WroteText before (trace play limits start text) now
  WritesSo text left before now ReadFault =
      (taken : List ℕ) × BreaksOff text left taken × WroteText before (blocks_taken taken) now
  WritesSo text left before now WriteFault = WroteFront before (trace play limits start text) now
  WritesSo text left before now NoMemory = WroteFront before (trace play limits start text) now

-- A read failed.
abbrev pub replay_read_failed : Replayed → Bool
replay_read_failed Done = false
replay_read_failed (BadLine number) = false
replay_read_failed TooManyLines = false
replay_read_failed (ClaimBroken claim) = false
replay_read_failed ReadFault = true
replay_read_failed WriteFault = false
replay_read_failed NoMemory = false

-- A write failed.
abbrev pub replay_write_failed : Replayed → Bool
replay_write_failed Done = false
replay_write_failed (BadLine number) = false
replay_write_failed TooManyLines = false
replay_write_failed (ClaimBroken claim) = false
replay_write_failed ReadFault = false
replay_write_failed WriteFault = true
replay_write_failed NoMemory = false

-- There was no memory.
abbrev pub replay_wants : Replayed → Bool
replay_wants Done = false
replay_wants (BadLine number) = false
replay_wants TooManyLines = false
replay_wants (ClaimBroken claim) = false
replay_wants ReadFault = false
replay_wants WriteFault = false
replay_wants NoMemory = true

-- The replay came to where the schedule ends.
abbrev pub is_decided : Replayed → Bool
is_decided Done = true
is_decided (BadLine number) = true
is_decided TooManyLines = true
is_decided (ClaimBroken claim) = true
is_decided ReadFault = false
is_decided WriteFault = false
is_decided NoMemory = false

-- The counts of faults of the schedule and of the sink, before and after: the one rose where
-- reading failed, the other where writing failed, and each stays at every other answer.
abbrev pub ReplayCounts : ℕ → ℕ → ℕ → ℕ → Replayed → Type 0
ReplayCounts read_before read_now write_before write_now result =
    RisesWhere (replay_read_failed result) read_before read_now
    × RisesWhere (replay_write_failed result) write_before write_now

-- The counts of calls without memory of the schedule and of the sink, before and after: each may
-- have risen where the answer is want of memory, and stays at every other answer.
abbrev pub ReplayWants : ℕ → ℕ → ℕ → ℕ → Replayed → Type 0
ReplayWants read_before read_now write_before write_now result =
    MayRise (replay_wants result) read_before read_now
    × MayRise (replay_wants result) write_before write_now

-- How an audit ends, and what it has taken of the trace by then.
use Rattle.std.specs.Prelude.{◌≡◌, ◌≤◌, ℕ, Bool, true, false, List, [], ◌++◌, length, Some, IsOk}
use Rattle.std.specs.declared.option.Option.{Option}
use Rattle.schedule_replay.specs.TextLines.{closed_lines, open_part}
use Rattle.schedule_replay.specs.Replayed.{LeavesAt}
use Rattle.schedule_replay.specs.declared.limits.Limits.{Limits}
use Rattle.trace_audit.specs.Auditing.{Auditing}
use Rattle.trace_audit.specs.AuditedTrace.{Outcome, Accepted, RefusedAt, after_lines}
use Rattle.trace_audit.specs.AuditedTrace.{audited_from, stop_of}
use Rattle.trace_audit.specs.declared.auditing.Audited.{Audited}
use Rattle.trace_audit.specs.declared.auditing.Audited.TheVariants.{Sound, BadLine, ReadFault}
use Rattle.trace_audit.specs.declared.auditing.Audited.TheVariants.{NoMemory}

module _ (limits : Limits) (start : Auditing) where
  -- These bytes show no line that is refused: they hold no LF of such a line, no byte of a line
  -- past those that it may have, and no byte past as many lines as there may be.
  abbrev pub NothingRefused : List ℕ → Type 0
  NothingRefused taken =
      IsOk (after_lines limits 0 start (closed_lines taken))
      × (length (open_part taken) ≤ limits.line)
      × (length (closed_lines taken) ≡ limits.lines → open_part taken ≡ [])

  -- The bytes that were taken before a read fault: nothing that was taken is refused.
  abbrev pub BreaksOff : List ℕ → Option (List ℕ) → List ℕ → Type 0
  BreaksOff text left taken =
      ((rest : List ℕ) × (text ≡ taken ++ rest) × (left ≡ Some rest)) × NothingRefused taken

  -- This is found, and what is left of the trace is what is left where it ends so.
  abbrev pub Finds : List ℕ → Option (List ℕ) → Outcome → Type 0
  Finds text left outcome =
      (audited_from limits start text ≡ outcome)
      × LeavesAt limits (stop_of limits outcome) text left

  -- The answer, and what is left of the trace, whose bytes were told.
  abbrev pub AuditsSo : List ℕ → Option (List ℕ) → Audited → Type 0
  AuditsSo text left (Sound events) = Finds text left (Accepted events)
  AuditsSo text left (BadLine number) = Finds text left (RefusedAt number)
  AuditsSo text left ReadFault = (taken : List ℕ) × BreaksOff text left taken
  AuditsSo text left NoMemory = Unit {0}

-- A read failed.
abbrev pub audit_failed : Audited → Bool
audit_failed (Sound events) = false
audit_failed (BadLine number) = false
audit_failed ReadFault = true
audit_failed NoMemory = false

-- There was no memory.
abbrev pub audit_wants : Audited → Bool
audit_wants (Sound events) = false
audit_wants (BadLine number) = false
audit_wants ReadFault = false
audit_wants NoMemory = true

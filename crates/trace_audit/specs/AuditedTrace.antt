-- Which traces are accepted, and at which line each other one is refused.
use Rattle.std.specs.Prelude.{ℕ, ◌+◌, nat_le, nat_lt, ◌||◌, if◌then◌else◌, List, [], ◌∷◌}
use Rattle.std.specs.Prelude.{length, Option, Some, None, Result, Ok, Err}
use Rattle.proto_model.specs.Tokens.{Text}
use Rattle.proto_model.specs.Numbered.{NumberedProtocol}
use Rattle.schedule_replay.specs.TextLines.{closed_lines, open_part}
use Rattle.schedule_replay.specs.Played.{Stop, AtEnd, AtLine, TooMany}
use Rattle.schedule_replay.specs.declared.limits.Limits.{Limits}
use Rattle.trace_audit.specs.Auditing.{Auditing, audit_start, audit_line, is_whole}

-- A line of a trace has at most 65,536 bytes without its LF, and a trace at most 5,000,000 lines.
abbrev pub audit_limits : Limits
audit_limits = record { line = 65536; lines = 5000000 }

-- The trace is accepted, and tells of so many events; or the line with this number, counted from 1,
-- is the first that is refused.
pub data Outcome : Type 0 where
  Accepted : ℕ → Outcome
  RefusedAt : ℕ → Outcome

-- How far the trace is audited after a line that follows so many others, and what follows it; or
-- the line is refused.
abbrev pub line_then : ℕ → Option Auditing → (Auditing → Result Auditing ℕ) → Result Auditing ℕ
line_then before None later = Err (before + 1)
line_then before (Some next) later = later next

-- What is found where so many lines were taken and these bytes stand behind the last LF: each line
-- must end with an LF, and none may be missing.
abbrev pub concluded : ℕ → Auditing → Text → Outcome
concluded lines at [] = if is_whole at then Accepted at.events else RefusedAt (lines + 1)
concluded lines at (b ∷ bs) = RefusedAt (lines + 1)

-- The same where a line before may have been refused.
abbrev pub found : ℕ → Result Auditing ℕ → Text → Outcome
found lines (Ok at) part = concluded lines at part
found lines (Err number) part = RefusedAt number

module _ (limits : Limits) where
  -- How far the trace is audited after a line that follows so many others. A line past as many as a
  -- trace may have is refused, and so is one that is longer than a line may be.
  abbrev pub line_within : ℕ → Auditing → Text → Option Auditing
  line_within before at line =
      if nat_le limits.lines before || nat_lt limits.line (length line)
      then None else audit_line at line

  -- How far the trace is audited after these lines, each without its LF, which follow so many
  -- others; or the number of the first that is refused.
  abbrev pub after_lines : ℕ → Auditing → List Text → Result Auditing ℕ
  after_lines before at [] = Ok at
  after_lines before at (line ∷ lines) =
      line_then before (line_within before at line) (λ next. after_lines (before + 1) next lines)

  -- What is found of a trace that is audited from here.
  abbrev pub audited_from : Auditing → List ℕ → Outcome
  audited_from start text =
      found (length (closed_lines text)) (after_lines 0 start (closed_lines text))
      (open_part text)

  -- Where a trace is left that is audited so: at its end where it is accepted; else at the line
  -- that is refused, or at the first byte past as many lines as a trace may have.
  abbrev pub stop_of : Outcome → Stop
  stop_of (Accepted events) = AtEnd
  stop_of (RefusedAt number) = if nat_lt limits.lines number then TooMany else AtLine number

-- What is found of a trace of the protocol with n remotes.
abbrev pub audited : NumberedProtocol → ℕ → List ℕ → Outcome
audited protocol n text = audited_from audit_limits (audit_start protocol n) text

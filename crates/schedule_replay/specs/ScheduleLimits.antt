-- How long a line and a schedule may be.
use Rattle.std.specs.Prelude.{ℕ, ◌+◌, ◌*◌}
use Rattle.schedule_replay.specs.declared.limits.Limits.{Limits}

-- A line of a schedule has at most 256 bytes without its LF, and a schedule at most 1,000,000
-- lines.
abbrev pub schedule_limits : Limits
schedule_limits = record { line = 256; lines = 1000000 }

-- The most bytes that are taken of a schedule: those of all lines with their LFs, and 256.
abbrev pub most_taken : Limits → ℕ
most_taken limits = (limits.line + 1) * limits.lines + 256

-- How far a source's lines were read.
use Rattle.std.specs.Prelude.{ℕ, List, [], Bool, false}
use Rattle.schedule_replay.specs.declared.limits.Limits.{Limits}

-- what contracts see of a reader of lines
pub record Reading : Type 0 where
  -- how long a line may be, and how many lines there may be
  pub limits : Limits
  -- how many lines were got
  pub got : ℕ
  -- the bytes that were taken from the source past the last line got
  pub ahead : List ℕ
  -- the source was found at its end
  pub ended : Bool
  -- the last line got, without its LF
  pub text : List ℕ

-- No line was asked for yet.
abbrev pub nothing_read : Limits → Reading
nothing_read limits = record { limits = limits; got = 0; ahead = []; ended = false; text = [] }

-- What asking for the next line answers, and what it does to the reading and to its source.
use Rattle.std.specs.Prelude.{◌≡◌, ◌⊎◌, ℕ, ◌+◌, ◌<◌, ◌≤◌, List, [], ◌∷◌, ◌++◌, length, Bool, true}
use Rattle.std.specs.Prelude.{false, Some, None}
use Rattle.std.specs.declared.option.Option.{Option}
use Rattle.std.specs.Io.KnownBytes.{prepend_known, IsAtEnd}
use Rattle.schedule_replay.specs.TextLines.{HasNoLf}
use Rattle.schedule_replay.specs.Reading.{Reading}
use Rattle.schedule_replay.specs.declared.limits.Limits.{Limits}
use Rattle.schedule_replay.specs.declared.lines.NextLine.{NextLine}
use Rattle.schedule_replay.specs.declared.lines.NextLine.TheVariants.{Got, End, TooLong, TooMany}
use Rattle.schedule_replay.specs.declared.lines.NextLine.TheVariants.{ReadFault, NoMemory}

-- The first bytes left in the source were taken, and stand after those that were ahead.
pub record Took (before after : Option (List ℕ)) (old new : List ℕ) : Type 0 where
  pub front : List ℕ
  pub taken : before ≡ prepend_known front after
  pub same : old ++ front ≡ new

-- The line that was got ends with its LF; or the source came to its end, and the line is what was
-- left, at least one byte.
abbrev pub Closes : Reading → Reading → Option (List ℕ) → Option (List ℕ) → Type 0
Closes old new before after =
    ((new.ended ≡ false) × Took before after old.ahead (new.text ++ 10 ∷ new.ahead))
    ⊎ ((new.ended ≡ true) × (new.ahead ≡ []) × IsAtEnd after × (0 < length new.text)
    × Took before after old.ahead new.text)

-- No byte follows the last line got, and none was taken: the source is at its end now, or an
-- earlier call found it there.
pub record FindsEnd (old new : Reading) (before after : Option (List ℕ)) : Type 0 where
  pub ended : new.ended ≡ true
  pub none_ahead : old.ahead ≡ []
  pub none_taken : after ≡ before
  pub at_end : (old.ended ≡ true) ⊎ IsAtEnd before

module _ (limits : Limits) where
  -- A line was got, one of as many as there may be, and not longer than a line may be. At most 255
  -- bytes past it were taken.
  pub record GetsLine
      (old new : Reading)
      (before after : Option (List ℕ))
      (number : ℕ)
      : Type 0 where
    pub goes : old.ended ≡ false
    pub number_is : number ≡ old.got + 1
    pub counted : new.got ≡ number
    pub within : number ≤ limits.lines
    pub one_line : HasNoLf new.text
    pub fits : length new.text ≤ limits.line
    pub few : length new.ahead ≤ 255
    pub closed : Closes old new before after

  -- The next line is one of as many as there may be, and is longer than a line may be: the first
  -- bytes of it, one more than it may have, were taken, and at most 255 more.
  pub record FindsLong
      (old new : Reading)
      (before after : Option (List ℕ))
      (number : ℕ)
      : Type 0 where
    pub goes : old.ended ≡ false
    pub number_is : number ≡ old.got + 1
    pub within : number ≤ limits.lines
    pub first : List ℕ
    pub more : List ℕ
    pub ahead_is : new.ahead ≡ first ++ more
    pub full : length first ≡ limits.line + 1
    pub one_line : HasNoLf first
    pub few : length more ≤ 255
    pub taken : Took before after old.ahead new.ahead

  -- As many lines as there may be were got before, and a byte of a further one was taken, and at
  -- most 255 more.
  pub record FindsMany (old new : Reading) (before after : Option (List ℕ)) : Type 0 where
    pub goes : old.ended ≡ false
    pub full : old.got ≡ limits.lines
    pub some : 0 < length new.ahead
    pub few : length new.ahead ≤ 256
    pub taken : Took before after old.ahead new.ahead

  -- The source gave no more in the middle of a line: no more of it was taken than a line may have,
  -- and no LF. Where as many lines as there may be were got, no byte was taken.
  pub record Breaks (old new : Reading) (before after : Option (List ℕ)) : Type 0 where
    pub goes : old.ended ≡ false
    pub one_line : HasNoLf new.ahead
    pub few : length new.ahead ≤ limits.line
    pub none_past : old.got ≡ limits.lines → new.ahead ≡ []
    pub taken : Took before after old.ahead new.ahead

  -- There was no memory, of the source's or for the line: few bytes past the last line got were
  -- taken.
  pub record Lacks (old : Reading) (before after : Option (List ℕ)) : Type 0 where
    pub front : List ℕ
    pub taken : before ≡ prepend_known front after
    pub few : length old.ahead + length front ≤ limits.line + 256
    pub none_past : old.got ≡ limits.lines → length old.ahead + length front ≤ 256

  -- The reading and the bytes left in the source, before and after a call that answers so.
  abbrev pub NextMoves : Reading → Reading → Option (List ℕ) → Option (List ℕ) → NextLine → Type 0
  NextMoves old new before after (Got number) = GetsLine old new before after number
  NextMoves old new before after End = FindsEnd old new before after
  NextMoves old new before after (TooLong number) = FindsLong old new before after number
  NextMoves old new before after TooMany = FindsMany old new before after
  NextMoves old new before after ReadFault = Breaks old new before after
  NextMoves old new before after NoMemory = Lacks old before after

-- A read failed.
abbrev pub next_failed : NextLine → Bool
next_failed (Got number) = false
next_failed End = false
next_failed (TooLong number) = false
next_failed TooMany = false
next_failed ReadFault = true
next_failed NoMemory = false

-- There was no memory, of the source's or for the line.
abbrev pub next_wants : NextLine → Bool
next_wants (Got number) = false
next_wants End = false
next_wants (TooLong number) = false
next_wants TooMany = false
next_wants ReadFault = false
next_wants NoMemory = true

-- The bytes taken so far don't decide what comes next, and are kept: they hold no LF, and are no
-- more than a line may have. Where as many lines as there may be were got, there are none.
pub record Waits (old new : Reading) : Type 0 where
  pub limits : new.limits ≡ old.limits
  pub got : new.got ≡ old.got
  pub ended : new.ended ≡ old.ended
  pub ahead : new.ahead ≡ old.ahead
  pub one_line : HasNoLf new.ahead
  pub few : length new.ahead ≤ new.limits.line
  pub none_past : new.got ≡ new.limits.lines → new.ahead ≡ []

-- The reading before and after a call that takes nothing of the source: the next line, or what says
-- that there is none, of the bytes taken so far, whatever is left in the source; or these don't
-- decide.
abbrev pub AtHandMoves : Reading → Reading → Option NextLine → Type 0
AtHandMoves old new (Some answer) =
    (next_failed answer ≡ false) × (new.limits ≡ old.limits) × (new.ended ≡ old.ended)
    × ((known : Option (List ℕ)) → NextMoves old.limits old new known known answer)
AtHandMoves old new None = Waits old new

-- What a reader of lines holds of its source, and what its steps do to it.
use Rattle.std.specs.Prelude.{◌≡◌, ◌<◌, ℕ, List, [], ◌++◌, length, take, drop}
use Rattle.std.specs.Prelude.{Bool, true, false, Some, None}
use Rattle.std.specs.declared.option.Option.{Option}
use Rattle.std.specs.Io.KnownBytes.{IsAtEnd}
use Rattle.schedule_replay.specs.Reading.{Reading}
use Rattle.schedule_replay.specs.NextLine.{Took, NextMoves, next_failed, next_wants}
use Rattle.schedule_replay.specs.declared.line_buffer.LineBuffer.{LineBuffer}
use Rattle.schedule_replay.specs.declared.line_buffer.Held.{Held}
use Rattle.schedule_replay.specs.declared.line_buffer.Held.TheVariants.{Nothing, Joined, InPiece}
use Rattle.schedule_replay.specs.declared.line_buffer.Filled.{Filled}
use Rattle.schedule_replay.specs.declared.line_buffer.Filled.TheVariants.{Ready, End, Failed}
use Rattle.schedule_replay.specs.declared.line_buffer.Filled.TheVariants.{NoMemory}
use Rattle.schedule_replay.specs.declared.lines.NextLine.{NextLine}

-- The bytes of the piece that are not worked off.
abbrev pub pending : LineBuffer → List ℕ
pending lines = drop lines.start (take lines.end lines.piece)

-- Of the bytes of earlier pieces those that belong to a line that is not got yet: all of them where
-- no line is held, and else none.
abbrev pub not_got : Held → List ℕ → List ℕ
not_got Nothing part = part
not_got Joined part = []
not_got (InPiece from to) part = []

-- The line that is held, by the bytes of earlier pieces and those of the piece; empty where none
-- is.
abbrev pub held_text : Held → List ℕ → List ℕ → List ℕ
held_text Nothing part piece = []
held_text Joined part piece = part
held_text (InPiece from to) part piece = drop from (take to piece)

-- The bytes of earlier pieces that belong to a line that is not got yet.
abbrev pub part_of : LineBuffer → List ℕ
part_of lines = not_got lines.held lines.part.items

-- The last line got, where it is held.
abbrev pub text_of : LineBuffer → List ℕ
text_of lines = held_text lines.held lines.part.items lines.piece

-- The bytes that were taken past the last line got.
abbrev pub ahead_of : LineBuffer → List ℕ
ahead_of lines = part_of lines ++ pending lines

-- How far the source was read.
abbrev pub reading_of : LineBuffer → Reading
reading_of lines = record {
  limits = lines.limits;
  got = lines.got;
  ahead = ahead_of lines;
  ended = lines.ended;
  text = text_of lines;
}

-- What was read and how far stays.
pub record SameCount (old new : LineBuffer) : Type 0 where
  pub limits : new.limits ≡ old.limits
  pub got : new.got ≡ old.got
  pub ended : new.ended ≡ old.ended

-- The pending bytes stay.
pub record SamePending (old new : LineBuffer) : Type 0 where
  pub piece : new.piece ≡ old.piece
  pub start : new.start ≡ old.start
  pub end : new.end ≡ old.end

-- The last line got is let go.
pub record Opens (old new : LineBuffer) : Type 0 where
  pub count : SameCount old new
  pub same : SamePending old new
  pub vacant : new.held ≡ Nothing
  pub part : part_of new ≡ part_of old

-- The line at hand is held: the bytes of earlier pieces, and those of this piece up to a place.
pub record Holds (old new : LineBuffer) (end : ℕ) : Type 0 where
  pub same : SamePending old new
  pub none_part : part_of new ≡ []
  pub text : text_of new ≡ part_of old ++ drop old.start (take end old.piece)

-- All bytes taken past the last line got are kept, and no byte is pending.
pub record Carries (old new : LineBuffer) : Type 0 where
  pub count : SameCount old new
  pub vacant : new.held ≡ Nothing
  pub spent : new.start ≡ new.end
  pub ahead : ahead_of new ≡ ahead_of old

-- The next line, or what says that there is none, of the bytes at hand, whatever is left in the
-- source; or these don't decide, and are kept.
abbrev pub HandMoves : LineBuffer → LineBuffer → Option NextLine → Type 0
HandMoves old new (Some answer) =
    (next_failed answer ≡ false) × (new.limits ≡ old.limits) × (new.ended ≡ old.ended)
    × ((known : Option (List ℕ))
    → NextMoves old.limits (reading_of old) (reading_of new) known known answer)
HandMoves old new None = Carries old new

-- All but the piece is as it was.
pub record SameLine (old new : LineBuffer) : Type 0 where
  pub count : SameCount old new
  pub vacant : new.held ≡ Nothing
  pub part : part_of new ≡ part_of old

-- A read: bytes of it are pending, or the source gave none.
abbrev pub FillMoves : LineBuffer → LineBuffer → Option (List ℕ) → Option (List ℕ) → Filled → Type 0
FillMoves old new before after Ready = (new.start < new.end) × Took before after [] (pending new)
FillMoves old new before after End =
    (new.start ≡ new.end) × (after ≡ before) × IsAtEnd before
FillMoves old new before after Failed = (new.start ≡ new.end) × (after ≡ before)
FillMoves old new before after NoMemory = (new.start ≡ new.end) × (after ≡ before)

-- The read failed.
abbrev pub fill_failed : Filled → Bool
fill_failed Ready = false
fill_failed End = false
fill_failed Failed = true
fill_failed NoMemory = false

-- The source answered that nothing is left.
abbrev pub fill_ends : Filled → Bool
fill_ends Ready = false
fill_ends End = true
fill_ends Failed = false
fill_ends NoMemory = false

-- The source had no memory for the read.
abbrev pub fill_wants : Filled → Bool
fill_wants Ready = false
fill_wants End = false
fill_wants Failed = false
fill_wants NoMemory = true

-- More bytes were taken, and they don't decide.
pub record StepsOn (old new : LineBuffer) (before after : Option (List ℕ)) : Type 0 where
  pub count : SameCount old new
  pub vacant : new.held ≡ Nothing
  pub spent : new.start ≡ new.end
  pub taken : Took before after (ahead_of old) (ahead_of new)
  pub longer : length (ahead_of old) < length (ahead_of new)

-- A read, and what it decides.
abbrev pub TurnMoves : LineBuffer → LineBuffer → Option (List ℕ) → Option (List ℕ)
    → Option NextLine → Type 0
TurnMoves old new before after (Some answer) =
    (new.limits ≡ old.limits)
    × NextMoves old.limits (reading_of old) (reading_of new) before after answer
TurnMoves old new before after None = StepsOn old new before after

-- The read failed.
abbrev pub turn_failed : Option NextLine → Bool
turn_failed (Some answer) = next_failed answer
turn_failed None = false

-- There was no memory, of the source's or for the line.
abbrev pub turn_wants : Option NextLine → Bool
turn_wants (Some answer) = next_wants answer
turn_wants None = false

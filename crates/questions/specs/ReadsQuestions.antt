-- How reading the questions of a text ends, and what it has taken of the text by then.
use Rattle.std.specs.Prelude.{◌≡◌, ◌≤◌, ℕ, Bool, true, false, List, [], ◌++◌, length, Some, None}
use Rattle.std.specs.Prelude.{Result, Ok, Err}
use Rattle.std.specs.declared.option.Option.{Option}
use Rattle.proto_model.specs.Numbered.{NumberedProtocol}
use Rattle.schedule_replay.specs.Reading.{Reading}
use Rattle.schedule_replay.specs.TextLines.{closed_lines, open_part}
use Rattle.schedule_replay.specs.Played.{Stop, AtEnd, AtLine, TooMany}
use Rattle.schedule_replay.specs.Replayed.{LeavesAt}
use Rattle.schedule_replay.specs.declared.limits.Limits.{Limits}
use Rattle.schedule_replay.specs.declared.lines.NextLine.{NextLine}
use Rattle.schedule_replay.specs.declared.lines.NextLine.TheVariants as next
use Rattle.questions.specs.AllAsked.{Outcome, All, Refused, question_line, after_line}
use Rattle.questions.specs.AllAsked.{asked_lines, asked_of}
use Rattle.questions.specs.declared.question.Asked.{Asked}
use Rattle.questions.specs.declared.asking.Unread.{Unread}
use Rattle.questions.specs.declared.asking.Unread.TheVariants.{BadLine, TooManyLines, ReadFault}
use Rattle.questions.specs.declared.asking.Unread.TheVariants.{NoMemory}

-- where a text is left that is read so
abbrev pub stop_of : Outcome → Stop
stop_of (All asked) = AtEnd
stop_of (Refused stop) = stop

module _ (limits : Limits) (p : NumberedProtocol) where
  -- These bytes show no line that is refused: they hold no LF of such a line, no byte of a line
  -- past those that it may have, and no byte past as many lines as there may be.
  abbrev pub NothingRefused : List ℕ → Type 0
  NothingRefused taken =
      ((asked : List Asked) × (asked_lines limits p 0 [] (closed_lines taken) ≡ All asked))
      × (length (open_part taken) ≤ limits.line)
      × (length (closed_lines taken) ≡ limits.lines → open_part taken ≡ [])

  -- The bytes that were taken before a read fault: nothing that was taken is refused.
  abbrev pub BreaksOff : List ℕ → Option (List ℕ) → List ℕ → Type 0
  BreaksOff text left taken =
      ((rest : List ℕ) × (text ≡ taken ++ rest) × (left ≡ Some rest)) × NothingRefused taken

  -- This is what the text asks, and what is left of it is what is left where it ends so.
  abbrev pub Finds : List ℕ → Option (List ℕ) → Outcome → Type 0
  Finds text left outcome =
      (asked_of limits p text ≡ outcome) × LeavesAt limits (stop_of outcome) text left

  -- The answer, and what is left of the text, whose bytes were told.
  abbrev pub ReadsSo : List ℕ → Option (List ℕ) → Result (List Asked) Unread → Type 0
  ReadsSo text left (Ok asked) = Finds text left (All asked)
  ReadsSo text left (Err (BadLine number)) = Finds text left (Refused (AtLine number))
  ReadsSo text left (Err TooManyLines) = Finds text left (Refused TooMany)
  ReadsSo text left (Err ReadFault) = (taken : List ℕ) × BreaksOff text left taken
  ReadsSo text left (Err NoMemory) = Unit {0}

-- a read failed
abbrev pub why_failed : Unread → Bool
why_failed (BadLine number) = false
why_failed TooManyLines = false
why_failed ReadFault = true
why_failed NoMemory = false

-- there was no memory
abbrev pub why_wants : Unread → Bool
why_wants (BadLine number) = false
why_wants TooManyLines = false
why_wants ReadFault = false
why_wants NoMemory = true

-- a read failed, and so the questions aren't known
abbrev pub asking_failed : {A : Type 0} → Result A Unread → Bool
asking_failed (Ok asked) = false
asking_failed (Err why) = why_failed why

-- there was no memory, and so the questions aren't known
abbrev pub asking_wants : {A : Type 0} → Result A Unread → Bool
asking_wants (Ok asked) = false
asking_wants (Err why) = why_wants why

-- ---- the steps of the loop

-- these questions, unless reading them ended early
abbrev pub answered : {U : Type 0} → List Asked → Result U Unread → Result (List Asked) Unread
answered asked (Ok done) = Ok asked
answered asked (Err why) = Err why

-- Something was tried: it came to what is computed, or nothing is.
abbrev pub ComesTo : {A : Type 0} → Bool → Option A → A → Type 0
ComesTo true computed new = computed ≡ Some new
ComesTo false computed new = computed ≡ None

module _ (p : NumberedProtocol) where
  -- The line with this number was heard, and reading goes on; or it is refused; or memory ran out.
  abbrev pub HearsLine : {U : Type 0} → List Asked → List Asked → Reading → ℕ
      → Option (Result U Unread) → Type 0
  HearsLine old new lines number None =
      after_line number old (question_line p lines.text) ≡ Some new
  HearsLine old new lines number (Some (Ok done)) = ⊥
  HearsLine old new lines number (Some (Err (BadLine bad))) =
      (bad ≡ number) × (after_line number old (question_line p lines.text) ≡ None)
  HearsLine old new lines number (Some (Err TooManyLines)) = ⊥
  HearsLine old new lines number (Some (Err ReadFault)) = ⊥
  HearsLine old new lines number (Some (Err NoMemory)) = Unit {0}

  -- reading came to the end, with these questions
  abbrev pub EndsSo : {U : Type 0} → List Asked → List Asked → Option (Result U Unread) → Type 0
  EndsSo old new None = ⊥
  EndsSo old new (Some (Ok done)) = new ≡ old
  EndsSo old new (Some (Err why)) = ⊥

  -- What asking for the next line leads to.
  abbrev pub HearsNext : {U : Type 0} → List Asked → List Asked → Reading → NextLine
      → Option (Result U Unread) → Type 0
  HearsNext old new lines (next.Got number) result = HearsLine old new lines number result
  HearsNext old new lines next.End result = EndsSo old new result
  HearsNext old new lines (next.TooLong number) result = result ≡ Some (Err (BadLine number))
  HearsNext old new lines next.TooMany result = result ≡ Some (Err TooManyLines)
  HearsNext old new lines next.ReadFault result = result ≡ Some (Err ReadFault)
  HearsNext old new lines next.NoMemory result = result ≡ Some (Err NoMemory)

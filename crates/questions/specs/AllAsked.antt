-- All questions of a text, and the line at which a text is refused.
use Rattle.std.specs.Prelude.{ℕ, ◌+◌, nat_le, nat_lt, if◌then◌else◌, List, [], ◌∷◌, ◌++◌, length}
use Rattle.std.specs.Prelude.{Option, Some, None}
use Rattle.rv_base.specs.Words.{words}
use Rattle.proto_model.specs.Numbered.{NumberedProtocol}
use Rattle.proto_model.specs.Tokens.{Text}
use Rattle.schedule_replay.specs.TextLines.{lines_of}
use Rattle.schedule_replay.specs.Played.{Stop, AtLine, TooMany}
use Rattle.schedule_replay.specs.declared.limits.Limits.{Limits}
use Rattle.schedule_replay.specs.declared.player.Meaning.{Meaning}
use Rattle.schedule_replay.specs.declared.player.Meaning.TheVariants as meaning
use Rattle.questions.specs.Reading.{question_of}
use Rattle.questions.specs.declared.question.Question.{Question}
use Rattle.questions.specs.declared.question.Asked.{Asked}

-- All lines say questions or nothing, and these are the questions; or the text is refused at a line,
-- or for as many lines as it may have and more.
pub data Outcome : Type 0 where
  All : List Asked → Outcome
  Refused : Stop → Outcome

-- a question, or a malformed line
abbrev pub said : Option Question → Meaning Question
said (Some q) = meaning.Says q
said None = meaning.Bad

module _ (p : NumberedProtocol) where
  -- What the words of a line say: it is blank, a question, or malformed.
  abbrev pub line_says : List Text → Meaning Question
  line_says [] = meaning.Blank
  line_says (w ∷ ws) = said (question_of p (w ∷ ws))

  -- What a line says.
  abbrev pub question_line : Text → Meaning Question
  question_line line = line_says (words line)

-- so many questions may be asked
abbrev pub most_questions : ℕ
most_questions = 64

-- The questions up to and with a line that has this number and says so, behind these. None where
-- the line is refused: it is malformed, or says one question more than may be asked.
abbrev pub after_line : ℕ → List Asked → Meaning Question → Option (List Asked)
after_line number asked meaning.Blank = Some asked
after_line number asked (meaning.Says q) =
    if nat_lt (length asked) most_questions
    then Some (asked ++ record { line = number; question = q } ∷ []) else None
after_line number asked meaning.Bad = None

-- what follows the line with this number; or it is refused
abbrev pub goes_on : ℕ → Option (List Asked) → (List Asked → Outcome) → Outcome
goes_on number (Some next) later = later next
goes_on number None later = Refused (AtLine number)

module _ (limits : Limits) (p : NumberedProtocol) where
  -- What follows a line behind so many others. A line past as many as there may be is refused, and
  -- so is one that is longer than a line may be.
  abbrev pub line_then : ℕ → List Asked → Text → (List Asked → Outcome) → Outcome
  line_then before asked line later =
      if nat_le limits.lines before then Refused TooMany
      else (if nat_lt limits.line (length line) then Refused (AtLine (before + 1))
      else goes_on (before + 1) (after_line (before + 1) asked (question_line p line)) later)

  -- The questions of these lines, which follow so many others and these questions.
  abbrev pub asked_lines : ℕ → List Asked → List Text → Outcome
  asked_lines before asked [] = All asked
  asked_lines before asked (line ∷ lines) =
      line_then before asked line (λ next. asked_lines (before + 1) next lines)

  -- The questions of a text.
  abbrev pub asked_of : Text → Outcome
  asked_of text = asked_lines 0 [] (lines_of text)

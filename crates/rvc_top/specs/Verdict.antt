-- The verdict on words, a protocol file and a schedule: the status with which a run over them ends
-- and the text that it writes, where no source and no sink fails and there is memory.
use Rattle.std.specs.Prelude.{◌≡◌, ◌⊎◌}
use Rattle.proto_model.specs.Tokens.{Text}
use Rattle.rvc_top.specs.Words.{Words}
use Rattle.rvc_top.specs.Forms.{FileForm}
use Rattle.rvc_top.specs.Commands.{Said, Task, WritesText, RepliesToFile, ReplaysSchedule, asked}
use Rattle.rvc_top.specs.declared.status.Status.{Status}
use Rattle.rvc_top.specs.declared.status.Status.TheVariants.{FileRefused}

-- This is said, and nothing else.
abbrev pub IsSaid : Said → Status → Text → Type 0
IsSaid said status text = (status ≡ said.status) × (text ≡ said.text)

-- The file is refused, or something is said of the value that it holds.
abbrev pub FileVerdict : {Value : Type 0} → FileForm Value → (Value → Said) → Text → Status → Text
    → Type 0
FileVerdict {Value} form says file status text =
    ((status ≡ FileRefused) × form.Refuses file text)
    ⊎ ((value : Value) × form.Holds file value × IsSaid (says value) status text)

-- The verdict on a file and a schedule by what a command does.
abbrev pub TaskVerdict : Task → Text → Text → Status → Text → Type 0
TaskVerdict (WritesText said) file schedule status text = IsSaid said status text
TaskVerdict (RepliesToFile Value form says) file schedule status text =
    FileVerdict form says file status text
TaskVerdict (ReplaysSchedule Value form limits replay) file schedule status text =
    FileVerdict form (λ value. (replay value).says schedule) file status text

-- The run over these words, this file and this schedule ends with this status and writes this text,
-- where no source and no sink fails and there is memory.
abbrev pub Verdict : Words → Text → Text → Status → Text → Type 0
Verdict words = TaskVerdict (asked words)

-- Each run has a verdict, whatever its words, its file and its schedule.
abbrev pub EveryRunIsDecided : Type 0
EveryRunIsDecided =
    (words : Words) (file schedule : Text)
    → (status : Status) × (text : Text) × Verdict words file schedule status text

-- No run has two verdicts: the words, the file and the schedule fix both the status and the text.
abbrev pub EveryVerdictIsOne : Type 0
EveryVerdictIsOne =
    (words : Words) (file schedule : Text) (status : Status) (text : Text)
    (other_status : Status) (other_text : Text)
    → Verdict words file schedule status text → Verdict words file schedule other_status other_text
    → (status ≡ other_status) × (text ≡ other_text)

-- What a line of a schedule of steps says.
use Rattle.std.specs.Prelude.{◌≡◌, ◌≢◌, ℕ, List, [], ◌∷◌, Option, Some, None, if◌then◌else◌}
use Rattle.std.specs.Prelude.{bytes_eq, codes}
use Rattle.std.specs.Option.{option_map, option_and_then}
use Rattle.rv_base.specs.Words.{words}
use Rattle.proto_model.specs.Tokens.{Text, IsNumber}
use Rattle.async_shape.specs.declared.step.Step.{Step}
use Rattle.async_shape.specs.declared.step.Step.TheVariants as step
use Rattle.async_machine.specs.StepText.{step_words}
use Rattle.proto_model.specs.ScheduleNumbers.{number}
use Rattle.schedule_replay.specs.declared.player.Meaning.{Meaning}
use Rattle.schedule_replay.specs.declared.player.Meaning.TheVariants as line

-- Each number of the step is one that a line can write: its decimal text has at most five digits.
abbrev pub HasNumbers : Step → Type 0
HasNumbers (step.HomeTau g) = IsNumber g
HasNumbers (step.HomeTake j) = IsNumber j
HasNumbers (step.HomeSend g j) = IsNumber g × IsNumber j
HasNumbers (step.HomeDrop j) = IsNumber j
HasNumbers (step.RemoteTau j g) = IsNumber j × IsNumber g
HasNumbers (step.RemoteSend j) = IsNumber j
HasNumbers (step.RemoteAnswer j) = IsNumber j
HasNumbers (step.RemoteReply j) = IsNumber j
HasNumbers (step.Up j) = IsNumber j
HasNumbers (step.Down j) = IsNumber j

-- What the words of a line say. A line without words is blank. A line says a step where its words
-- are those of the step, whose numbers are ones that a line can write. Each other line is
-- malformed.
abbrev pub Says : List Text → Meaning Step → Type 0
Says ws line.Blank = ws ≡ []
Says ws (line.Says s) = (ws ≡ step_words s) × HasNumbers s
Says ws line.Bad = (ws ≢ []) × ((s : Step) → HasNumbers s → ws ≢ step_words s)

-- The step of these two words: a packet arrives.
abbrev pub arrival_step : Text → Text → Option Step
arrival_step way j =
    if bytes_eq way (codes "up") then option_map (λ n. step.Up n) (number j)
    else (if bytes_eq way (codes "down") then option_map (λ n. step.Down n) (number j) else None)

-- The step of `home`, this word and a number.
abbrev pub home_step : Text → ℕ → Option Step
home_step what n =
    if bytes_eq what (codes "tau") then Some (step.HomeTau n)
    else (if bytes_eq what (codes "take") then Some (step.HomeTake n)
    else (if bytes_eq what (codes "drop") then Some (step.HomeDrop n) else None))

-- The step of `remote`, a number and this word.
abbrev pub remote_step : ℕ → Text → Option Step
remote_step j what =
    if bytes_eq what (codes "send") then Some (step.RemoteSend j)
    else (if bytes_eq what (codes "answer") then Some (step.RemoteAnswer j)
    else (if bytes_eq what (codes "reply") then Some (step.RemoteReply j) else None))

-- The step of these three words.
abbrev pub short_step : Text → Text → Text → Option Step
short_step who second third =
    if bytes_eq who (codes "home") then option_and_then (home_step second) (number third)
    else (if bytes_eq who (codes "remote")
    then option_and_then (λ j. remote_step j third) (number second) else None)

-- The step of these four words.
abbrev pub long_step : Text → Text → Text → Text → Option Step
long_step who second third fourth =
    if bytes_eq who (codes "home")
    then (if bytes_eq second (codes "send")
    then option_and_then (λ g. option_map (λ j. step.HomeSend g j) (number fourth)) (number third)
    else None)
    else (if bytes_eq who (codes "remote")
    then (if bytes_eq third (codes "tau")
    then option_and_then (λ j. option_map (λ g. step.RemoteTau j g) (number fourth)) (number second)
    else None) else None)

-- The step that the words of a line say, if they say one.
abbrev pub step_of : List Text → Option Step
step_of [] = None
step_of (first ∷ []) = None
step_of (first ∷ second ∷ []) = arrival_step first second
step_of (first ∷ second ∷ third ∷ []) = short_step first second third
step_of (first ∷ second ∷ third ∷ fourth ∷ []) = long_step first second third fourth
step_of (first ∷ second ∷ third ∷ fourth ∷ w ∷ ws) = None

-- What a line with words says: this step, or it is malformed.
abbrev pub said : Option Step → Meaning Step
said (Some s) = line.Says s
said None = line.Bad

-- What a line says, by its words.
abbrev pub line_of_words : List Text → Meaning Step
line_of_words [] = line.Blank
line_of_words (w ∷ ws) = said (step_of (w ∷ ws))

-- What the line says, computed.
abbrev pub step_line : List ℕ → Meaning Step
step_line bytes = line_of_words (words bytes)

-- What a line of a schedule of steps of several cache lines says.
use Rattle.std.specs.Prelude.{◌≡◌, ◌≢◌, ℕ, List, [], ◌∷◌, Option, Some, None, if◌then◌else◌}
use Rattle.std.specs.Prelude.{is_none, bytes_eq, codes, decimal}
use Rattle.std.specs.Option.{option_map, option_and_then}
use Rattle.std.specs.List.{join_with_byte}
use Rattle.rv_base.specs.Words.{words}
use Rattle.proto_model.specs.Tokens.{Text, IsNumber}
use Rattle.ordered_links.specs.Link.{Link, Up, Down}
use Rattle.async_shape.specs.Site.{site, arrival_link}
use Rattle.async_shape.specs.declared.step.Step.{Step}
use Rattle.async_machine.specs.StepText.{step_words}
use Rattle.proto_model.specs.ScheduleNumbers.{number}
use Rattle.schedule_replay.specs.declared.player.Meaning.{Meaning}
use Rattle.schedule_replay.specs.declared.player.Meaning.TheVariants as line
use Rattle.run_replay.specs.StepLines.{HasNumbers, step_of}
use Rattle.line_array.specs.declared.line_step.LineStep.{LineStep}
use Rattle.line_array.specs.declared.line_step.LineStep.TheVariants as array

-- The words of a step: `at`, the number of a cache line and the words of its own step; or of a
-- delivery `up` or `down` and the number of the remote on whose shared link a packet arrives.
abbrev pub array_words : LineStep → List Text
array_words (array.At a s) = codes "at" ∷ decimal a ∷ step_words s
array_words (array.Up j) = codes "up" ∷ decimal j ∷ []
array_words (array.Down j) = codes "down" ∷ decimal j ∷ []

-- a step: its words with one space between them
abbrev pub array_text : LineStep → Text
array_text s = join_with_byte 32 (array_words s)

-- A line can say the step: its numbers have at most five digits, and in the own step of a cache
-- line no packet arrives, since which packet arrives next the shared links tell.
abbrev pub IsSayable : LineStep → Type 0
IsSayable (array.At a s) = IsNumber a × HasNumbers s × (arrival_link (site s) ≡ None)
IsSayable (array.Up j) = IsNumber j
IsSayable (array.Down j) = IsNumber j

-- What the words of a line say. A line without words is blank. A line says a step that can be said
-- where its words are those of the step. Each other line is malformed.
abbrev pub Says : List Text → Meaning LineStep → Type 0
Says ws line.Blank = ws ≡ []
Says ws (line.Says s) = (ws ≡ array_words s) × IsSayable s
Says ws line.Bad = (ws ≢ []) × ((s : LineStep) → IsSayable s → ws ≢ array_words s)

-- The step of this cache line, unless a packet arrives in it.
abbrev pub own_step : ℕ → Step → Option LineStep
own_step a s = if is_none (arrival_link (site s)) then Some (array.At a s) else None

-- The delivery over this shared link.
abbrev pub delivery_on : Link → LineStep
delivery_on (Up j) = array.Up j
delivery_on (Down j) = array.Down j

-- The delivery over a shared link that has the words of this step, if a packet arrives in it.
abbrev pub delivery : Step → Option LineStep
delivery s = option_map delivery_on (arrival_link (site s))

-- The step of the words behind `at`: the number of a cache line, and the words of its own step.
abbrev pub step_at : List Text → Option LineStep
step_at [] = None
step_at (a ∷ ws) = option_and_then (λ n. option_and_then (own_step n) (step_of ws)) (number a)

-- The step that the words of a line say, if they say one.
abbrev pub array_step : List Text → Option LineStep
array_step [] = None
array_step (w ∷ ws) =
    if bytes_eq w (codes "at") then step_at ws else option_and_then delivery (step_of (w ∷ ws))

-- What a line with words says: this step, or it is malformed.
abbrev pub said : Option LineStep → Meaning LineStep
said (Some s) = line.Says s
said None = line.Bad

-- What a line says, by its words.
abbrev pub line_of_words : List Text → Meaning LineStep
line_of_words [] = line.Blank
line_of_words (w ∷ ws) = said (array_step (w ∷ ws))

-- What the line says, computed.
abbrev pub array_line : List ℕ → Meaning LineStep
array_line bytes = line_of_words (words bytes)

-- What a line of a schedule says that has steps and moves of the network.
use Rattle.std.specs.Prelude.{◌≡◌, ◌≢◌, ℕ, List, [], Option, Some, None}
use Rattle.proto_model.specs.Tokens.{Text}
use Rattle.async_shape.specs.declared.step.Step.{Step}
use Rattle.async_machine.specs.StepText.{step_words}
use Rattle.schedule_replay.specs.declared.player.Meaning.{Meaning}
use Rattle.schedule_replay.specs.declared.player.Meaning.TheVariants as line
use Rattle.run_replay.specs.StepLines.{HasNumbers, step_line}
use Rattle.faulty_link.specs.NetLines as net
use Rattle.faulty_link.specs.declared.net_step.NetStep.{NetStep}
use Rattle.lossy_replay.specs.declared.items.LossyItem.{LossyItem}
use Rattle.lossy_replay.specs.declared.items.LossyItem.TheVariants.{Takes, Moves}

-- What the words of a line say. A line without words is blank. A line says a step where its words
-- are those of the step, and a move of the network where its words are those of the move; the
-- numbers of either are ones that a line can write. Each other line is malformed.
abbrev pub Says : List Text → Meaning LossyItem → Type 0
Says ws line.Blank = ws ≡ []
Says ws (line.Says (Takes s)) = (ws ≡ step_words s) × HasNumbers s
Says ws (line.Says (Moves m)) = (ws ≡ net.net_words m) × net.HasNumbers m
Says ws line.Bad =
    (ws ≢ []) × ((s : Step) → HasNumbers s → ws ≢ step_words s)
    × ((m : NetStep) → net.HasNumbers m → ws ≢ net.net_words m)

-- What a line says that says this move of the network, or none, and that would say this in a
-- schedule of steps alone.
abbrev pub move_or_step : Option NetStep → Meaning Step → Meaning LossyItem
move_or_step (Some m) says = line.Says (Moves m)
move_or_step None line.Blank = line.Blank
move_or_step None (line.Says s) = line.Says (Takes s)
move_or_step None line.Bad = line.Bad

-- What the line says, computed.
abbrev pub lossy_line : List ℕ → Meaning LossyItem
lossy_line bytes = move_or_step (net.net_line bytes) (step_line bytes)

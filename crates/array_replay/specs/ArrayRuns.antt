-- What a schedule of steps of several cache lines plays: a run of the array, in which each cache
-- line has a run of its own.
use Rattle.std.specs.Prelude.{◌≡◌, ℕ, ◌<◌, List, [], ◌++◌, Option, None, Some, codes}
use Rattle.proto_model.specs.Tokens.{Text}
use Rattle.schedule_replay.specs.Played.{Played, AtEnd}
use Rattle.async_shape.specs.Setting.{Setting}
use Rattle.async_shape.specs.Config.{Config, start}
use Rattle.async_shape.specs.Run.{config_at_end}
use Rattle.async_shape.specs.declared.step.Step.{Step}
use Rattle.line_array.specs.ArrayConfig.{ArrayConfig, array_start}
use Rattle.line_array.specs.ArrayNext.{meant, array_at_end, steps_meant}
use Rattle.line_array.specs.declared.line_step.LineStep.{LineStep}
use Rattle.array_replay.specs.ArrayLines.{array_text}
use Rattle.schedule_replay.specs.PlayedItems.{items_said, blocks_of}
use Rattle.array_replay.specs.ArrayTrace.{ArrayRunning, array_play, array_block, block_of_line}

-- an array with this setting in this configuration
abbrev pub running_so : Setting → ArrayConfig → ArrayRunning
running_so setting c = record { setting = setting; config = c }

-- What is played of the lines of a schedule is a run of the array: the first steps that the lines
-- say are taken from this state, their blocks are what is written, and they lead to the state at
-- the end. Where the lines are played to their end, these are all steps that they say.
pub record IsOfArrayRun (start : ArrayRunning) (lines : List (List ℕ))
    (played : Played ArrayRunning) : Type 0 where
  pub steps : List LineStep
  pub later : List LineStep
  pub said : items_said array_play lines ≡ steps ++ later
  pub blocks : played.blocks ≡ blocks_of array_play 0 start steps
  pub state :
      played.state
      ≡ running_so start.setting (array_at_end start.setting start.config steps)
  pub whole : played.stop ≡ AtEnd → later ≡ []

-- an array with n remotes and so many cache lines, after these steps from the start
module _ (setting : Setting) (n lines : ℕ) (steps : List LineStep) where
  -- where the array stands
  abbrev pub array_then : ArrayConfig
  array_then = array_at_end setting (array_start setting.protocol n lines) steps

  -- where the steps that were meant for cache line a lead its controllers alone, from their start,
  -- one after another
  abbrev pub alone_then : ℕ → Config
  alone_then a =
      config_at_end setting (start setting.protocol n)
      (steps_meant setting a (array_start setting.protocol n lines) steps)

  -- The block of a step with this text, which is meant so, if at all. Where it is meant for a cache
  -- line, that line is there, and the block shows its controllers where its own steps have led them
  -- alone: what is told depends on no other cache line. Where it is meant for none, it is refused.
  abbrev pub TellsOf : Text → Option (ℕ × Step) → Text → Type 0
  TellsOf text None block = block ≡ text ++ codes ": refused\n"
  TellsOf text (Some (a, own)) block =
      (a < lines) × (block ≡ block_of_line setting a own (alone_then a))

  -- so it is with the block of this further step
  abbrev pub TellsOfOneLine : LineStep → Type 0
  TellsOfOneLine s =
      TellsOf (array_text s) (meant array_then s) (array_block (running_so setting array_then) s)

-- The steps that a schedule has played, as a run of the controllers, and the blocks of these steps.
use Rattle.std.specs.Prelude.{◌≡◌, ℕ, List, [], ◌++◌}
use Rattle.schedule_replay.specs.Played.{Played, AtEnd}
use Rattle.schedule_replay.specs.PlayedItems.{items_said, blocks_of}
use Rattle.async_shape.specs.Run.{config_at_end}
use Rattle.async_shape.specs.declared.step.Step.{Step}
use Rattle.run_replay.specs.RunTrace.{Running, run_play}

-- What is played of the lines of a schedule, so many steps into it, is a run: the first steps that
-- the lines say are taken from this state, their blocks are what is written, and they lead to the
-- state at the end. Where the lines are played to their end, these are all steps that they say.
pub record IsOfRun (before : ℕ) (running : Running) (lines : List (List ℕ))
    (played : Played Running) : Type 0 where
  pub steps : List Step
  pub later : List Step
  pub said : items_said run_play lines ≡ steps ++ later
  pub blocks : played.blocks ≡ blocks_of run_play before running steps
  pub state : played.state ≡ record {
    claims = running.claims;
    setting = running.setting;
    config = config_at_end running.setting running.config steps;
  }
  pub whole : played.stop ≡ AtEnd → later ≡ []

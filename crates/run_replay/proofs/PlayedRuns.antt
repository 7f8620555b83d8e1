-- What is played of a schedule of steps is a run of the controllers: the items that are played, and
-- where they lead.
use Rattle.std.proofs.Common.{◌≡◌, ℕ, List, [], ◌∷◌, refl, ◌∙◌}
use Rattle.schedule_replay.specs.Played.{played_from}
use Rattle.schedule_replay.specs.PlayedItems.{state_at_end}
use Rattle.schedule_replay.specs.declared.limits.Limits.{Limits}
use Rattle.schedule_replay.proofs.PlayedItems.{all_lines}
use Rattle.async_shape.specs.Run.{config_at_end}
use Rattle.async_shape.specs.declared.step.Step.{Step}
use Rattle.run_replay.specs.RunTrace.{Running, running_after, run_play}
use Rattle.run_replay.specs.Blocks.{IsOfRun}

-- Steps lead the machine to where they lead its configuration.
leads-to : (running : Running) (steps : List Step)
    → state_at_end run_play running steps
    ≡ record {
      claims = running.claims;
      setting = running.setting;
      config = config_at_end running.setting running.config steps;
    }
leads-to running [] = refl
leads-to running (s ∷ steps) = leads-to (running_after running s) steps

-- All lines from the start: nothing is played where the machine halts there.
pub of_run : (limits : Limits) (start : Running) (lines : List (List ℕ))
    → IsOfRun 0 start lines (played_from run_play limits start lines)
of_run limits start lines =
    let is = all_lines run_play limits start lines in
    record {
      steps = is.items;
      later = is.later;
      said = is.said;
      blocks = is.blocks;
      state = is.state ∙ leads-to start is.items;
      whole = is.whole;
    }

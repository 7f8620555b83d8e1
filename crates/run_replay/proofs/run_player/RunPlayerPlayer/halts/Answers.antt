-- What is known is what the machine stands for.
use Rattle.std.proofs.Common.{ap, ◌∙◌}
use Rattle.run_replay.specs.RunTrace.{run_halts}
use Rattle.run_replay.proofs.run_player.RunPlayerPlayer.halts.Goals as goal

pub returns : goal.returns
returns g c = c.self.invariant.1 ∙ ap run_halts c.self.view_is

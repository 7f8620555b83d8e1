-- No events reach what the start stands for, and what is told of each step leads on.
use Rattle.rv_base.proofs.Lists.{AllByRecursion-weaker}
use Rattle.event_runs.specs.Reached.{IsReached}
use Rattle.async_shape.specs.Config.{Config, start}
use Rattle.async_shape.specs.Run.{run}
use Rattle.abstraction_map.specs.Abstraction.{abstraction}
use Rattle.every_run.proofs.ToldLeads.{ComesTo, every-run-comes}
use Rattle.every_run.proofs.laws.interleavings_reach_nothing_new.Goals as goal

pub returns : goal.returns
returns c setting n proper some few two most steps =
    AllByRecursion-weaker (ComesTo setting n)
    (λ (d : Config). IsReached setting.protocol n (abstraction setting.protocol d))
    (run setting (start setting.protocol n) steps) (λ d comes. comes.reached)
    (every-run-comes setting proper n some few two most steps)

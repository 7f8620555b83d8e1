-- Each configuration of a run has the shape, and events reach what it stands for.
use Rattle.rv_base.proofs.Lists.{AllByRecursion-weaker}
use Rattle.async_shape.specs.Config.{start}
use Rattle.async_shape.specs.Run.{run}
use Rattle.abstraction_map.specs.Abstraction.{abstraction}
use Rattle.every_run.specs.ToldEvents.{SomeStep}
use Rattle.every_run.proofs.GoesOn.{some-step}
use Rattle.every_run.proofs.ToldLeads.{ComesTo, every-run-comes}
use Rattle.every_run.proofs.laws.never_stuck.Goals as goal

pub returns : goal.returns
returns c setting n proper some few two most each steps =
    AllByRecursion-weaker (ComesTo setting n) (SomeStep setting)
    (run setting (start setting.protocol n) steps)
    (λ d comes.
    some-step setting proper d comes.shaped (each (abstraction setting.protocol d) comes.reached))
    (every-run-comes setting proper n some few two most steps)

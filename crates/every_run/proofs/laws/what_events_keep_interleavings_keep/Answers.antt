-- Events reach what each configuration of a run stands for.
use Rattle.rv_base.proofs.Lists.{AllByRecursion-weaker}
use Rattle.async_shape.specs.Config.{Config, start}
use Rattle.async_shape.specs.Run.{run}
use Rattle.abstraction_map.specs.Abstraction.{abstraction}
use Rattle.every_run.proofs.ToldLeads.{ComesTo, every-run-comes}
use Rattle.every_run.proofs.laws.what_events_keep_interleavings_keep.Goals as goal

pub returns : goal.returns
returns g c setting n proper some few two most each steps =
    AllByRecursion-weaker (ComesTo setting n)
    (λ (d : Config). g.P.Property.has (abstraction setting.protocol d))
    (run setting (start setting.protocol n) steps)
    (λ d comes. each (abstraction setting.protocol d) comes.reached)
    (every-run-comes setting proper n some few two most steps)

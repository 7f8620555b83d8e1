-- Each configuration of a run has the shape.
use Rattle.std.proofs.Common.{◌≡◌}
use Rattle.rv_base.proofs.Lists.{AllByRecursion-weaker}
use Rattle.proto_model.specs.declared.rendezvous.Event.{Event}
use Rattle.async_shape.specs.Config.{Config, start}
use Rattle.async_shape.specs.Run.{run}
use Rattle.async_shape.specs.Shape.{IsShaped}
use Rattle.async_shape.specs.declared.step.Step.{Step}
use Rattle.async_shape.proofs.Start.{IsShaped-start}
use Rattle.async_shape.proofs.EveryStepKeep.{IsShaped-run}
use Rattle.abstraction_map.specs.Abstraction.{abstraction}
use Rattle.abstraction_map.specs.Told.{told}
use Rattle.abstraction_map.specs.declared.told.Told.TheVariants.{Is}
use Rattle.both_ways.specs.Carried.{Carried}
use Rattle.both_ways.proofs.ToldCarried.{told-carried}
use Rattle.both_ways.proofs.laws.what_is_told_is_carried.Goals as goal

pub returns : goal.returns
returns c setting n proper some few two most steps =
    let first = start setting.protocol n in
    AllByRecursion-weaker (IsShaped setting)
    (λ (d : Config). (s : Step) (e : Event) → told setting d s ≡ Is e
    → Carried setting.protocol (abstraction setting.protocol d) e)
    (run setting first steps) (λ d shaped. told-carried setting proper d shaped)
    (IsShaped-run setting proper first steps (IsShaped-start setting n proper some few two most))

-- Each configuration of a run has the shape, and so it is bounded.
use Rattle.rv_base.proofs.Lists.{AllByRecursion-weaker}
use Rattle.async_shape.specs.Config.{start}
use Rattle.async_shape.specs.Run.{run}
use Rattle.async_shape.specs.Shape.{IsShaped}
use Rattle.async_shape.specs.Bounded.{IsBounded}
use Rattle.async_shape.proofs.Start.{IsShaped-start}
use Rattle.async_shape.proofs.EveryStepKeep.{IsShaped-run}
use Rattle.async_shape.proofs.Bounds.{shaped-bounded}
use Rattle.async_shape.proofs.laws.every_run_is_bounded.Goals as goal

pub returns-clause-shaped : goal.returns-clause-shaped
returns-clause-shaped c setting d proper shaped = shaped-bounded setting proper d shaped

pub returns-clause-runs : goal.returns-clause-runs
returns-clause-runs c setting n proper some few two most steps =
    AllByRecursion-weaker (IsShaped setting) (IsBounded setting)
    (run setting (start setting.protocol n) steps) (shaped-bounded setting proper)
    (IsShaped-run setting proper (start setting.protocol n) steps
    (IsShaped-start setting n proper some few two most))

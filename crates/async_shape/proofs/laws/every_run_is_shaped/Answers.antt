-- The start has the shape, and every step keeps it.
use Rattle.async_shape.specs.Config.{start}
use Rattle.async_shape.proofs.Start.{IsShaped-start}
use Rattle.async_shape.proofs.EveryStepKeep.{IsShaped-run}
use Rattle.async_shape.proofs.laws.every_run_is_shaped.Goals as goal

pub returns : goal.returns
returns c setting n proper some few two most steps =
    IsShaped-run setting proper (start setting.protocol n) steps
    (IsShaped-start setting n proper some few two most)

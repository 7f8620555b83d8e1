-- The start has the shape, every step keeps it, and in a shaped configuration a step is by its row.
use Rattle.async_shape.specs.Config.{start}
use Rattle.async_shape.proofs.Start.{IsShaped-start}
use Rattle.async_shape.proofs.EveryStepFires.{run-by_row, shaped-by_row}
use Rattle.async_shape.proofs.laws.every_step_is_by_a_row.Goals as goal

pub returns-clause-shaped : goal.returns-clause-shaped
returns-clause-shaped c setting d e s proper shaped did =
    shaped-by_row setting proper d e s shaped did

pub returns-clause-runs : goal.returns-clause-runs
returns-clause-runs c setting n proper some few two most steps =
    run-by_row setting proper (start setting.protocol n) steps
    (IsShaped-start setting n proper some few two most)

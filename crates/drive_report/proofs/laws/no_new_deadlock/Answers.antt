-- Where no step is enabled the abstraction is still, and each configuration of a run has the shape.
use Rattle.std.proofs.Common.{◌≡◌, []}
use Rattle.rv_base.proofs.Lists.{AllByRecursion-weaker}
use Rattle.async_shape.specs.Config.{Config, start}
use Rattle.async_shape.specs.Run.{run}
use Rattle.async_shape.specs.Shape.{IsShaped}
use Rattle.async_shape.proofs.Start.{IsShaped-start}
use Rattle.async_shape.proofs.EveryStepKeep.{IsShaped-run}
use Rattle.abstraction_map.specs.Abstraction.{abstraction}
use Rattle.drive_report.specs.Ready.{ready_list, IsStill}
use Rattle.drive_report.proofs.Still.{shaped-still}
use Rattle.drive_report.proofs.laws.no_new_deadlock.Goals as goal

pub returns-clause-shaped : goal.returns-clause-shaped
returns-clause-shaped c setting d proper shaped empty = shaped-still setting proper d shaped empty

pub returns-clause-runs : goal.returns-clause-runs
returns-clause-runs c setting n proper some few two most steps =
    AllByRecursion-weaker (IsShaped setting)
    (λ (d : Config). ready_list setting d ≡ []
    → IsStill setting.protocol (abstraction setting.protocol d))
    (run setting (start setting.protocol n) steps) (shaped-still setting proper)
    (IsShaped-run setting proper (start setting.protocol n) steps
    (IsShaped-start setting n proper some few two most))

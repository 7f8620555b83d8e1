-- The run stopped where no step is enabled, in a configuration that has the shape.
use Rattle.drive_report.proofs.DrivenTurns.{stopped-still}
use Rattle.drive_report.proofs.laws.stopped_is_still.Goals as goal

pub returns : goal.returns
returns c setting n proper some few two most turns seed stopped =
    stopped-still setting n proper some few two most turns seed stopped

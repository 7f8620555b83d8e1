-- What an array shares is in step, and it shares its links as it should from the start on.
use Rattle.line_array.specs.ArrayConfig.{array_start}
use Rattle.line_array.specs.ArrayNext.{array_at_end}
use Rattle.line_array.proofs.InStepOf.{sharing-in_step}
use Rattle.line_array.proofs.Sharing.{IsSharing-start, IsSharing-steps}
use Rattle.line_array.proofs.laws.shared_lists_are_in_step.Goals as goal

pub returns-clause-sharing : goal.returns-clause-sharing
returns-clause-sharing call setting c sharing = sharing-in_step setting c sharing

pub returns-clause-runs : goal.returns-clause-runs
returns-clause-runs call setting n lines proper some few two most steps =
    let first = array_start setting.protocol n lines in
    sharing-in_step setting (array_at_end setting first steps)
    (IsSharing-steps setting proper first steps
    (IsSharing-start setting n lines proper some few two most))

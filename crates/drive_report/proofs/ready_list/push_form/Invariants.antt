-- So far the steps with a number before this one.
use Rattle.std.proofs.Common.{◌≡◌, ◌++◌, filter}
use Rattle.async_shape.specs.Next.{is_enabled}
use Rattle.async_machine.specs.Standing.{setting, config}
use Rattle.drive_report.specs.Forms.{step_of}
use Rattle.drive_report.specs.Ready.{steps_below}
use Rattle.drive_report.proofs.ready_list.push_form.Given as goal

abbrev pub invariant-loop-number : goal.invariant-loop-number
invariant-loop-number g l =
    l.steps.items ≡ l.fn.steps.items
    ++ filter (is_enabled (setting l.machine) (config g.L.Links.lists l.machine))
    (steps_below l.number (step_of l.form))

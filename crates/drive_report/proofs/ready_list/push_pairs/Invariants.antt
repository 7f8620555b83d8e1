-- So far the steps with a first number before this one.
use Rattle.std.proofs.Common.{◌≡◌, ◌++◌, filter}
use Rattle.async_shape.specs.Next.{is_enabled}
use Rattle.async_machine.specs.Standing.{setting, config}
use Rattle.drive_report.specs.Forms.{step_of, form_of}
use Rattle.drive_report.specs.Ready.{steps_of_two}
use Rattle.drive_report.proofs.ready_list.push_pairs.Given as goal

abbrev pub invariant-loop-first : goal.invariant-loop-first
invariant-loop-first g l =
    l.steps.items ≡ l.fn.steps.items
    ++ filter (is_enabled (setting l.machine) (config g.L.Links.lists l.machine))
    (steps_of_two l.first l.seconds (λ one. step_of (form_of l.pair one)))

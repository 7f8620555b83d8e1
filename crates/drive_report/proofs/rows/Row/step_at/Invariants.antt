-- The step stands so far behind the numbers before this one.
use Rattle.std.proofs.Common.{◌≡◌, ◌-◌, slice_get}
use Rattle.drive_report.specs.Rows.{steps_of, steps_from}
use Rattle.drive_report.proofs.rows.Row.step_at.Given as goal

abbrev pub invariant-loop-number : goal.invariant-loop-number
invariant-loop-number l =
    slice_get (steps_from l.self l.number (l.self.count - l.number)) l.left
    ≡ slice_get (steps_of l.self) l.place

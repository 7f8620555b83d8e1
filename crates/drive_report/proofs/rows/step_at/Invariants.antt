-- The step stands so far behind the rows before this one.
use Rattle.std.proofs.Common.{◌≡◌, drop, slice_get}
use Rattle.drive_report.specs.Rows.{steps_in}
use Rattle.drive_report.proofs.rows.step_at.Given as goal

abbrev pub invariant-loop-row : goal.invariant-loop-row
invariant-loop-row l =
    slice_get (steps_in (drop l.row-index l.all)) l.left ≡ slice_get (steps_in l.all) l.place

-- The steps of the rows before this one, at most 64 of each.
use Rattle.std.proofs.Common.{◌≡◌, ◌≤◌, ◌*◌, length, take}
use Rattle.drive_report.specs.Rows.{steps_in}
use Rattle.drive_report.proofs.rows.total.Given as goal

abbrev pub invariant-loop-row : goal.invariant-loop-row
invariant-loop-row l = record {
  sum : l.sum ≡ length (steps_in (take l.row-index l.all));
  few : l.sum ≤ 64 * l.row-index;
}

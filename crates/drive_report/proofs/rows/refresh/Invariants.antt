-- So far the first rows were asked again, and the others are as they were.
use Rattle.std.proofs.Common.{◌≡◌, ◌++◌, map, take, drop}
use Rattle.async_machine.specs.Standing.{setting, config}
use Rattle.drive_report.specs.Rows.{refreshed}
use Rattle.drive_report.proofs.rows.refresh.Given as goal

abbrev pub invariant-loop-row : goal.invariant-loop-row
invariant-loop-row g l =
    l.all
    ≡ map (refreshed (setting l.machine) (config g.L.Links.lists l.machine) l.step)
    (take l.row-index l.fn.all)
    ++ drop l.row-index l.fn.all

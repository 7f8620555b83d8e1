-- So far the numbers below this one whose steps are enabled are in the set.
use Rattle.std.proofs.Common.{◌≡◌}
use Rattle.async_machine.specs.Standing.{setting, config}
use Rattle.drive_report.specs.Rows.{enabled_of}
use Rattle.drive_report.proofs.rows.enabled_of.Given as goal

abbrev pub invariant-loop-number : goal.invariant-loop-number
invariant-loop-number g l =
    l.set ≡ enabled_of (setting l.machine) (config g.L.Links.lists l.machine) l.form l.number

-- So far the rows with a first number before this one.
use Rattle.std.proofs.Common.{◌≡◌, ◌++◌, map}
use Rattle.std.specs.List.{range_with_len}
use Rattle.async_machine.specs.Standing.{setting, config}
use Rattle.drive_report.specs.Forms.{form_of}
use Rattle.drive_report.specs.Rows.{ready_row}
use Rattle.drive_report.proofs.rows.push_rows.Given as goal

abbrev pub invariant-loop-first : goal.invariant-loop-first
invariant-loop-first g l =
    l.all.items ≡ l.fn.all.items
    ++ map (ready_row (setting l.machine) (config g.L.Links.lists l.machine))
    (map (λ one. (form_of l.pair one, l.count)) (range_with_len 0 l.first))

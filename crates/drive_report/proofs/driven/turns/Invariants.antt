-- What is counted so far, and what the rest of the run will count, are the whole.
use Rattle.std.proofs.Common.{◌≡◌, ◌-◌, false}
use Rattle.async_machine.specs.Standing.{setting}
use Rattle.drive_report.specs.Counted.{counted_config}
use Rattle.drive_report.specs.Drive.{drive_from}
use Rattle.drive_report.specs.Rows.{ready_rows}
use Rattle.drive_report.specs.Turns.{nothing_counted, packets_counted, IsAtMost, counted_to_end}
use Rattle.drive_report.proofs.driven.turns.Given as goal

abbrev pub invariant-loop-done : goal.invariant-loop-done
invariant-loop-done l =
    let of = setting l.fn.machine in
    let first = counted_config l.fn.machine in
    let now = counted_config l.machine in
    record {
      table : l.machine.table ≡ l.fn.machine.table;
      slots : l.machine.slots ≡ l.fn.machine.slots;
      rows : l.all ≡ ready_rows (setting l.machine) now;
      packets : l.machine.links.counts ≡ packets_counted l.summary;
      few : IsAtMost l.done l.summary;
      going : l.summary.stopped ≡ false;
      whole : counted_to_end of l.summary now (drive_from of (l.count - l.done) now l.x)
          ≡ counted_to_end of nothing_counted first (drive_from of l.count first l.seed);
    }

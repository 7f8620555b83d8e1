-- A step that is chosen is enabled, and the rows are those after it.
use Rattle.std.proofs.Common.{sym, ap₂, subst}
use Rattle.async_shape.proofs.ShapeParts.{IsShaped-whole}
use Rattle.async_machine.specs.Standing.{setting_of, setting}
use Rattle.drive_report.specs.Counted.{counted_config}
use Rattle.drive_report.specs.Rows.{AreFew}
use Rattle.drive_report.proofs.DrivenTurns.{chosen-enabled}
use Rattle.drive_report.proofs.ReadyRows.{rows-few, rows-after}
use Rattle.drive_report.proofs.driven.turn.Goals as goal

pub take-requires-clause-enabled : goal.take-requires-clause-enabled
take-requires-clause-enabled c =
    let machine = c.args.machine.now in
    chosen-enabled (setting machine) (counted_config machine) c.args.x c.in-Some.step
    (sym c.in-Some.ensures)

pub refresh-requires : goal.refresh-requires
refresh-requires c =
    let machine = c.args.machine.now in
    let few = (IsShaped-whole (setting machine) (counted_config machine)
    c.shaped.ensures).few_remotes in
    subst AreFew (sym c.requires.rows) (rows-few (setting machine) (counted_config machine) few)

pub returns-clause-rows : goal.returns-clause-rows
returns-clause-rows c =
    let before = c.args.machine.now in
    let after = c.take.new.machine in
    let few = (IsShaped-whole (setting before) (counted_config before)
    c.shaped.ensures).few_remotes in
    let same = ap₂ setting_of c.take.ensures.kept.0 c.take.ensures.kept.1 in
    rows-after (setting before) (setting after) (counted_config before) (counted_config after)
    c.in-Some.step c.args.all.now c.refresh.new.all few same c.take.ensures.step c.requires.rows
    c.refresh.ensures

-- One more row is asked again.
use Rattle.rv_base.proofs.Lists.{mapped_in_place}
use Rattle.async_machine.specs.Standing.{setting, config}
use Rattle.drive_report.specs.Rows.{refreshed}
use Rattle.drive_report.proofs.ReadyRows.{row-next}
use Rattle.drive_report.proofs.rows.refresh.Goals as goal

pub refreshed-requires : goal.refreshed-requires
refreshed-requires g c =
    let machine = c.args.machine.now in
    row-next (refreshed (setting machine) (config g.L.Links.lists machine) c.args.step)
    c.args.all.now c.loop-row.all c.loop-row.row-index _ c.loop-row-test.true c.loop-row.invariant
    c.requires.each

pub loop-row-preserved : goal.loop-row-preserved
loop-row-preserved g c =
    let machine = c.args.machine.now in
    mapped_in_place
    (refreshed (setting machine) (config g.L.Links.lists machine) c.args.step) c.args.all.now
    c.loop-row.all c.loop-row.row-index c.refreshed.result _ c.loop-row-test.true
    c.loop-row.invariant c.refreshed.ensures

-- The configuration has the shape, and the protocol is proper.
use Rattle.async_machine.specs.Standing.{setting, config}
use Rattle.drive_report.proofs.Still.{shaped-still}
use Rattle.drive_report.proofs.laws.no_new_deadlock_of.Goals as goal

pub returns : goal.returns
returns g c =
    let machine = c.args.machine.now in
    let sound = rw c.table.ensures at c.home.ensures.sound in
    shaped-still (setting machine) sound.proper (config g.L.Links.lists machine) c.shaped.ensures

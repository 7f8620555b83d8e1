-- The configuration has the shape, and the protocol is proper.
use Rattle.async_machine.specs.Standing.{setting, config}
use Rattle.abstraction_map.proofs.Refined.{shaped-refined}
use Rattle.abstraction_map.proofs.laws.the_machine_refines.Goals as goal

pub returns : goal.returns
returns g c =
    let machine = c.args.machine.now in
    let stands = config g.L.Links.lists machine in
    let sound = rw c.table.ensures at c.home.ensures.sound in
    shaped-refined (setting machine) stands c.shaped.ensures sound.proper

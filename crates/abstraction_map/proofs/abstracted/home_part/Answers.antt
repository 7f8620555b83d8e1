-- The home waits on a remote that is there.
use Rattle.std.proofs.Common.{sym}
use Rattle.async_machine.specs.Standing.{setting, config}
use Rattle.abstraction_map.proofs.Named.{waited-there}
use Rattle.abstraction_map.proofs.abstracted.home_part.Goals as goal

pub awaited_fate-fate-requires : goal.awaited_fate-fate-requires
awaited_fate-fate-requires g c =
    let machine = c.args.machine.now in
    let stands = config g.L.Links.lists machine in
    waited-there (setting machine) stands c.shaped.ensures c.in-Waits.waiting
    (sym c.in-Waits.ensures)

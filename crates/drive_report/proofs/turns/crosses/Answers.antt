-- The home waits on a remote that is there.
use Rattle.std.proofs.Common.{sym}
use Rattle.async_machine.specs.Standing.{setting, config}
use Rattle.async_shape.proofs.ShapeParts.{links-there}
use Rattle.abstraction_map.proofs.Named.{waited-there}
use Rattle.drive_report.proofs.turns.crosses.Goals as goal

pub up_at-requires : goal.up_at-requires
up_at-requires g c =
    let machine = c.args.machine.now in
    let stands = config g.L.Links.lists machine in
    let waiting = c.in-Waits.waiting in
    rw c.links.ensures
    (links-there (setting machine) stands c.shaped.ensures waiting.on
    (waited-there (setting machine) stands c.shaped.ensures waiting (sym c.in-Waits.ensures)))

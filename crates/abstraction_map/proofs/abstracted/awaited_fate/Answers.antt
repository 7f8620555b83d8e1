-- The remote has its links, and few packets are on this one.
use Rattle.async_machine.specs.Standing.{setting, config}
use Rattle.async_shape.proofs.ShapeParts.{links-there}
use Rattle.abstraction_map.proofs.Named.{up-few}
use Rattle.abstraction_map.proofs.abstracted.awaited_fate.Goals as goal

pub fate_on-requires-clause-remote : goal.fate_on-requires-clause-remote
fate_on-requires-clause-remote g c =
    let machine = c.args.machine.now in
    let stands = config g.L.Links.lists machine in
    let there = links-there (setting machine) stands c.shaped.ensures c.args.j c.requires in
    rw c.links.ensures there

pub fate_on-requires-clause-few : goal.fate_on-requires-clause-few
fate_on-requires-clause-few g c =
    let machine = c.args.machine.now in
    let stands = config g.L.Links.lists machine in
    rw c.links.ensures (up-few (setting machine) stands c.shaped.ensures c.args.j c.requires)

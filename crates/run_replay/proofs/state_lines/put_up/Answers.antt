-- The remote has its links, and few packets are on this one.
use Rattle.std.proofs.Common.{List, map, subst, ap, ◌∙◌}
use Rattle.proto_model.specs.Continued.{Continues}
use Rattle.proto_model.specs.declared.numbered.MessageInfo.{MessageInfo}
use Rattle.controller_table.specs.Sound.{Tabled}
use Rattle.ordered_links.specs.Lists.{links_at}
use Rattle.async_machine.specs.Standing.{setting, config}
use Rattle.abstraction_map.proofs.Named.{up-few}
use Rattle.async_shape.proofs.ShapeParts.{links-there}
use Rattle.run_replay.specs.StateLines.{bracketed, packet_text}
use Rattle.run_replay.proofs.state_lines.put_up.Goals as goal

pub up_at-first-requires : goal.up_at-first-requires
up_at-first-requires g c =
    let machine = c.args.machine.now in
    rw c.links-links.ensures
    (links-there (setting machine) (config g.L.Links.lists machine) c.shaped.ensures c.args.j
    c.requires)

pub up_at-second-requires : goal.up_at-second-requires
up_at-second-requires g c =
    let machine = c.args.machine.now in
    rw c.links-links.ensures
    (links-there (setting machine) (config g.L.Links.lists machine) c.shaped.ensures c.args.j
    c.requires)

pub up_at-third-requires : goal.up_at-third-requires
up_at-third-requires g c =
    let machine = c.args.machine.now in
    rw c.links-links.ensures
    (links-there (setting machine) (config g.L.Links.lists machine) c.shaped.ensures c.args.j
    c.requires)

pub returns : goal.returns
returns g c =
    let machine = c.args.machine.now in
    let stands = config g.L.Links.lists machine in
    let packets = (links_at stands.links c.args.j).up in
    let messages = c.messages.ensures.value
    ∙ ap (λ (t : Tabled). t.messages) c.table.ensures in
    subst
    (λ (ms : List MessageInfo). Continues (bracketed (map (packet_text ms) packets))
    c.args.so_far c.args.out.now.items c.put_packets.result c.put_packets.new.out.items) messages
    (c.put_packets.ensures packets (record {
      few = up-few (setting machine) stands c.shaped.ensures c.args.j c.requires;
      at_0 = rw c.links-links.ensures at c.up_at-first.ensures;
      at_1 = rw c.links-links.ensures at c.up_at-second.ensures;
      at_2 = rw c.links-links.ensures at c.up_at-third.ensures;
    }))

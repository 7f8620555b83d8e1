-- A take from one wire is a take from its link.
use Rattle.faulty_link.specs.Moves.{link_on}
use Rattle.faulty_link.specs.Wire.{wire_lists}
use Rattle.faulty_link.proofs.Lists.{wires_at-read, take-lists, take-value, take-unchanged}
use Rattle.faulty_link.proofs.lossy_links.LossyLinks.take.Goals as goal

pub returns-clause-lists : goal.returns-clause-lists
returns-clause-lists c =
    let wires = c.self.inside.pairs.items in
    let pair = c.index_mut-pair.result.now in
    let within = rw (← c.self.view_is) at c.requires in
    let there = wires_at-read wires c.args.j pair within c.index_mut-pair.ensures.value in
    rw (← c.self.view_is)
    (take-lists wires c.args.j c.args.way pair c.take.new.self there c.take.ensures.after
    c.take.ensures.list)

pub returns-clause-unchanged : goal.returns-clause-unchanged
returns-clause-unchanged c =
    let wires = c.self.inside.pairs.items in
    let pair = c.index_mut-pair.result.now in
    let within = rw (← c.self.view_is) at c.requires in
    let there = wires_at-read wires c.args.j pair within c.index_mut-pair.ensures.value in
    rw (← c.self.view_is)
    (take-unchanged (link_on c.args.j c.args.way) c.take.result (wire_lists wires) _
    (take-value wires c.args.j c.args.way pair c.take.result there c.take.ensures.value)
    (take-lists wires c.args.j c.args.way pair c.take.new.self there c.take.ensures.after
    c.take.ensures.list))

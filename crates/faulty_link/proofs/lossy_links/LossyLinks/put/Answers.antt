-- A put on one wire is a put on its link.
use Rattle.faulty_link.proofs.Lists.{wires_at-read, put-lists}
use Rattle.faulty_link.proofs.lossy_links.LossyLinks.put.Goals as goal

pub returns-clause-lists : goal.returns-clause-lists
returns-clause-lists c =
    let wires = c.self.inside.pairs.items in
    let within = rw (← c.self.view_is) at c.requires.remote in
    let there = wires_at-read wires c.args.j c.index_mut-pair.result.now within
    c.index_mut-pair.ensures.value in
    rw (← c.self.view_is)
    (put-lists wires c.args.j c.args.way c.args.packet c.index_mut-pair.result.now c.put.new.self
    there c.put.ensures.after c.put.ensures.list)

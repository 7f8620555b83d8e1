-- A move of one wire is one of the links.
use Rattle.std.proofs.Common.{◌≡◌, ◌<◌, length, arith}
use Rattle.faulty_link.specs.Moves.{remote_of}
use Rattle.faulty_link.proofs.Lists.{wires_at-read, lists-same, moved-answered}
use Rattle.faulty_link.proofs.lossy_links.LossyLinksMovingLinks.own_move.Goals as goal

pub returns-clause-lists : goal.returns-clause-lists
returns-clause-lists c =
    let wires = c.self.inside.pairs.items in
    let pair = c.index_mut-pair.result.now in
    let remote = c.remote-remote.result in
    let within : remote < length wires =
    omega (arith, c.if-remote-len.false, c.len.ensures, c.self.inside.pairs.ok) in
    let there = wires_at-read wires remote pair within c.index_mut-pair.ensures.value in
    rw (← c.self.view_is)
    (lists-same wires remote pair c.own_move.new.self there c.own_move.ensures.lists)

pub returns-clause-effect : goal.returns-clause-effect
returns-clause-effect c =
    let wires = c.self.inside.pairs.items in
    let pair = c.index_mut-pair.result.now in
    let same : c.remote-remote.result ≡ remote_of c.args.step = c.remote-remote.ensures in
    let within : remote_of c.args.step < length wires =
    omega (arith, same, c.if-remote-len.false, c.len.ensures, c.self.inside.pairs.ok) in
    let read = rw same at c.index_mut-pair.ensures.value in
    let there = wires_at-read wires (remote_of c.args.step) pair within read in
    rw (← c.self.view_is, same)
    (moved-answered c.args.step c.own_move.result wires pair c.own_move.new.self within there
    c.own_move.ensures.answer)

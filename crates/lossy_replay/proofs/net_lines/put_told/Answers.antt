-- What is told of a move that was made names its wire.
use Rattle.schedule_replay.proofs.Chained.{grown}
use Rattle.lossy_replay.proofs.MovesTold.{told-made}
use Rattle.lossy_replay.proofs.net_lines.put_told.Goals as goal

pub returns : goal.returns
returns c =
    grown _ _ _ c.args.so_far c.append-so_far.result c.put_wire_line.result c.args.out.now.items
    c.append-so_far.new.out.items c.put_wire_line.new.out.items
    (told-made c.args.made c.args.step c.args.links.now c.remote.result c.way.result
    c.if-not-made.false c.remote.ensures c.way.ensures)
    c.append-so_far.ensures c.put_wire_line.ensures

-- The machine starts over wires on which nothing was put.
use Rattle.lossy_replay.proofs.WiresAfter.{lists-are_empty, starts-so}
use Rattle.lossy_replay.proofs.lossy_player.LossyPlayer.new.Goals as goal

pub new-requires-2-clause-empty : goal.new-requires-2-clause-empty
new-requires-2-clause-empty c =
    lists-are_empty c.in_ok-links.links c.args.n c.in_ok-links.ensures

pub returns : goal.returns
returns c =
    starts-so c.in_ok-links.links c.args.n c.in_ok-links.ensures c.args.table.now
    c.in_ok-machine.machine c.args.k c.in_ok-machine.ensures.parts.0
    c.in_ok-machine.ensures.parts.1 c.in_ok-machine.ensures.parts.2 c.in_ok-machine.ensures.start

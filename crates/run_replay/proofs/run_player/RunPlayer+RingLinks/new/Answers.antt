-- The machine starts over the table of the protocol.
use Rattle.run_replay.proofs.PlayedSteps.{starts-so}
use Rattle.run_replay.proofs.run_player.RunPlayer+RingLinks.new.Goals as goal

pub returns : goal.returns
returns c =
    starts-so (λ links. links) c.args.checked.now c.args.table.now c.in_ok-machine.machine
    c.in_ok-links.links c.claims-claims.result.now c.args.n c.args.k c.claims-claims.ensures.value
    c.requires.table c.in_ok-links.ensures c.in_ok-machine.ensures.parts.0
    c.in_ok-machine.ensures.parts.1 c.in_ok-machine.ensures.start

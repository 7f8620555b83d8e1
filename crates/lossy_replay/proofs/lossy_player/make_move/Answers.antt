-- The links after the move are the machine's, and its block tells of them.
use Rattle.std.proofs.Common.{ap}
use Rattle.std.proofs.lemmas.Result.{on_ok_weaker}
use Rattle.schedule_replay.proofs.Chained.{whole_there}
use Rattle.lossy_replay.proofs.MovesTold.{made-within, move-leads, move-block}
use Rattle.lossy_replay.proofs.lossy_player.make_move.Goals as goal

pub net_block-requires : goal.net_block-requires
net_block-requires c = λ made.
    rw c.links.ensures (made-within c.inner-made.result c.args.step c.args.machine.now.links
    c.inner-made.new.self.links c.inner-made.ensures.effect
    (ap (λ at. at.links) c.inner-made.ensures.config) made)

pub returns-clause-after : goal.returns-clause-after
returns-clause-after c =
    move-leads c.inner-made.result c.args.machine.now c.inner-made.new.self c.args.step
    c.inner-made.ensures.kept c.inner-made.ensures.config c.inner-made.ensures.effect

pub returns-clause-tells : goal.returns-clause-tells
returns-clause-tells c =
    on_ok_weaker c.net_block.result
    (λ written. move-block c.inner-made.result c.args.machine.now.links c.inner-made.new.self.links
    c.args.step c.args.out.now.items c.net_block.new.out.items c.inner-made.ensures.effect
    (rw (← c.links.ensures) written))
    (whole_there _ c.net_block.result _ _ c.net_block.ensures)

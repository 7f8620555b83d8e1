-- In each round one more packet is gone.
use Rattle.faulty_link.proofs.FittedKeeps.{dropped-more}
use Rattle.faulty_link.proofs.wire.keep_last.Goals as goal

pub loop-preserved : goal.loop-preserved
loop-preserved c =
    dropped-more c.args.window.now c.loop.counter c.loop.invariant c.pop_front.ensures.items

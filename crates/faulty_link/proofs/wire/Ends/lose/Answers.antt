-- A wire from whose flight a frame is lost.
use Rattle.std.proofs.Common.{arith}
use Rattle.faulty_link.proofs.FittedKeeps.{fitted-flight}
use Rattle.faulty_link.proofs.MovesKeep.{without_frame-kept}
use Rattle.faulty_link.proofs.wire.Ends.lose.Goals as goal

pub invariant_of-self : goal.invariant_of-self
invariant_of-self c =
    fitted-flight c.self.invariant (rw c.remove.ensures.capacity c.self.invariant.flight)
    c.remove.ensures.items
    (without_frame-kept _ _ c.args.place c.self.invariant.whole
    (omega (arith, c.if-place-len.false, c.len.ensures, c.self.inside.flight.ok)))

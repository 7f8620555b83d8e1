-- A wire in whose flight a frame is repeated.
use Rattle.std.proofs.Common.{sym}
use Rattle.rv_base.proofs.Lists.{AllByRecursion-at}
use Rattle.faulty_link.specs.Whole.{IsFrame}
use Rattle.faulty_link.proofs.FittedKeeps.{fitted-flight}
use Rattle.faulty_link.proofs.MovesKeep.{sent-kept}
use Rattle.faulty_link.proofs.wire.Ends.copy.Goals as goal

pub invariant_of-self : goal.invariant_of-self
invariant_of-self c =
    let at = sym (rw (← c.self.view_is) at c.in-Some.ensures) in
    let whole = c.self.invariant.whole in
    fitted-flight c.self.invariant c.push_frame.ensures.room c.push_frame.ensures.items
    (sent-kept _ _ c.in-Some.frame whole
    (AllByRecursion-at (IsFrame _) c.self.inside.flight.items c.args.place c.in-Some.frame
    whole.frames at))

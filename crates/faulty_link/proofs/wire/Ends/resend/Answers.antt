-- A wire on which a packet of the window is sent once more.
use Rattle.std.proofs.Common.{sym}
use Rattle.faulty_link.proofs.FittedKeeps.{fitted-flight}
use Rattle.faulty_link.proofs.MovesKeep.{sent-kept, resent-frame}
use Rattle.faulty_link.proofs.wire.Ends.resend.Goals as goal

pub invariant_of-self : goal.invariant_of-self
invariant_of-self c =
    let at = sym (rw (← c.self.view_is) at c.in-Some.ensures) in
    let whole = c.self.invariant.whole in
    let sends = rw c.len.ensures.len at c.push_frame.ensures.items in
    fitted-flight c.self.invariant c.push_frame.ensures.room sends
    (sent-kept _ _ _ whole (resent-frame _ _ c.args.place c.in-Some.packet whole at))

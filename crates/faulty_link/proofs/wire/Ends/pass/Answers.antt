-- A wire after a frame has come to its other end.
use Rattle.std.proofs.Common.{sym}
use Rattle.faulty_link.proofs.FittedKeeps.{fitted-flight, inbox-received, passed-fitted, pass-next}
use Rattle.faulty_link.proofs.MovesKeep.{pass_other-kept}
use Rattle.faulty_link.proofs.wire.Ends.pass.Goals as goal

pub invariant_of-self : goal.invariant_of-self
invariant_of-self c =
    let at = sym (rw (← c.self.view_is) at c.in-Some.ensures) in
    let next = c.if-frame-self.true in
    passed-fitted c.args.place c.in-Some.frame c.self.invariant at next
    (inbox-received c.args.place c.in-Some.frame c.self.invariant at next c.push_back.ensures.items)
    (rw c.remove.ensures.capacity c.self.invariant.flight) c.remove.ensures.items

pub invariant_of-self-else-frame-self : goal.invariant_of-self-else-frame-self
invariant_of-self-else-frame-self c =
    let at = sym (rw (← c.self.view_is) at c.in-Some.ensures) in
    fitted-flight c.self.invariant (rw c.remove.ensures.capacity c.self.invariant.flight)
    c.remove.ensures.items
    (pass_other-kept _ _ c.args.place c.in-Some.frame c.self.invariant.whole at)

pub returns-then-frame-self-clause-answer : goal.returns-then-frame-self-clause-answer
returns-then-frame-self-clause-answer c =
    let at = sym (rw (← c.self.view_is) at c.in-Some.ensures) in
    let next = c.if-frame-self.true in
    let comes = inbox-received c.args.place c.in-Some.frame c.self.invariant at next
    c.push_back.ensures.items in
    rw (← c.self.view_is, comes, c.remove.ensures.items)
    (pass-next c.args.place _ c.in-Some.frame at next)

-- A wire after a put.
use Rattle.std.proofs.Common.{ap, ◌∙◌, length, arith}
use Rattle.faulty_link.proofs.FittedKeeps.{put-fitted}
use Rattle.faulty_link.proofs.wire.Ends.put.Goals as goal

pub invariant_of-self : goal.invariant_of-self
invariant_of-self c =
    let count = ap length (rw (← c.self.view_is) at c.renumber.ensures.list) in
    let room = ap (λ fitted. fitted.room) (c.self.view_is ∙ c.renumber.ensures.after) in
    let requires = c.requires in
    put-fitted c.args.packet c.self.invariant (omega (arith, count, room, requires))
    (rw (← c.self.view_is) at c.renumber.ensures.number) c.push_back.ensures.items
    c.push_frame.ensures.room c.push_frame.ensures.items

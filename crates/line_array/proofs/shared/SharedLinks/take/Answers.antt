-- The first number of the ring of the link is gone.
use Rattle.line_array.proofs.RingsChanged.{up-taken, down-taken}
use Rattle.line_array.proofs.shared.SharedLinks.take.Goals as goal

pub returns-in-Up-clause-pairs : goal.returns-in-Up-clause-pairs
returns-in-Up-clause-pairs c =
    let within = rw (c.in-Up.is, ← c.self.view_is) at c.requires in
    rw (c.in-Up.is, ← c.self.view_is)
    (up-taken c.self.inside.rings.items c.in-Up.j c.index_mut-rings.result.now within
    c.index_mut-rings.ensures.value c.pop_front.new.self c.pop_front.ensures.items)

pub returns-in-Down-clause-pairs : goal.returns-in-Down-clause-pairs
returns-in-Down-clause-pairs c =
    let within = rw (c.in-Down.is, ← c.self.view_is) at c.requires in
    rw (c.in-Down.is, ← c.self.view_is)
    (down-taken c.self.inside.rings.items c.in-Down.j c.index_mut-rings-in-Down.result.now within
    c.index_mut-rings-in-Down.ensures.value c.pop_front-in-Down.new.self
    c.pop_front-in-Down.ensures.items)

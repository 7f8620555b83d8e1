-- The number ends the ring of the link, which has room for it.
use Rattle.line_array.proofs.RingsChanged.{up-put, down-put}
use Rattle.line_array.proofs.shared.SharedLinks.put.Goals as goal

pub returns-in-Up-clause-pairs : goal.returns-in-Up-clause-pairs
returns-in-Up-clause-pairs c =
    let within = rw (c.in-Up.is, ← c.self.view_is) at c.requires.remote in
    let room = rw (c.in-Up.is, ← c.self.view_is) at c.requires.room in
    rw (c.in-Up.is, ← c.self.view_is)
    (up-put c.self.inside.rings.items c.in-Up.j c.index_mut-rings.result.now within
    c.index_mut-rings.ensures.value c.self.inside.lines c.args.a c.push_back.new.self
    c.self.invariant room c.push_back.ensures.items)

pub returns-in-Down-clause-pairs : goal.returns-in-Down-clause-pairs
returns-in-Down-clause-pairs c =
    let within = rw (c.in-Down.is, ← c.self.view_is) at c.requires.remote in
    let room = rw (c.in-Down.is, ← c.self.view_is) at c.requires.room in
    rw (c.in-Down.is, ← c.self.view_is)
    (down-put c.self.inside.rings.items c.in-Down.j c.index_mut-rings-in-Down.result.now within
    c.index_mut-rings-in-Down.ensures.value c.self.inside.lines c.args.a
    c.push_back-in-Down.new.self c.self.invariant room c.push_back-in-Down.ensures.items)

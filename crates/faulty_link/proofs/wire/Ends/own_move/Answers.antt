-- The packets stay, whatever the move.
use Rattle.faulty_link.specs.Whole.{IsWire}
use Rattle.faulty_link.proofs.FittedKeeps.{answered-list}
use Rattle.faulty_link.proofs.wire.Ends.own_move.Goals as goal

pub returns-clause-list : goal.returns-clause-list
returns-clause-list c =
    let whole : IsWire c.args.self.now.room c.args.self.now.wire =
    rw (← c.self.view_is) c.self.invariant.whole in
    answered-list _ c.args.step c.make.result c.args.self.now.wire c.make.new.self.wire whole
    c.make.ensures.answer

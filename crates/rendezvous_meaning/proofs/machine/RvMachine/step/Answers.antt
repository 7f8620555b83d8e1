-- The event is taken exactly where there is a step, and the configuration stays one of the
-- protocol.
use Rattle.rendezvous_meaning.proofs.Taken.{RvStep-taken, taken-RvStep, IsConfigOf-taken}
use Rattle.rendezvous_meaning.proofs.machine.RvMachine.step.Goals as goal

pub invariant_of-self : goal.invariant_of-self
invariant_of-self c =
    let inside = c.self.inside in
    record {
      proper = c.self.invariant.proper;
      stands = IsConfigOf-taken inside.protocol.now.protocol inside.config c.take.new.config
          c.args.event c.take.result c.self.invariant.proper c.self.invariant.stands c.take.ensures;
    }

pub returns-clause-moved : goal.returns-clause-moved
returns-clause-moved c =
    let inside = c.self.inside in
    rw (← c.self.view_is)
    (RvStep-taken inside.protocol.now.protocol inside.config c.take.new.config c.args.event
    c.take.result c.take.ensures)

pub returns-clause-only : goal.returns-clause-only
returns-clause-only c =
    let inside = c.self.inside in
    rw (← c.self.view_is)
    (taken-RvStep inside.protocol.now.protocol inside.config c.take.new.config c.args.event
    c.take.result c.take.ensures)

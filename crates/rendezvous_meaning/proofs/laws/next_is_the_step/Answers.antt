-- What is computed is a step, and each step is computed.
use Rattle.proto_model.proofs.Steps.{RvStep-next, rv_next-step}
use Rattle.rendezvous_meaning.proofs.laws.next_is_the_step.Goals as goal

pub returns : goal.returns
returns c = λ protocol config next event.
    (RvStep-next protocol config event next, rv_next-step protocol config event next)

-- The event that is carried out is the one that the words tell.
use Rattle.trace_audit.proofs.HeardEvents.{after_words-tells, tells-after_words}
use Rattle.trace_audit.proofs.laws.an_event_is_heard_exactly.Goals as goal

pub returns : goal.returns
returns c = λ standing words next.
    (after_words-tells standing words next, tells-after_words standing words next)

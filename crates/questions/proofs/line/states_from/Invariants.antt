-- The words so far name the states of the set so far.
use Rattle.questions.proofs.StatesSoFar.{Names}
use Rattle.questions.proofs.line.states_from.Given as goal

abbrev pub invariant-loop-place : goal.invariant-loop-place
invariant-loop-place l = Names l.names (λ w. w.now) l.words l.set l.place

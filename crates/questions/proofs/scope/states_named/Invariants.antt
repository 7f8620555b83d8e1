-- The names of the states so far.
use Rattle.std.proofs.Common.{◌≡◌, map, take}
use Rattle.questions.proofs.scope.states_named.Given as goal

abbrev pub invariant-loop-state : goal.invariant-loop-state
invariant-loop-state l = l.names ≡ map (λ s. s.name) (take l.state-index l.body.states)

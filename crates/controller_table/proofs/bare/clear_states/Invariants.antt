-- So far the first states are bare, and the others are as they were.
use Rattle.std.proofs.Common.{◌≡◌, ◌++◌, map, take, drop}
use Rattle.proto_model.specs.Guards.{bare_state}
use Rattle.controller_table.proofs.bare.clear_states.Given as goal

abbrev pub invariant-loop-state : goal.invariant-loop-state
invariant-loop-state l =
    l.states ≡ map bare_state (take l.state-index l.fn.states) ++ drop l.state-index l.fn.states

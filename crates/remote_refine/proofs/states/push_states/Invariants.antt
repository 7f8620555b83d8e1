-- So far the rows of the first states are pushed.
use Rattle.std.proofs.Common.{◌≡◌, ◌++◌, take}
use Rattle.rv_base.specs.Lists.{flat_from}
use Rattle.remote_refine.proofs.states.push_states.Given as goal

abbrev pub invariant-loop-state : goal.invariant-loop-state
invariant-loop-state g l =
    l.rows ≡ l.initial.rows
    ++ flat_from (g.R.StateRows.state_rows l.of.messages.now l.of.replies.now l.of.body.now) 0
    (take l.state l.of.body.now.states)

-- The rows of one more state are pushed.
use Rattle.rv_base.proofs.Lists.{flat_pushed}
use Rattle.remote_refine.proofs.states.push_states.Goals as goal

pub loop-state-preserved : goal.loop-state-preserved
loop-state-preserved g c =
    flat_pushed (g.R.StateRows.state_rows c.args.of.now.messages.now c.args.of.now.replies.now
    c.args.of.now.body.now) _ _
    c.as_slice-info-items.ensures c.loop-state-test.true c.info-item.is c.in_ok-push_state.ensures
    c.loop-state.invariant

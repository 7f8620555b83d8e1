-- The rows of one more guard are pushed.
use Rattle.rv_base.proofs.Lists.{flat_pushed}
use Rattle.controller_table.specs.Rows.{guard_id}
use Rattle.remote_refine.proofs.states.push_guards.Goals as goal

pub loop-place-preserved : goal.loop-place-preserved
loop-place-preserved g c =
    flat_pushed (λ n. g.R.GuardRows.guard_rows c.args.of.now.messages.now c.args.of.now.replies.now
    c.args.of.now.body.now (guard_id c.args.state n)) _ _
    c.as_slice-rule-items.ensures c.loop-place-test.true c.rule-item.is c.in_ok-push_guard.ensures
    c.loop-place.invariant

-- So far the rows of the first guards are pushed.
use Rattle.std.proofs.Common.{◌≡◌, ◌++◌, take}
use Rattle.rv_base.specs.Lists.{flat_from}
use Rattle.controller_table.specs.Rows.{guard_id}
use Rattle.remote_refine.proofs.states.push_guards.Given as goal

abbrev pub invariant-loop-place : goal.invariant-loop-place
invariant-loop-place g l =
    l.rows ≡ l.initial.rows
    ++ flat_from (λ n. g.R.GuardRows.guard_rows l.of.messages.now l.of.replies.now l.of.body.now
    (guard_id l.state n)) 0
    (take l.place l.info.rules)

-- The step stands in this row, or behind it.
use Rattle.std.proofs.Common.{ℕ, ◌+◌, ◌-◌, ◌<◌, ◌≤◌, drop, slice_get, ap, subst, ◌∙◌}
use Rattle.drive_report.specs.Rows.{steps_in}
use Rattle.drive_report.proofs.RowPlaces.{row-here, row-behind}
use Rattle.drive_report.proofs.rows.step_at.Goals as goal

pub returns-then-left-count : goal.returns-then-left-count
returns-then-left-count c =
    let l = c.loop-row in
    let inside = subst (λ (k : ℕ). l.left < k) c.len-count.ensures.value c.if-left-count.true in
    c.step_at.ensures
    ∙ row-here c.args.all.now l.row-index _ l.left c.loop-row-test.true inside
    ∙ l.invariant

pub loop-row-preserved : goal.loop-row-preserved
loop-row-preserved c =
    let l = c.loop-row in
    let past = subst (λ (k : ℕ). k ≤ l.left) c.len-count.ensures.value c.if-left-count.false in
    ap (λ (k : ℕ). slice_get (steps_in (drop (l.row-index + 1) c.args.all.now)) (l.left - k))
    c.len-count.ensures.value
    ∙ row-behind c.args.all.now l.row-index _ l.left c.loop-row-test.true past
    ∙ l.invariant

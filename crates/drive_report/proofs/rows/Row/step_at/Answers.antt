-- The step is that of this number, or stands behind it.
use Rattle.std.proofs.Common.{◌≡◌, ℕ, ◌+◌, ◌-◌, Some, slice_get, sym, ap, arith, ◌∙◌}
use Rattle.drive_report.specs.Forms.{step_of}
use Rattle.drive_report.specs.Rows.{steps_from}
use Rattle.drive_report.proofs.RowPlaces.{step-here, step-behind, step-elsewhere}
use Rattle.drive_report.proofs.rows.Row.step_at.Goals as goal
use Rattle.drive_report.proofs.rows.Row.step_at.Goals.{then-has_number+else-left-eq0}
use Rattle.drive_report.proofs.rows.Row.step_at.Goals.{else-has_number}

pub returns-then-left-eq0 : goal.returns-then-left-eq0
returns-then-left-eq0 c =
    let row = c.args.self in
    let number = c.loop-number.number in
    ap (λ s. Some s) (c.step.ensures ∙ ap (step_of row.form) c.from.ensures)
    ∙ step-here row number c.loop-number-test.true (sym c.has_number.ensures ∙ c.if-has_number.true)
    ∙ ap (slice_get (steps_from row number (row.count - number))) (sym c.if-left-eq0.true)
    ∙ c.loop-number.invariant

pub loop-number-preserved : goal.loop-number-preserved
loop-number-preserved c =
    let row = c.args.self in
    let number = c.loop-number.number in
    let left = c.loop-number.left in
    let behind = steps_from row (number + 1) (row.count - (number + 1)) in
    elim c.if-has_number.branch [
      | then-has_number+else-left-eq0 w ↦
          ap (slice_get behind) w.left-is
          ∙ step-behind row number c.loop-number-test.true left
          (sym c.has_number.ensures ∙ w.if-has_number.true) w.if-left-eq0.false
          ∙ c.loop-number.invariant
      | else-has_number w ↦
          ap (slice_get behind) w.left-is
          ∙ step-elsewhere row number c.loop-number-test.true left
          (sym c.has_number.ensures ∙ w.if-has_number.false)
          ∙ c.loop-number.invariant
    ]

pub returns : goal.returns
returns c =
    let row = c.args.self in
    let number = c.loop-number.number in
    let none : row.count - number ≡ 0 = omega (arith, c.loop-number-test.false) in
    ap (λ (k : ℕ). slice_get (steps_from row number k) c.loop-number.left) (sym none)
    ∙ c.loop-number.invariant

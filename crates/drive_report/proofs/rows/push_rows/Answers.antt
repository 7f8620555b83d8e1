-- One more row.
use Rattle.std.proofs.Common.{ℕ, [], ◌∷◌, ◌++◌, ap, ◌∙◌}
use Rattle.async_machine.specs.Standing.{setting, config}
use Rattle.drive_report.specs.Forms.{form_of}
use Rattle.drive_report.specs.Rows.{ready_row}
use Rattle.drive_report.specs.declared.forms.Form.{Form}
use Rattle.drive_report.proofs.RowsPushed.{pair-row_pushed}
use Rattle.drive_report.proofs.rows.push_rows.Goals as goal

pub loop-first-preserved : goal.loop-first-preserved
loop-first-preserved g c =
    let machine = c.args.machine.now in
    let give = ready_row (setting machine) (config g.L.Links.lists machine) in
    let rows = c.loop-first.all.items in
    pair-row_pushed give (λ (one : ℕ). (form_of c.args.pair one, c.args.count)) c.loop-first.first
    c.args.all.now.items rows c.push_row.new.all.items c.loop-first.invariant
    (c.in_ok-push_row.ensures
    ∙ ap (λ (f : Form). rows ++ give (f, c.args.count) ∷ [])
    (c.form.ensures ∙ ap (form_of c.args.pair) c.from.ensures))

-- One more form.
use Rattle.std.proofs.Common.{◌++◌, filter, ap, ◌∙◌}
use Rattle.async_shape.specs.Next.{is_enabled}
use Rattle.async_machine.specs.Standing.{setting, config}
use Rattle.drive_report.specs.Forms.{step_of, form_of}
use Rattle.drive_report.specs.Ready.{steps_below}
use Rattle.drive_report.specs.declared.forms.Form.{Form}
use Rattle.drive_report.proofs.ReadyList.{pair-pushed}
use Rattle.drive_report.proofs.ready_list.push_pairs.Goals as goal

pub loop-first-preserved : goal.loop-first-preserved
loop-first-preserved g c =
    let machine = c.args.machine.now in
    let test = is_enabled (setting machine) (config g.L.Links.lists machine) in
    let steps = c.loop-first.steps.items in
    pair-pushed test c.args.seconds (λ one. step_of (form_of c.args.pair one)) c.loop-first.first
    c.args.steps.now.items steps c.push_form.new.steps.items c.loop-first.invariant
    (c.in_ok-push_form.ensures
    ∙ ap (λ (f : Form). steps ++ filter test (steps_below c.args.seconds (step_of f)))
    c.form.ensures)

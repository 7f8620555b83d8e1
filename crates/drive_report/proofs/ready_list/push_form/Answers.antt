-- One more step, if it is enabled.
use Rattle.std.proofs.Common.{[], ◌∷◌, ◌++◌, filter, ap, ◌∙◌}
use Rattle.async_shape.specs.Next.{is_enabled}
use Rattle.async_shape.specs.declared.step.Step.{Step}
use Rattle.async_machine.specs.Standing.{setting, config}
use Rattle.drive_report.specs.Forms.{step_of}
use Rattle.drive_report.proofs.ReadyList.{form-pushed}
use Rattle.drive_report.proofs.ready_list.push_form.Goals as goal

pub loop-number-preserved : goal.loop-number-preserved
loop-number-preserved g c =
    let machine = c.args.machine.now in
    let test = is_enabled (setting machine) (config g.L.Links.lists machine) in
    let steps = c.loop-number.steps.items in
    form-pushed test (step_of c.args.form) c.loop-number.number c.args.steps.now.items steps
    c.push_enabled.new.steps.items c.loop-number.invariant
    (c.in_ok-push_enabled.ensures
    ∙ ap (λ (s : Step). steps ++ filter test (s ∷ [])) c.step.ensures)

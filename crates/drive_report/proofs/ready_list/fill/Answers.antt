-- All kinds were pushed.
use Rattle.std.proofs.Common.{ℕ, filter, ap, ◌∙◌}
use Rattle.async_shape.specs.Next.{is_enabled}
use Rattle.async_machine.specs.Standing.{setting, config}
use Rattle.proto_model.specs.Proper.{most_guards}
use Rattle.drive_report.specs.Ready.{all_steps}
use Rattle.drive_report.proofs.ReadyList.{kinds-pushed, all_steps-kinds}
use Rattle.drive_report.proofs.ready_list.fill.Goals as goal

pub returns : goal.returns
returns g c =
    let machine = c.args.machine.now in
    let test = is_enabled (setting machine) (config g.L.Links.lists machine) in
    let n = c.from-n.result in
    kinds-pushed test most_guards n c.clear.new.self.items c.push_form.new.steps.items
    c.push_form-2.new.steps.items c.push_pairs.new.steps.items c.push_form-3.new.steps.items
    c.push_pairs-2.new.steps.items c.push_form-4.new.steps.items c.push_form-5.new.steps.items
    c.push_form-6.new.steps.items c.push_form-7.new.steps.items c.push_form-8.new.steps.items
    c.clear.ensures.items c.in_ok-push_form.ensures c.in_ok-push_form-2.ensures
    c.in_ok-push_pairs.ensures c.in_ok-push_form-3.ensures c.in_ok-push_pairs-2.ensures
    c.in_ok-push_form-4.ensures c.in_ok-push_form-5.ensures c.in_ok-push_form-6.ensures
    c.in_ok-push_form-7.ensures c.in_ok-push_form-8.ensures
    ∙ ap (filter test) (all_steps-kinds n)
    ∙ ap (λ (k : ℕ). filter test (all_steps k)) (c.from-n.ensures ∙ c.n.ensures)

-- The completed variables are of their types.
use Rattle.std.proofs.Common.{◌≡◌, ◌≤◌, List, length, sym, ap, subst, ◌∙◌, arith}
use Rattle.std.specs.List.{fold}
use Rattle.std.proofs.lemmas.List.{at_drop_all}
use Rattle.proto_model.specs.Values.{after_assign, completed}
use Rattle.proto_model.specs.ValueTypes.{AreOfKinds}
use Rattle.proto_model.specs.declared.numbered.Value.{Value}
use Rattle.proto_model.proofs.TypedRules.{AreOfKinds-completed}
use Rattle.proto_model.proofs.values.completing.complete.Goals as goal

pub returns-clause-kinds : goal.returns-clause-kinds
returns-clause-kinds c = λ messages typed below received.
    let infos = c.args.infos.now in
    let rule = c.args.rule.now in
    let whole : length rule.assigns ≤ c.loop-change.change-index = omega
    (arith, ap length c.as_slice-change-items.ensures) in
    let value : c.loop-change.vars ≡ completed infos c.args.vars.now rule c.args.partner
    c.args.value =
    sym (at_drop_all (fold (after_assign infos) c.loop-change.vars) rule.assigns
    c.loop-change.change-index whole)
    ∙ c.loop-change.invariant in
    subst (λ (vars : List Value). AreOfKinds infos vars) (sym value)
    (AreOfKinds-completed messages infos c.args.vars.now rule c.args.partner c.args.value typed
    below received)

-- The first values are of their variables' types.
use Rattle.std.proofs.Common.{◌≤◌, List, length, sym, ap, subst, ◌∙◌, arith}
use Rattle.std.proofs.lemmas.List.{take_all}
use Rattle.proto_model.specs.Values.{first_values}
use Rattle.proto_model.specs.ValueTypes.{AreOfKinds}
use Rattle.proto_model.specs.declared.numbered.Value.{Value}
use Rattle.proto_model.proofs.TypedRules.{AreOfKinds-first}
use Rattle.proto_model.proofs.values.completing.first_vars.Goals as goal

pub returns-clause-kinds : goal.returns-clause-kinds
returns-clause-kinds c = λ proper.
    let infos = c.args.infos.now in
    let whole : length infos ≤ c.loop-info.info-index = omega arith in
    subst (λ (vars : List Value). AreOfKinds infos vars)
    (sym (c.loop-info.invariant ∙ ap first_values (take_all c.loop-info.info-index infos whole)))
    (AreOfKinds-first infos proper)

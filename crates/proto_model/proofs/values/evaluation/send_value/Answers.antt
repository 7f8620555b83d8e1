-- What is sent is of its message's type.
use Rattle.std.proofs.Common.{◌≡◌, sym, ap, subst, ◌∙◌}
use Rattle.proto_model.specs.Values.{reduced, sends}
use Rattle.proto_model.specs.ValueTypes.{IsCarried}
use Rattle.proto_model.specs.declared.numbered.Value.{Value}
use Rattle.proto_model.proofs.TypedRules.{IsCarried-send}
use Rattle.proto_model.proofs.values.evaluation.send_value.Goals as goal

pub returns-in-Output-clause-carried : goal.returns-in-Output-clause-carried
returns-in-Output-clause-carried c = λ messages infos typed offers.
    let value : c.reduced.result ≡ sends c.args.vars.now c.args.rule.now.kind c.args.carries =
    rw c.in-Output.is (c.reduced.ensures ∙ ap (reduced c.args.carries) c.offered.ensures) in
    subst (λ (v : Value). IsCarried c.args.carries v) (sym value)
    (IsCarried-send messages infos c.args.vars.now c.args.rule.now c.args.carries typed offers)

-- The output of a state is found by its number among the bare guards.
use Rattle.std.proofs.Common.{Bool, None, Some, refl, sym, ap, ◌∙◌}
use Rattle.std.specs.Option.{option_map}
use Rattle.proto_model.specs.Proper.{is_output_kind}
use Rattle.proto_model.specs.declared.numbered.Rule.{Rule}
use Rattle.controller_table.specs.Sound.{protocol_of}
use Rattle.async_machine.proofs.Choices.{numbered, first-by_number}
use Rattle.async_machine.proofs.choosing.active_guard.Goals as goal

abbrev test : Rule → Bool
test rule = is_output_kind rule.kind

pub returns-in_err-number : goal.returns-in_err-number
returns-in_err-number c =
    let body = (protocol_of c.args.table.now).remote in
    rw c.from_residual.ensures
    (sym (first-by_number test (λ rule. refl) body c.remote_body.result.now c.args.state
    c.guards_of-rules.result.now None c.remote_body.ensures.bare c.guards_of-rules.ensures
    c.in_err-number.ensures))

pub returns-in_err-guard : goal.returns-in_err-guard
returns-in_err-guard c =
    let body = (protocol_of c.args.table.now).remote in
    let number = c.in_ok-number.number in
    rw c.from_residual-in_err-guard.ensures
    (sym (first-by_number test (λ rule. refl) body c.remote_body.result.now c.args.state
    c.guards_of-rules.result.now (Some number) c.remote_body.ensures.bare
    c.guards_of-rules.ensures c.in_ok-number.ensures
    ∙ ap (option_map (numbered number)) (sym c.in_err-guard.ensures.value)))

pub returns : goal.returns
returns c =
    let body = (protocol_of c.args.table.now).remote in
    let number = c.in_ok-number.number in
    sym (first-by_number test (λ rule. refl) body c.remote_body.result.now c.args.state
    c.guards_of-rules.result.now (Some number) c.remote_body.ensures.bare
    c.guards_of-rules.ensures c.in_ok-number.ensures
    ∙ ap (option_map (numbered number)) (sym c.in_ok-guard.ensures.value))

-- The guard that a request completes is found by its number among the bare guards.
use Rattle.std.proofs.Common.{None, Some, refl, sym, ap, ◌∙◌}
use Rattle.std.specs.Option.{option_map}
use Rattle.proto_model.specs.Guards.{guards_of}
use Rattle.controller_table.specs.Sound.{protocol_of}
use Rattle.async_shape.specs.Guards.{first_that}
use Rattle.async_shape.specs.Requests.{completes_guard}
use Rattle.async_machine.proofs.Choices.{numbered, first-by_number}
use Rattle.async_machine.proofs.choosing.taking_guard.Goals as goal

pub returns-in_err-number : goal.returns-in_err-number
returns-in_err-number c =
    let body = (protocol_of c.args.table.now).home in
    let test = completes_guard c.args.n c.args.home.now.vars c.args.request.now in
    rw c.from_residual.ensures
    (sym (ap (λ s. first_that test (guards_of body s)) (sym c.state_of_home-state.ensures)
    ∙ first-by_number test (λ rule. refl) body c.home_body.result.now c.state_of_home-state.result
    c.guards_of-rules.result.now None c.home_body.ensures.bare c.guards_of-rules.ensures
    c.in_err-number.ensures))

pub returns-in_err-guard : goal.returns-in_err-guard
returns-in_err-guard c =
    let body = (protocol_of c.args.table.now).home in
    let test = completes_guard c.args.n c.args.home.now.vars c.args.request.now in
    let number = c.in_ok-number.number in
    rw c.from_residual-in_err-guard.ensures
    (sym (ap (λ s. first_that test (guards_of body s)) (sym c.state_of_home-state.ensures)
    ∙ first-by_number test (λ rule. refl) body c.home_body.result.now c.state_of_home-state.result
    c.guards_of-rules.result.now (Some number) c.home_body.ensures.bare c.guards_of-rules.ensures
    c.in_ok-number.ensures ∙ ap (option_map (numbered number)) (sym c.in_err-guard.ensures.value)))

pub returns : goal.returns
returns c =
    let body = (protocol_of c.args.table.now).home in
    let test = completes_guard c.args.n c.args.home.now.vars c.args.request.now in
    let number = c.in_ok-number.number in
    sym (ap (λ s. first_that test (guards_of body s)) (sym c.state_of_home-state.ensures)
    ∙ first-by_number test (λ rule. refl) body c.home_body.result.now c.state_of_home-state.result
    c.guards_of-rules.result.now (Some number) c.home_body.ensures.bare c.guards_of-rules.ensures
    c.in_ok-number.ensures ∙ ap (option_map (numbered number)) (sym c.in_ok-guard.ensures.value))

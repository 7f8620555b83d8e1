-- Some guard is chosen exactly where some bare one passes.
use Rattle.std.proofs.Common.{is_some, refl, ap, ◌∙◌}
use Rattle.proto_model.specs.Guards.{guards_of}
use Rattle.controller_table.specs.Sound.{protocol_of}
use Rattle.async_shape.specs.Requests.{completes_guard}
use Rattle.async_shape.specs.Guards.{first_that}
use Rattle.async_machine.proofs.Choices.{first-bare_any}
use Rattle.async_machine.proofs.choosing.completes.Goals as goal

pub returns : goal.returns
returns c =
    let body = (protocol_of c.args.table.now).home in
    let test = completes_guard c.args.n c.args.home.now.vars c.args.request.now in
    c.completes_some.ensures
    ∙ first-bare_any test (λ rule. refl) body c.home_body.result.now c.state_of_home.result
    c.guards_of-rules.result.now c.home_body.ensures.bare c.guards_of-rules.ensures
    ∙ ap (λ s. is_some (first_that test (guards_of body s))) c.state_of_home.ensures

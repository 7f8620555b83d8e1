-- The body is the protocol's, of bare guards, and its variables are proper.
use Rattle.std.proofs.Common.{sym, ap, subst, ◌∙◌}
use Rattle.proto_model.specs.Proper.{AreProperKinds}
use Rattle.proto_model.specs.declared.numbered.Side.TheVariants as side
use Rattle.controller_table.specs.Sound.{protocol_of}
use Rattle.controller_table.specs.declared.controller.Controller.{Controller}
use Rattle.async_machine.proofs.Tables.{home-bare, proper_kinds}
use Rattle.async_machine.proofs.controls.home_body.Goals as goal

pub returns-clause-bare : goal.returns-clause-bare
returns-clause-bare c =
    ap (λ (controller : Controller). controller.body) c.home-home.ensures.value
    ∙ home-bare c.args.table.now c.home-home.ensures.sound

pub returns-clause-kinds : goal.returns-clause-kinds
returns-clause-kinds c =
    let protocol = protocol_of c.args.table.now in
    subst (λ (controller : Controller). AreProperKinds controller.body.vars)
    (sym c.home-home.ensures.value)
    (proper_kinds side.Home protocol.messages protocol.home
    c.home-home.ensures.sound.proper.home)

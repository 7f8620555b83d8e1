-- The body of the table has the guards of the protocol, bare.
use Rattle.std.proofs.Common.{ap, ◌∙◌}
use Rattle.proto_model.specs.declared.numbered.Body.{Body}
use Rattle.controller_table.specs.Sound.{protocol_of}
use Rattle.controller_table.specs.declared.controller.Controller.{Controller}
use Rattle.async_machine.proofs.Tables.{home-bare}
use Rattle.drive_report.specs.Rows.{is_output_at}
use Rattle.drive_report.proofs.SilentForms.{is_output_at-bare}
use Rattle.drive_report.proofs.silent.home_gives.Goals as goal

pub returns : goal.returns
returns g c =
    let table = c.args.machine.now.table in
    let sound = rw c.table.ensures at c.home.ensures.sound in
    let value = rw c.table.ensures at c.home.ensures.value in
    c.is_output_at.ensures
    ∙ ap (λ (home : Controller). is_output_at home.body c.args.state c.args.g) value
    ∙ ap (λ (body : Body). is_output_at body c.args.state c.args.g) (home-bare table sound)
    ∙ is_output_at-bare (protocol_of table).home c.args.state c.args.g

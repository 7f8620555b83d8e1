-- The guard of the protocol is the bare one that is found, with what its row tells.
use Rattle.std.proofs.Common.{◌<◌, arith}
use Rattle.controller_table.specs.Sound.{protocol_of}
use Rattle.async_machine.proofs.Tables.{remote-small}
use Rattle.async_machine.proofs.Going.{guard-going}
use Rattle.async_machine.proofs.controls.remote_guard.Goals as goal

pub overflow_cast-g : goal.overflow_cast-g
overflow_cast-g c =
    let body = c.remote_body.ensures in
    let small : c.args.number < 16 =
    remote-small c.args.table.now body.sound c.remote_body.result.now c.args.state c.args.number
    c.in_ok-rule.rule.now body.bare c.in_ok-rule.ensures in
    omega arith

pub returns-clause-value : goal.returns-clause-value
returns-clause-value c =
    guard-going (protocol_of c.args.table.now).remote c.remote_body.result.now c.args.state
    c.args.number c.in_ok-rule.rule.now c.remote_next.result c.remote_body.ensures.bare
    c.in_ok-rule.ensures (λ rule there same. c.remote_next.ensures rule there same)

pub returns-clause-few : goal.returns-clause-few
returns-clause-few c =
    let body = c.remote_body.ensures in
    remote-small c.args.table.now body.sound c.remote_body.result.now c.args.state c.args.number
    c.in_ok-rule.rule.now body.bare c.in_ok-rule.ensures

-- The guard of the protocol is the bare one that is found, with what its row tells.
use Rattle.std.proofs.Common.{◌<◌, arith}
use Rattle.controller_table.specs.Sound.{protocol_of}
use Rattle.async_machine.proofs.Tables.{home-small}
use Rattle.async_machine.proofs.Going.{guard-going}
use Rattle.async_machine.proofs.controls.home_guard.Goals as goal

pub overflow_cast-g : goal.overflow_cast-g
overflow_cast-g c =
    let body = c.home_body.ensures in
    let small : c.args.number < 16 =
    home-small c.args.table.now body.sound c.home_body.result.now c.args.state c.args.number
    c.in_ok-rule.rule.now body.bare c.in_ok-rule.ensures in
    omega arith

pub returns-clause-value : goal.returns-clause-value
returns-clause-value c =
    guard-going (protocol_of c.args.table.now).home c.home_body.result.now c.args.state
    c.args.number c.in_ok-rule.rule.now c.home_next.result c.home_body.ensures.bare
    c.in_ok-rule.ensures (λ rule there same. c.home_next.ensures rule there same)

pub returns-clause-few : goal.returns-clause-few
returns-clause-few c =
    let body = c.home_body.ensures in
    home-small c.args.table.now body.sound c.home_body.result.now c.args.state c.args.number
    c.in_ok-rule.rule.now body.bare c.in_ok-rule.ensures

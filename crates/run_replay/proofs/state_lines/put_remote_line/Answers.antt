-- The line of a remote that is there, and of none.
use Rattle.std.proofs.Common.{◌<◌, ◌≤◌, length, subst, sym, arith}
use Rattle.proto_model.specs.Tokens.{Text}
use Rattle.proto_model.specs.Continued.{Continues}
use Rattle.controller_table.specs.Sound.{protocol_of}
use Rattle.async_machine.specs.Standing.{config}
use Rattle.run_replay.specs.StateLines.{remote_state_line}
use Rattle.schedule_replay.proofs.Chained.{nothing}
use Rattle.run_replay.proofs.Shown.{line-there, line-none}
use Rattle.run_replay.proofs.state_lines.put_remote_line.Goals as goal

pub returns-then-j-from : goal.returns-then-j-from
returns-then-j-from g c =
    let machine = c.args.machine.now in
    let j = c.args.j in
    let protocol = protocol_of machine.table in
    let stands = config g.L.Links.lists machine in
    let past : length machine.remotes ≤ j =
    omega (arith, c.if-j-from.true, c.from.ensures, c.n.ensures) in
    nothing (remote_state_line protocol stands j) c.args.so_far c.args.out.now.items
    (line-none protocol stands j past)

pub returns : goal.returns
returns g c =
    let machine = c.args.machine.now in
    let j = c.args.j in
    let protocol = protocol_of machine.table in
    let stands = config g.L.Links.lists machine in
    let within : j < length machine.remotes =
    omega (arith, c.if-j-from.false, c.from.ensures, c.n.ensures) in
    subst
    (λ (text : Text). Continues text c.args.so_far c.args.out.now.items c.put_line_of.result
    c.put_line_of.new.out.items)
    (sym (line-there protocol stands j within)) c.put_line_of.ensures

-- One more line is written.
use Rattle.std.proofs.Common.{◌<◌, length, arith}
use Rattle.controller_table.specs.Sound.{protocol_of}
use Rattle.async_machine.specs.Standing.{config}
use Rattle.run_replay.proofs.Shown.{line-written}
use Rattle.schedule_replay.proofs.Chained.{grown}
use Rattle.run_replay.proofs.state_lines.put_remote_lines.Goals as goal

pub loop-j-preserved : goal.loop-j-preserved
loop-j-preserved g c =
    let machine = c.args.machine.now in
    let j = c.loop-j.j in
    let within : j < length machine.remotes =
    omega (arith, c.n-j-end.ensures, c.loop-j-test.true) in
    grown _ _ _ c.args.so_far c.loop-j.so_far c.put_remote_line-so_far.result
    c.args.out.now.items c.loop-j.out.items c.put_remote_line-so_far.new.out.items
    (line-written (protocol_of machine.table) (config g.L.Links.lists machine) j within)
    c.loop-j.invariant (rw c.from.ensures at c.put_remote_line-so_far.ensures)

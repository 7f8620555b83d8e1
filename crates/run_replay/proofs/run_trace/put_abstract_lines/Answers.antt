-- Where memory ran out before, nothing is appended.
use Rattle.std.proofs.Common.{◌≡◌, Err}
use Rattle.controller_table.specs.Sound.{protocol_of}
use Rattle.async_machine.specs.Standing.{config}
use Rattle.run_replay.specs.RunTrace.{abstract_lines}
use Rattle.schedule_replay.proofs.Chained.{ceased}
use Rattle.run_replay.proofs.run_trace.put_abstract_lines.Goals as goal

pub returns-in-Err : goal.returns-in-Err
returns-in-Err g c =
    let stopped : c.args.so_far ≡ Err c.in-Err.failure = c.in-Err.is in
    ceased (abstract_lines (protocol_of c.args.machine.now.table)
    (config g.L.Links.lists c.args.machine.now))
    c.args.so_far c.in-Err.failure c.args.out.now.items stopped

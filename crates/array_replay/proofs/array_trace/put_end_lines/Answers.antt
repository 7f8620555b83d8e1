-- Where memory ran out before, nothing is appended.
use Rattle.controller_table.specs.Sound.{protocol_of}
use Rattle.async_machine.specs.Standing.{config}
use Rattle.run_replay.specs.RunTrace.{run_ending}
use Rattle.schedule_replay.proofs.Chained.{ceased}
use Rattle.array_replay.proofs.array_trace.put_end_lines.Goals as goal

pub returns-in-Err : goal.returns-in-Err
returns-in-Err g c =
    let machine = c.args.machine.now in
    ceased (run_ending (protocol_of machine.table) (config g.L.Links.lists machine)) c.args.so_far
    c.in-Err.failure c.args.out.now.items c.in-Err.is

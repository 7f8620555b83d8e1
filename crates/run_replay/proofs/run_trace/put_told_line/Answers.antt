-- Where memory ran out before, nothing is appended.
use Rattle.schedule_replay.proofs.Chained.{ceased}
use Rattle.run_replay.proofs.run_trace.put_told_line.Goals as goal

pub returns-in-Err : goal.returns-in-Err
returns-in-Err g c =
    ceased _ c.args.so_far c.in-Err.failure c.args.out.now.items c.in-Err.is

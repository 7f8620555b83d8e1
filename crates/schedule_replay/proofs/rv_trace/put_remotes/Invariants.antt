-- So far the lines of the remotes below this number are written.
use Rattle.std.proofs.Common.{take}
use Rattle.rv_base.specs.Lists.{flat_from}
use Rattle.proto_model.specs.Continued.{Continues}
use Rattle.schedule_replay.specs.RvPlay.{numbered_line}
use Rattle.schedule_replay.proofs.rv_trace.put_remotes.Given as goal

abbrev pub invariant-loop-j : goal.invariant-loop-j
invariant-loop-j l =
    Continues (flat_from (numbered_line l.body) 0 (take l.j l.remotes)) l.fn.so_far
    l.fn.out.items l.so_far l.out.items

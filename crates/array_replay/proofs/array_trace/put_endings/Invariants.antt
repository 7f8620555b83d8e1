-- So far the last texts of the first cache lines are written.
use Rattle.proto_model.specs.Continued.{Continues}
use Rattle.controller_table.specs.Sound.{protocol_of}
use Rattle.array_replay.proofs.ToldInLine.{endings_below}
use Rattle.array_replay.proofs.array_trace.put_endings.Given as goal

abbrev pub invariant-loop-line : goal.invariant-loop-line
invariant-loop-line l =
    Continues (endings_below (protocol_of l.array.table) l.array.config.lines l.line)
    l.fn.so_far l.fn.out.items l.so_far l.out.items

-- One more last text is written.
use Rattle.std.proofs.Common.{ap}
use Rattle.controller_table.specs.Sound.{protocol_of}
use Rattle.line_array.specs.Standing.{ring_config}
use Rattle.schedule_replay.proofs.Chained.{grown}
use Rattle.array_replay.proofs.ToldInLine.{ending-written}
use Rattle.array_replay.proofs.array_trace.put_endings.Goals as goal

pub loop-line-preserved : goal.loop-line-preserved
loop-line-preserved c =
    let array = c.args.array.now in
    let machine = c.machine.result.now in
    grown _ _ _ c.args.so_far c.loop-line.so_far c.put_line_ending-so_far.result
    c.args.out.now.items c.loop-line.out.items c.put_line_ending-so_far.new.out.items
    (ending-written (protocol_of array.table) (protocol_of machine.table) array.config.lines
    c.loop-line.line (ring_config machine) (ap protocol_of c.machine.ensures.kept.0)
    c.machine.ensures.line)
    c.loop-line.invariant c.put_line_ending-so_far.ensures

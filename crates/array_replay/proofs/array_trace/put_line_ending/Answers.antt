-- The number of the cache line, and the last text of its controllers.
use Rattle.std.proofs.Common.{◌++◌, codes}
use Rattle.proto_model.proofs.Continuing.{Continues-append}
use Rattle.controller_table.specs.Sound.{protocol_of}
use Rattle.async_machine.specs.Standing.{config}
use Rattle.run_replay.specs.RunTrace.{run_ending}
use Rattle.array_replay.specs.ArrayTrace.{line_head}
use Rattle.array_replay.proofs.array_trace.put_line_ending.Goals as goal

pub returns : goal.returns
returns g c =
    let machine = c.args.machine.now in
    let ending = run_ending (protocol_of machine.table) (config g.L.Links.lists machine) in
    Continues-append (line_head c.args.line) (codes "\n" ++ ending) _ _ _ _ _ _
    c.put_head-so_far.ensures
    (Continues-append (codes "\n") ending _ _ _ _ _ _ c.append-so_far.ensures
    c.put_end_lines.ensures)

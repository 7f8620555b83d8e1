-- So far the lines of the first remotes are written.
use Rattle.proto_model.specs.Continued.{Continues}
use Rattle.controller_table.specs.Sound.{protocol_of}
use Rattle.async_machine.specs.Standing.{config}
use Rattle.run_replay.proofs.Shown.{lines_below}
use Rattle.run_replay.proofs.state_lines.put_remote_lines.Given as goal

abbrev pub invariant-loop-j : goal.invariant-loop-j
invariant-loop-j g l =
    Continues (lines_below (protocol_of l.machine.table) (config g.L.Links.lists l.machine) l.j)
    l.fn.so_far l.fn.out.items l.so_far l.out.items

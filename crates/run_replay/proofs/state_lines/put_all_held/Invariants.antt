-- So far the first requests are written.
use Rattle.std.proofs.Common.{map, take}
use Rattle.proto_model.specs.Continued.{Continues}
use Rattle.run_replay.specs.StateLines.{held_text}
use Rattle.run_replay.specs.Listed.{joined}
use Rattle.run_replay.proofs.state_lines.put_all_held.Given as goal

abbrev pub invariant-loop-place : goal.invariant-loop-place
invariant-loop-place l =
    Continues (joined (map (held_text l.messages) (take l.place l.held))) l.fn.so_far
    l.fn.out.items l.so_far l.out.items

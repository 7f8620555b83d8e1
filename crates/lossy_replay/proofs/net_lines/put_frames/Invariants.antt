-- So far the numbers of the first frames are written.
use Rattle.std.proofs.Common.{take}
use Rattle.proto_model.specs.Continued.{Continues}
use Rattle.faulty_link.specs.Moves.{link_on}
use Rattle.faulty_link.specs.Wire.{wire_on}
use Rattle.run_replay.specs.Listed.{joined}
use Rattle.lossy_replay.specs.LossyTrace.{frame_texts}
use Rattle.lossy_replay.proofs.net_lines.put_frames.Given as goal

abbrev pub invariant-loop-place : goal.invariant-loop-place
invariant-loop-place l =
    Continues (joined (frame_texts (take l.place (wire_on (link_on l.j l.way) l.links).flight)))
    l.fn.so_far l.fn.out.items l.so_far l.out.items

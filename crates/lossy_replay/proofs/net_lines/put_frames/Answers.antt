-- One more number is written.
use Rattle.std.proofs.Common.{sym}
use Rattle.faulty_link.specs.Moves.{link_on}
use Rattle.faulty_link.specs.Wire.{wire_on}
use Rattle.schedule_replay.proofs.Chained.{grown}
use Rattle.lossy_replay.proofs.Frames.{number-listed}
use Rattle.lossy_replay.proofs.net_lines.put_frames.Goals as goal

pub loop-place-preserved : goal.loop-place-preserved
loop-place-preserved c =
    let frames = (wire_on (link_on c.args.j c.args.way) c.args.links.now).flight in
    grown _ _ _ c.args.so_far c.loop-place.so_far c.put_frame-so_far.result c.args.out.now.items
    c.loop-place.out.items c.put_frame-so_far.new.out.items
    (number-listed frames c.loop-place.place c.in-Some.number (sym c.in-Some.ensures))
    c.loop-place.invariant c.put_frame-so_far.ensures

-- One more request is written.
use Rattle.run_replay.specs.StateLines.{held_text}
use Rattle.run_replay.proofs.Listing.{listed-one_more}
use Rattle.schedule_replay.proofs.Chained.{grown}
use Rattle.run_replay.proofs.state_lines.put_all_held.Goals as goal

pub loop-place-preserved : goal.loop-place-preserved
loop-place-preserved c =
    grown _ _ _ c.args.so_far c.loop-place.so_far c.put_held-so_far.result c.args.out.now.items
    c.loop-place.out.items c.put_held-so_far.new.out.items
    (listed-one_more (held_text c.args.messages.now) c.args.held.now c.loop-place.place _
    c.loop-place-test.true)
    c.loop-place.invariant c.put_held-so_far.ensures

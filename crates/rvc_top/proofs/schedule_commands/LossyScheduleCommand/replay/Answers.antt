-- The run ends as the replay over links that lose, repeat and reorder does.
use Rattle.schedule_replay.specs.ScheduleLimits.{schedule_limits}
use Rattle.lossy_replay.specs.LossyTrace.{lossy_play, lossy_start}
use Rattle.rvc_top.proofs.ConcludedReplays.{concluded-replay}
use Rattle.rvc_top.proofs.schedule_commands.LossyScheduleCommand.replay.Goals as goal

pub returns : goal.returns
returns g c =
    let called = c.replay-replayed in
    let loop = called.ensures in
    let conclusion = c.conclude.ensures in
    let self = c.args.self.now in
    concluded-replay lossy_play schedule_limits
    (lossy_start c.args.checked.now.protocol self.2 self.0 self.1) _ _ record {
      bytes = g.O.Sink.taken called.new.out;
      faults = g.O.Sink.faults called.new.out;
      wants = g.O.Sink.wants called.new.out;
    } called.result c.conclude.result record {
      stops = loop.stops;
      writes = loop.writes;
      counts = loop.counts;
      wants = loop.wants;
      taken = loop.taken;
      ended = loop.ended;
      at_start = tt;
    } conclusion.bytes conclusion.counts conclusion.wants

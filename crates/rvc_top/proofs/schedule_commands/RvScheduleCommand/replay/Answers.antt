-- The run ends as the replay of events does.
use Rattle.schedule_replay.specs.ScheduleLimits.{schedule_limits}
use Rattle.schedule_replay.specs.RvPlay.{rv_play, rv_watched}
use Rattle.rvc_top.proofs.ConcludedReplays.{concluded-replay}
use Rattle.rvc_top.proofs.schedule_commands.RvScheduleCommand.replay.Goals as goal

pub returns : goal.returns
returns g c =
    let called = c.replay_events-replayed in
    let loop = called.ensures in
    let conclusion = c.conclude.ensures in
    concluded-replay rv_play schedule_limits
    (rv_watched c.args.checked.now c.args.self.now.0) _ _ record {
      bytes = g.O.Sink.taken called.new.out;
      faults = g.O.Sink.faults called.new.out;
      wants = g.O.Sink.wants called.new.out;
    } called.result c.conclude.result record {
      stops = loop.stops;
      writes = loop.writes;
      counts = loop.counts;
      wants = loop.wants;
      taken = loop.taken;
      ended = loop.ended;
      at_start = loop.at_start;
    } conclusion.bytes conclusion.counts conclusion.wants

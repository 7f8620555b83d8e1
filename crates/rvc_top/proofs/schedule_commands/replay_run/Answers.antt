-- The run ends as the replay of steps does.
use Rattle.schedule_replay.specs.ScheduleLimits.{schedule_limits}
use Rattle.run_replay.specs.RunTrace.{run_play, run_start}
use Rattle.rvc_top.proofs.ConcludedReplays.{concluded-replay}
use Rattle.rvc_top.proofs.schedule_commands.replay_run.Goals as goal

pub returns : goal.returns
returns g c =
    let called = c.replay-replayed in
    let loop = called.ensures in
    let conclusion = c.conclude.ensures in
    concluded-replay run_play schedule_limits
    (run_start c.args.checked.now c.args.mode c.args.n c.args.k) _ _ record {
      bytes = g.O.Sink.taken called.new.out;
      faults = g.O.Sink.faults called.new.out;
      wants = g.O.Sink.wants called.new.out;
    } called.result c.conclude.result record {
      stops = loop.stops;
      writes = loop.writes;
      counts = loop.counts;
      wants = loop.wants;
      taken = loop.taken;
      ended = loop.ended;
      at_start = loop.at_start;
    } conclusion.bytes conclusion.counts conclusion.wants

-- By the lines of the schedule.
use Rattle.std.proofs.Common.{ap}
use Rattle.schedule_replay.specs.Played.{played_text}
use Rattle.schedule_replay.specs.TextLines.{lines_of}
use Rattle.run_replay.specs.RunTrace.{run_play}
use Rattle.run_replay.proofs.FirstStop.{first_stop, played-behind}
use Rattle.run_replay.proofs.stops.a_replay_stops_at_the_first_stop.Goals as goal

pub returns-clause-there : goal.returns-clause-there
returns-clause-there c limits start text =
    let is = first_stop run_play limits start (lines_of text) in (is.n, is.first)

pub returns-clause-played : goal.returns-clause-played
returns-clause-played c limits start text n stop first =
    played-behind run_play limits start (lines_of text) n stop first

pub returns-clause-traced : goal.returns-clause-traced
returns-clause-traced c limits start text n stop first =
    ap (played_text run_play) (played-behind run_play limits start (lines_of text) n stop first)

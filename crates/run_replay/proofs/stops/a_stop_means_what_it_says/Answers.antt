-- By the lines of the schedule.
use Rattle.schedule_replay.specs.TextLines.{lines_of}
use Rattle.run_replay.proofs.StopsMean.{stop-means}
use Rattle.run_replay.proofs.stops.a_stop_means_what_it_says.Goals as goal

pub returns : goal.returns
returns c limits start text = stop-means limits start (lines_of text)

-- By the lines of the schedule.
use Rattle.schedule_replay.specs.TextLines.{lines_of}
use Rattle.run_replay.proofs.PlayedRuns.{of_run}
use Rattle.run_replay.proofs.laws.what_is_played_is_a_run.Goals as goal

pub returns : goal.returns
returns c = λ limits start text. of_run limits start (lines_of text)

-- By the lines of the schedule.
use Rattle.schedule_replay.specs.TextLines.{lines_of}
use Rattle.lossy_replay.specs.LossyTrace.{lossy_play}
use Rattle.schedule_replay.proofs.PlayedItems.{all_lines}
use Rattle.lossy_replay.proofs.laws.what_is_played_is_said.Goals as goal

pub returns : goal.returns
returns c = λ limits start text. all_lines lossy_play limits start (lines_of text)

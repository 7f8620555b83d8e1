-- By the lines of the schedule.
use Rattle.schedule_replay.specs.TextLines.{lines_of}
use Rattle.array_replay.specs.ArrayTrace.{array_play}
use Rattle.schedule_replay.proofs.PlayedItems.{all_lines}
use Rattle.array_replay.proofs.LinesOfRuns.{of_items}
use Rattle.array_replay.proofs.laws.what_is_played_is_a_run.Goals as goal

pub returns : goal.returns
returns c limits start text =
    of_items start (lines_of text) _ (all_lines array_play limits start (lines_of text))

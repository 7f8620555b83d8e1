-- By the items.
use Rattle.lossy_replay.proofs.TakenRuns.{of_taken}
use Rattle.lossy_replay.proofs.laws.what_is_taken_is_a_run.Goals as goal

pub returns : goal.returns
returns c = λ start items. of_taken start items

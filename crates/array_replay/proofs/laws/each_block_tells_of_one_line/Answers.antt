-- The shared lists are in step in each configuration of a run.
use Rattle.array_replay.proofs.LinesOfRuns.{tells_of-one_line}
use Rattle.array_replay.proofs.laws.each_block_tells_of_one_line.Goals as goal

pub returns : goal.returns
returns c setting n lines proper some few two most steps s =
    tells_of-one_line setting n lines steps
    (c.shared_lists_are_in_step.ensures.runs setting n lines proper some few two most steps) s

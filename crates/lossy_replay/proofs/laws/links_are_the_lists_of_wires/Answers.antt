-- The start is so, and each item keeps it.
use Rattle.lossy_replay.proofs.LinkedWires.{always-linked}
use Rattle.lossy_replay.proofs.laws.links_are_the_lists_of_wires.Goals as goal

pub returns : goal.returns
returns c protocol mode n k proper some few two most items =
    always-linked protocol mode n k proper some few two most items

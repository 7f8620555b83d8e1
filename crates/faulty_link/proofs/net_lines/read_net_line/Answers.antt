-- What the words say, where there are some.
use Rattle.faulty_link.proofs.NetWords.{says-words}
use Rattle.faulty_link.proofs.net_lines.read_net_line.Goals as goal

pub returns-clause-says : goal.returns-clause-says
returns-clause-says c =
    rw c.in_ok-first.ensures
    (says-words _ c.step_of.result c.step_of.ensures)

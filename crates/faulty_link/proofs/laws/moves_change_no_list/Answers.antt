-- A move keeps the packets of the wire that it names.
use Rattle.faulty_link.proofs.Lists.{moved-keeps}
use Rattle.faulty_link.proofs.laws.moves_change_no_list.Goals as goal

pub returns : goal.returns
returns c = moved-keeps

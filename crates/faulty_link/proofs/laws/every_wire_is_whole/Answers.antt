-- Each wire is whole, by what can happen to it.
use Rattle.faulty_link.proofs.Pasts.{no_past-whole}
use Rattle.faulty_link.proofs.laws.every_wire_is_whole.Goals as goal

pub returns : goal.returns
returns c = no_past-whole

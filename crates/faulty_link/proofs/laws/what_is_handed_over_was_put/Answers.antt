-- What was handed over and what is on a wire are what was put, by what can happen to it.
use Rattle.faulty_link.proofs.Pasts.{no_past-order}
use Rattle.faulty_link.proofs.laws.what_is_handed_over_was_put.Goals as goal

pub returns : goal.returns
returns c = no_past-order

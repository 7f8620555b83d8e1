-- Both ways, by the kind of event.
use Rattle.both_ways.proofs.CarriedComputed.{carried-is, is-carried}
use Rattle.both_ways.proofs.laws.carried_is_computed.Goals as goal

pub returns : goal.returns
returns c = λ protocol d e. (carried-is protocol d e, is-carried protocol d e)

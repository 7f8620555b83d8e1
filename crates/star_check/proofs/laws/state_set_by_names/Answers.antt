-- The law of `proofs/StateSets.antt`.
use Rattle.star_check.proofs.StateSets.{has_number-state_set}
use Rattle.star_check.proofs.laws.state_set_by_names.Goals as goal

pub returns : goal.returns
returns c = has_number-state_set

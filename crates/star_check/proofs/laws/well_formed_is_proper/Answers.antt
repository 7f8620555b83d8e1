-- The law of `proofs/WellFormed.antt`.
use Rattle.star_check.proofs.WellFormed.{well_formed-proper_checked}
use Rattle.star_check.proofs.laws.well_formed_is_proper.Goals as goal

pub returns : goal.returns
returns c = well_formed-proper_checked c.args.protocol.now c.requires

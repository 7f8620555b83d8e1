-- The laws of `proofs/NumberSets.antt`.
use Rattle.proto_model.proofs.NumberSets.{has_number-with, has_number-without}
use Rattle.proto_model.proofs.laws.sets_by_members.Goals as goal

pub returns : goal.returns
returns c = record { with = has_number-with; without = has_number-without }

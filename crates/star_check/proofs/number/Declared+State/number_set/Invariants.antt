-- So far the set is that of the states that the first names mean.
use Rattle.std.proofs.Common.{◌≡◌, take}
use Rattle.proto_model.specs.Numbered.{state_set}
use Rattle.star_check.proofs.number.Declared+State.number_set.Given as goal

abbrev pub invariant-loop-name : goal.invariant-loop-name
invariant-loop-name l = l.set ≡ state_set l.self (take l.name-index l.names)

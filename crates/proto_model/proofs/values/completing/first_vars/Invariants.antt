-- So far the first values of the first variables stand there.
use Rattle.std.proofs.Common.{◌≡◌, take}
use Rattle.proto_model.specs.Values.{first_values}
use Rattle.proto_model.proofs.values.completing.first_vars.Given as goal

abbrev pub invariant-loop-info : goal.invariant-loop-info
invariant-loop-info l = l.vars ≡ first_values (take l.info-index l.infos)

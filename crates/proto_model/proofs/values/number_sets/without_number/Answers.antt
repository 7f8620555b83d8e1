-- The number that is in the set is below 64, and its bit is part of the set.
use Rattle.std.proofs.Common.{◌<◌, ◌^◌, arith}
use Rattle.proto_model.proofs.NumberBits.{has_number-below}
use Rattle.proto_model.proofs.values.number_sets.without_number.Goals as goal

pub overflow_shl-result : goal.overflow_shl-result
overflow_shl-result c =
    let small : c.args.set < 2 ^ 64 = omega arith in
    has_number-below c.args.set 64 c.args.number small cc

-- A set of 64 bits has no number from 64 on.
use Rattle.std.proofs.Common.{◌≤◌, ◌<◌, ◌^◌, sym, ◌∙◌, arith}
use Rattle.std.proofs.lemmas.Bool.{le-ltb}
use Rattle.proto_model.proofs.NumberBits.{has_number-above}
use Rattle.proto_model.proofs.values.number_sets.has_number.Goals as goal

pub returns-else-number-lt64 : goal.returns-else-number-lt64
returns-else-number-lt64 c =
    let small : c.args.set < 2 ^ 64 = omega arith in
    let above : 64 ≤ c.args.number = omega arith in
    le-ltb c.args.number 64 above ∙ sym (has_number-above c.args.set 64 c.args.number small above)

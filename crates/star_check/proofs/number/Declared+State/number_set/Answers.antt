-- No name gives the empty set, and one more name gives the bit of its state.
use Rattle.std.proofs.Common.{sym, arith}
use Rattle.star_check.proofs.StateSets.{state_set-none, state_set-more}
use Rattle.star_check.proofs.number.Declared+State.number_set.Goals as goal

pub loop-name-init : goal.loop-name-init
loop-name-init c = sym (state_set-none c.args.self.now)

pub loop-name-preserved : goal.loop-name-preserved
loop-name-preserved c =
    state_set-more c.args.self.now c.args.names.now c.loop-name.name-index c.name-item.result
    c.number.result c.loop-name.set (omega arith) c.name-item.is c.number.ensures.value
    c.number.ensures.small c.loop-name.invariant

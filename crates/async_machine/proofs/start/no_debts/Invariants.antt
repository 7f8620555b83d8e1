-- So far so many debts are none.
use Rattle.std.proofs.Common.{◌≡◌, replicate, None}
use Rattle.async_machine.proofs.start.no_debts.Given as goal

abbrev pub invariant-loop-made : goal.invariant-loop-made
invariant-loop-made l = l.debts ≡ replicate l._made None

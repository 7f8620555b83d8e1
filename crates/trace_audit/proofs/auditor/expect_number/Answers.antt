-- The number and the space are all that is kept.
use Rattle.std.proofs.Common.{[], ◌∷◌, decimal}
use Rattle.trace_audit.proofs.Expected.{both}
use Rattle.trace_audit.proofs.auditor.expect_number.Goals as goal

pub returns : goal.returns
returns c =
    both (decimal c.args.number) (32 ∷ []) c.append_number-so_far.result c.append.result
    c.clear.new.self.items c.append_number-so_far.new.out.items c.append.new.out.items
    c.clear.ensures.items (rw c.from.ensures at c.append_number-so_far.ensures) c.append.ensures

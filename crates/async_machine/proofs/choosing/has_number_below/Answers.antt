-- The lowest number of the set tells whether it has one below n.
use Rattle.std.proofs.Common.{ℕ, ◌≡◌, ◌<◌, ◌^◌, not, nat_eq, nat_lt, sym, ap, ◌∙◌, arith, w64}
use Rattle.std.specs.Int.{trailing_zeros}
use Rattle.std.specs.List.{list_any, range_with_len}
use Rattle.proto_model.specs.NumberSets.{has_number}
use Rattle.async_machine.proofs.Targets.{below-empty, below-lowest}
use Rattle.async_machine.proofs.choosing.has_number_below.Goals as goal

pub returns-then-set-ne0 : goal.returns-then-set-ne0
returns-then-set-ne0 c =
    let some : 0 < c.args.set = omega arith in
    let small : c.args.set < 2 ^ 64 = omega arith in
    ap (nat_lt (trailing_zeros w64 c.args.set)) c.from.ensures
    ∙ sym (below-lowest c.args.set c.args.n some small)

pub returns-else-set-ne0 : goal.returns-else-set-ne0
returns-else-set-ne0 c =
    let none : c.args.set ≡ 0 = omega arith in
    ap (λ (set : ℕ). not (nat_eq set 0)) none
    ∙ sym (ap (λ (set : ℕ). list_any (has_number set) (range_with_len 0 c.args.n)) none
    ∙ below-empty c.args.n)

-- Nothing is under way on empty rings.
use Rattle.std.proofs.Common.{◌≡◌, ℕ, List, map, replicate, ap, ◌∙◌, arith}
use Rattle.line_array.specs.NumberRings.{pair_of}
use Rattle.line_array.specs.SharedLists.{SharedPair, no_entries}
use Rattle.line_array.proofs.RingsChanged.{empty-pairs}
use Rattle.line_array.proofs.shared.SharedLinks.new.Goals as goal

pub returns : goal.returns
returns c =
    let ends : c.loop-made.made ≡ c.args.n =
    omega (arith, c.loop-made.auto.made-end, c.loop-made-test.false) in
    ap (λ (pairs : List SharedPair). record { lines = c.args.lines; pairs = pairs })
    (ap (map pair_of) c.loop-made.invariant ∙ empty-pairs c.loop-made.made c.args.lines
    ∙ ap (λ (n : ℕ). replicate n no_entries) ends)

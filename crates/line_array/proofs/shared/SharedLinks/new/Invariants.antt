-- So many remotes have their rings.
use Rattle.std.proofs.Common.{◌≡◌, replicate}
use Rattle.line_array.specs.NumberRings.{empty_rings}
use Rattle.line_array.proofs.shared.SharedLinks.new.Given as goal

abbrev pub invariant-loop-made : goal.invariant-loop-made
invariant-loop-made l = l.rings.items ≡ replicate l.made (empty_rings l.fn.lines)

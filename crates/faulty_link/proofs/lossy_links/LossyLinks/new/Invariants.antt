-- The wires that are made.
use Rattle.std.proofs.Common.{◌≡◌, replicate, ◌≤◌}
use Rattle.faulty_link.specs.Wire.{no_wires}
use Rattle.faulty_link.proofs.lossy_links.LossyLinks.new.Given as goal

-- as many remotes have their wires as rounds were made
abbrev pub invariant-loop-made : goal.invariant-loop-made
invariant-loop-made l = (l.pairs.items ≡ replicate l.made no_wires) × (1 ≤ l.n) × (l.n ≤ 64)

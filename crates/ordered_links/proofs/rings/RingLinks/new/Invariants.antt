-- The links that are made.
use Rattle.std.proofs.Common.{◌≡◌, replicate, ◌≤◌}
use Rattle.ordered_links.specs.Lists.{no_packets}
use Rattle.ordered_links.proofs.rings.RingLinks.new.Given as goal

-- as many remotes have their links as rounds were made
abbrev pub invariant-loop-made : goal.invariant-loop-made
invariant-loop-made l = (l.pairs.items ≡ replicate l.made no_packets) × (1 ≤ l.n) × (l.n ≤ 64)

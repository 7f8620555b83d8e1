-- The greatest number on the links before this one.
use Rattle.std.proofs.Common.{◌≡◌, length, map, take}
use Rattle.ordered_links.specs.Lists.{LinkPair}
use Rattle.drive_report.specs.Drive.{greatest}
use Rattle.drive_report.proofs.turns.longest_down.Given as goal

abbrev pub invariant-loop-j : goal.invariant-loop-j
invariant-loop-j g l =
    l.longest
    ≡ greatest (map (λ (pair : LinkPair). length pair.down) (take l.j (g.L.Links.lists l.links)))

-- The packets that are left decide as all do.
use Rattle.std.proofs.Common.{◌≡◌, drop}
use Rattle.ordered_links.specs.Lists.{packets_on}
use Rattle.abstraction_map.specs.Abstraction.{fate_in}
use Rattle.abstraction_map.specs.Fates.{link_to}
use Rattle.abstraction_map.proofs.fate.fate_on.Given as goal

abbrev pub invariant-loop-place : goal.invariant-loop-place
invariant-loop-place g l =
    let packets = packets_on (link_to l.way l.j) (g.L.Links.lists l.links) in
    fate_in (drop l.place packets) l.granted ≡ fate_in packets l.otherwise

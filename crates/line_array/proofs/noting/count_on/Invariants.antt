-- There are packets at all places so far.
use Rattle.std.proofs.Common.{◌≤◌, length}
use Rattle.ordered_links.specs.Lists.{packets_on}
use Rattle.line_array.specs.Noted.{link_of}
use Rattle.line_array.proofs.noting.count_on.Given as goal

abbrev pub invariant-loop-place : goal.invariant-loop-place
invariant-loop-place l = l.place ≤ length (packets_on (link_of l.link) l.links)

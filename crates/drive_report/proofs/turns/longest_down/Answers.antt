-- Each remote has its links, on which few packets are.
use Rattle.std.proofs.Common.{ℕ, ◌<◌, ◌≤◌, max, List, length, map, sym, ap, ap₂, subst, ◌∙◌}
use Rattle.std.proofs.lemmas.List.{take_all}
use Rattle.ordered_links.specs.Lists.{LinkPair}
use Rattle.async_shape.proofs.ShapeParts.{IsShaped-whole, links-there}
use Rattle.async_machine.specs.Standing.{setting, config}
use Rattle.abstraction_map.proofs.Named.{down-few}
use Rattle.drive_report.specs.Drive.{greatest}
use Rattle.drive_report.proofs.Longest.{greatest-more}
use Rattle.drive_report.proofs.turns.longest_down.Goals as goal

pub down_count-requires-clause-remote : goal.down_count-requires-clause-remote
down_count-requires-clause-remote g c =
    let machine = c.args.machine.now in
    let stands = config g.L.Links.lists machine in
    let there = rw c.n-j-end.ensures at c.loop-j-test.true in
    rw c.links-links.ensures
    (links-there (setting machine) stands c.shaped.ensures c.loop-j.j there)

pub down_count-requires-clause-few : goal.down_count-requires-clause-few
down_count-requires-clause-few g c =
    let machine = c.args.machine.now in
    let stands = config g.L.Links.lists machine in
    let there = rw c.n-j-end.ensures at c.loop-j-test.true in
    rw c.links-links.ensures (down-few (setting machine) stands c.shaped.ensures c.loop-j.j there)

pub loop-j-preserved : goal.loop-j-preserved
loop-j-preserved g c =
    let machine = c.args.machine.now in
    let stands = config g.L.Links.lists machine in
    let there = rw c.n-j-end.ensures at c.loop-j-test.true in
    let links = g.L.Links.lists c.links-links.result.now in
    let within : c.loop-j.j < length links =
    rw c.links-links.ensures
    (links-there (setting machine) stands c.shaped.ensures c.loop-j.j there) in
    c.greater-longest.ensures
    ∙ ap₂ max c.loop-j.invariant c.down_count.ensures
    ∙ sym (greatest-more (λ (pair : LinkPair). length pair.down) links c.loop-j.j within)

pub returns : goal.returns
returns g c =
    let machine = c.args.machine.now in
    let stands = config g.L.Links.lists machine in
    let links = g.L.Links.lists machine.links in
    let count = (IsShaped-whole (setting machine) stands c.shaped.ensures).links in
    let end : c.n-j-end.result ≤ c.loop-j.j = c.loop-j-test.false in
    let past : length links ≤ c.loop-j.j =
    subst (λ (k : ℕ). k ≤ c.loop-j.j) (c.n-j-end.ensures ∙ sym count) end in
    let invariant = rw c.links-links.ensures at c.loop-j.invariant in
    invariant
    ∙ ap (λ (pairs : List LinkPair). greatest (map (λ (pair : LinkPair). length pair.down) pairs))
    (take_all c.loop-j.j links past)

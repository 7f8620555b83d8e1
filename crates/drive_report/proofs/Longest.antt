-- The greatest number of packets on a link, link by link.
use Rattle.std.proofs.Common.{◌≡◌, ℕ, ◌+◌, ◌<◌, max, List, [], ◌∷◌, length, map, take}
use Rattle.std.proofs.Common.{ap, ◌∙◌}
use Rattle.std.proofs.lemmas.List.{take_more, map-append}
use Rattle.std.proofs.lemmas.List.Sums.{fold-append}
use Rattle.ordered_links.specs.Lists.{LinkPair, no_packets, links_at}
use Rattle.drive_report.specs.Drive.{greatest}

-- One more pair of links.
pub greatest-more : (count : LinkPair → ℕ) (links : List LinkPair) (j : ℕ) → j < length links
    → greatest (map count (take (j + 1) links))
    ≡ max (greatest (map count (take j links))) (count (links_at links j))
greatest-more count links j within =
    let pair = links_at links j in
    let counts = map count (take j links) in
    ap (λ (pairs : List LinkPair). greatest (map count pairs)) (take_more links j no_packets within)
    ∙ ap greatest (map-append count (take j links) (pair ∷ []))
    ∙ fold-append max 0 counts (count pair ∷ [])

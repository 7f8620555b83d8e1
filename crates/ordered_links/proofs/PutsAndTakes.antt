-- What stands on each link after the packets of one were changed, as a put and a take do.
use Rattle.std.proofs.Common.{◌≡◌, ◌≢◌, ◌<◌, ℕ, List, length}
use Rattle.std.proofs.lemmas.List.{get_or-set_same, get_or-set_other, length-set}
use Rattle.ordered_links.specs.declared.packet.Packet.{Packet}
use Rattle.ordered_links.specs.Link.{Link, Up, Down}
use Rattle.ordered_links.specs.Lists.{LinkPair, no_packets, links_at, with_packets}

-- The remote whose link it is.
abbrev pub remote_of : Link → ℕ
remote_of (Up j) = j
remote_of (Down j) = j

pub with_packets-count : (link : Link) (packets : List Packet) (links : List LinkPair) →
    length (with_packets link packets links) ≡ length links
with_packets-count (Up j) packets links = length-set links j _
with_packets-count (Down j) packets links = length-set links j _

pub with_packets-other : (link : Link) (packets : List Packet) (links : List LinkPair) (q : ℕ) →
    q ≢ remote_of link → links_at (with_packets link packets links) q ≡ links_at links q
with_packets-other (Up j) packets links q apart = get_or-set_other links j q _ no_packets apart
with_packets-other (Down j) packets links q apart = get_or-set_other links j q _ no_packets apart

pub with_packets-up : (j : ℕ) (packets : List Packet) (links : List LinkPair) → j < length links →
    links_at (with_packets (Up j) packets links) j ≡ record (links_at links j) { up = packets }
with_packets-up j packets links there = get_or-set_same links j _ no_packets there

pub with_packets-down : (j : ℕ) (packets : List Packet) (links : List LinkPair) → j < length links →
    links_at (with_packets (Down j) packets links) j ≡ record (links_at links j) { down = packets }
with_packets-down j packets links there = get_or-set_same links j _ no_packets there

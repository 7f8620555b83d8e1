-- The packets on the links, and what a put and a take do to them. After each, the lists of all
-- other remotes, the other list of this one, and the number of remotes are as before.
use Rattle.std.specs.Prelude.{◌≡◌, ℕ, List, [], ◌∷◌, ◌++◌, drop, Option}
use Rattle.std.specs.Prelude.{slice_get, slice_set, slice_index_or}
use Rattle.ordered_links.specs.declared.packet.Packet.{Packet}
use Rattle.ordered_links.specs.Link.{Link, Up, Down}

-- The packets on a remote's up link, on their way to the home, and on its down link, on their way
-- to the remote. Of each list the first packet is the next one to be taken.
pub record LinkPair : Type 0 where
  pub up : List Packet
  pub down : List Packet

-- Both links are empty.
abbrev pub no_packets : LinkPair
no_packets = record { up = []; down = [] }

-- The two links of this remote; past the last remote there are no packets.
abbrev pub links_at : List LinkPair → ℕ → LinkPair
links_at links j = slice_index_or links j no_packets

-- The packets on this link.
abbrev pub packets_on : Link → List LinkPair → List Packet
packets_on (Up j) links = (links_at links j).up
packets_on (Down j) links = (links_at links j).down

-- The links after the packets on this one have become these; all others are as before. Past the
-- last remote nothing changes.
abbrev pub with_packets : Link → List Packet → List LinkPair → List LinkPair
with_packets (Up j) packets links = slice_set links j (record (links_at links j) { up = packets })
with_packets (Down j) packets links =
    slice_set links j (record (links_at links j) { down = packets })

-- The first packet of a list, if there is one.
abbrev pub first_packet : List Packet → Option Packet
first_packet packets = slice_get packets 0

-- A put: the packet stands at the end of this link's list.
abbrev pub after_put : Link → Packet → List LinkPair → List LinkPair
after_put link packet links = with_packets link (packets_on link links ++ packet ∷ []) links

-- A take: the first packet of this link's list is gone.
abbrev pub after_take : Link → List LinkPair → List LinkPair
after_take link links = with_packets link (drop 1 (packets_on link links)) links

-- A put that does what it does to the lists, and no more can be said of it.
abbrev pub IsPut : List LinkPair → Link → Packet → List LinkPair → Type 0
IsPut old link packet new = new ≡ after_put link packet old

-- A take that does what it does to the lists, and no more can be said of it.
abbrev pub IsTaken : List LinkPair → Link → Option Packet → List LinkPair → Type 0
IsTaken old link answer new =
    (answer ≡ first_packet (packets_on link old)) × (new ≡ after_take link old)

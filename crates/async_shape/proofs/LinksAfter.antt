-- The links after a step: those of the remote on whose links it puts and from whose links it takes,
-- and those of all others.
use Rattle.std.proofs.Common.{◌≡◌, ◌≢◌, ◌<◌, ℕ, List, [], ◌∷◌, ◌++◌, length, drop, Option, Some}
use Rattle.std.proofs.Common.{None, refl, sym, ap, subst, ◌∙◌}
use Rattle.ordered_links.specs.Link.{Link, Up, Down}
use Rattle.ordered_links.specs.Lists.{LinkPair, links_at, packets_on, after_put, after_take}
use Rattle.ordered_links.specs.declared.packet.Packet.{Packet}
use Rattle.ordered_links.proofs.PutsAndTakes.{remote_of, with_packets-count, with_packets-other}
use Rattle.ordered_links.proofs.PutsAndTakes.{with_packets-up, with_packets-down}
use Rattle.async_shape.specs.Outcome.{Put}
use Rattle.async_shape.specs.Next.{links_put, links_left, links_after}

-- ---- where a step puts and takes

-- what is put, if anything, is put on a link of this remote
abbrev pub IsPutAt : ℕ → Option Put → Type 0
IsPutAt j None = Unit {0}
IsPutAt j (Some put) = remote_of put.on ≡ j

-- what is taken, if anything, is taken from a link of this remote
abbrev pub IsTakenAt : ℕ → Option Link → Type 0
IsTakenAt j None = Unit {0}
IsTakenAt j (Some link) = remote_of link ≡ j

-- nothing is put on a link of this remote
abbrev pub IsPutElsewhere : ℕ → Option Put → Type 0
IsPutElsewhere q None = Unit {0}
IsPutElsewhere q (Some put) = q ≢ remote_of put.on

-- nothing is taken from a link of this remote
abbrev pub IsTakenElsewhere : ℕ → Option Link → Type 0
IsTakenElsewhere q None = Unit {0}
IsTakenElsewhere q (Some link) = q ≢ remote_of link

-- what is put for one remote is put elsewhere for any other
pub put-elsewhere : (j q : ℕ) (put : Option Put) → q ≢ j → IsPutAt j put → IsPutElsewhere q put
put-elsewhere j q None apart at = tt
put-elsewhere j q (Some put) apart at = λ same. apart (same ∙ at)

-- what is taken from one remote is taken elsewhere for any other
pub taken-elsewhere : (j q : ℕ) (taken : Option Link) → q ≢ j → IsTakenAt j taken
    → IsTakenElsewhere q taken
taken-elsewhere j q None apart at = tt
taken-elsewhere j q (Some link) apart at = λ same. apart (same ∙ at)

-- ---- how many links there are

-- a put keeps the number of links
links_put-count : (put : Option Put) (links : List LinkPair)
    → length (links_put put links) ≡ length links
links_put-count None links = refl
links_put-count (Some put) links =
    with_packets-count put.on (packets_on put.on links ++ put.packet ∷ []) links

-- so does a take
links_left-count : (taken : Option Link) (links : List LinkPair)
    → length (links_left taken links) ≡ length links
links_left-count None links = refl
links_left-count (Some link) links =
    with_packets-count link (drop 1 (packets_on link links)) links

-- so do both
pub links_after-count : (put : Option Put) (taken : Option Link) (links : List LinkPair)
    → length (links_after put taken links) ≡ length links
links_after-count put taken links =
    links_left-count taken (links_put put links) ∙ links_put-count put links

-- ---- the links of another remote

-- a put elsewhere leaves the links of a remote
links_put-other : (put : Option Put) (links : List LinkPair) (q : ℕ) → IsPutElsewhere q put
    → links_at (links_put put links) q ≡ links_at links q
links_put-other None links q elsewhere = refl
links_put-other (Some put) links q elsewhere =
    with_packets-other put.on (packets_on put.on links ++ put.packet ∷ []) links q elsewhere

-- so does a take elsewhere
links_left-other : (taken : Option Link) (links : List LinkPair) (q : ℕ)
    → IsTakenElsewhere q taken → links_at (links_left taken links) q ≡ links_at links q
links_left-other None links q elsewhere = refl
links_left-other (Some link) links q elsewhere =
    with_packets-other link (drop 1 (packets_on link links)) links q elsewhere

-- so do both
pub links_after-other : (put : Option Put) (taken : Option Link) (links : List LinkPair) (q : ℕ)
    → IsPutElsewhere q put → IsTakenElsewhere q taken
    → links_at (links_after put taken links) q ≡ links_at links q
links_after-other put taken links q not_put not_taken =
    links_left-other taken (links_put put links) q not_taken
    ∙ links_put-other put links q not_put

-- ---- the links of the remote itself

-- the two links of a remote after a put on one of them
abbrev pub pair_with : Link → Packet → LinkPair → LinkPair
pair_with (Up j) packet pair = record pair { up = pair.up ++ packet ∷ [] }
pair_with (Down j) packet pair = record pair { down = pair.down ++ packet ∷ [] }

-- the two links of a remote after a take from one of them
abbrev pub pair_without : Link → LinkPair → LinkPair
pair_without (Up j) pair = record pair { up = drop 1 pair.up }
pair_without (Down j) pair = record pair { down = drop 1 pair.down }

-- the two links of a remote after a put on one of them, if there is one
abbrev pub pair_put : Option Put → LinkPair → LinkPair
pair_put None pair = pair
pair_put (Some put) pair = pair_with put.on put.packet pair

-- the two links of a remote after a take from one of them, if there is one
abbrev pub pair_left : Option Link → LinkPair → LinkPair
pair_left None pair = pair
pair_left (Some link) pair = pair_without link pair

-- the two links of a remote after a step that puts and takes there
abbrev pub pair_after : Option Put → Option Link → LinkPair → LinkPair
pair_after put taken pair = pair_left taken (pair_put put pair)

-- the links of the remote for whom a packet is put
after_put-own : (link : Link) (packet : Packet) (links : List LinkPair)
    → remote_of link < length links
    → links_at (after_put link packet links) (remote_of link)
    ≡ pair_with link packet (links_at links (remote_of link))
after_put-own (Up j) packet links there =
    with_packets-up j ((links_at links j).up ++ packet ∷ []) links there
after_put-own (Down j) packet links there =
    with_packets-down j ((links_at links j).down ++ packet ∷ []) links there

-- the links of the remote from whom a packet is taken
after_take-own : (link : Link) (links : List LinkPair) → remote_of link < length links
    → links_at (after_take link links) (remote_of link)
    ≡ pair_without link (links_at links (remote_of link))
after_take-own (Up j) links there = with_packets-up j (drop 1 (links_at links j).up) links there
after_take-own (Down j) links there =
    with_packets-down j (drop 1 (links_at links j).down) links there

-- so it is of what is put, if anything
pub links_put-own : (put : Option Put) (links : List LinkPair) (j : ℕ) → IsPutAt j put
    → j < length links → links_at (links_put put links) j ≡ pair_put put (links_at links j)
links_put-own None links j at there = refl
links_put-own (Some put) links j at there =
    subst (λ (i : ℕ). links_at (after_put put.on put.packet links) i
    ≡ pair_with put.on put.packet (links_at links i)) at
    (after_put-own put.on put.packet links (subst (λ (i : ℕ). i < length links) (sym at) there))

-- so it is of what is taken, if anything
pub links_left-own : (taken : Option Link) (links : List LinkPair) (j : ℕ) → IsTakenAt j taken
    → j < length links → links_at (links_left taken links) j ≡ pair_left taken (links_at links j)
links_left-own None links j at there = refl
links_left-own (Some link) links j at there =
    subst (λ (i : ℕ). links_at (after_take link links) i ≡ pair_without link (links_at links i)) at
    (after_take-own link links (subst (λ (i : ℕ). i < length links) (sym at) there))

-- so it is of both
pub links_after-own : (put : Option Put) (taken : Option Link) (links : List LinkPair) (j : ℕ)
    → IsPutAt j put → IsTakenAt j taken → j < length links
    → links_at (links_after put taken links) j ≡ pair_after put taken (links_at links j)
links_after-own put taken links j is_put is_taken there =
    let still : j < length (links_put put links) =
    subst (λ (n : ℕ). j < n) (sym (links_put-count put links)) there in
    links_left-own taken (links_put put links) j is_taken still
    ∙ ap (pair_left taken) (links_put-own put links j is_put there)

-- a step that puts on a link of this remote, and takes from one of another
pub links_after-put_own : (put : Option Put) (taken : Option Link) (links : List LinkPair) (j : ℕ)
    → IsPutAt j put → IsTakenElsewhere j taken → j < length links
    → links_at (links_after put taken links) j ≡ pair_put put (links_at links j)
links_after-put_own put taken links j is_put not_taken there =
    links_left-other taken (links_put put links) j not_taken
    ∙ links_put-own put links j is_put there

-- a step that takes from a link of this remote, and puts on one of another
pub links_after-taken_own : (put : Option Put) (taken : Option Link) (links : List LinkPair)
    (j : ℕ) → IsPutElsewhere j put → IsTakenAt j taken → j < length links
    → links_at (links_after put taken links) j ≡ pair_left taken (links_at links j)
links_after-taken_own put taken links j not_put is_taken there =
    let still : j < length (links_put put links) =
    subst (λ (n : ℕ). j < n) (sym (links_put-count put links)) there in
    links_left-own taken (links_put put links) j is_taken still
    ∙ ap (pair_left taken) (links_put-other put links j not_put)

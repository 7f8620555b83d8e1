-- What stands on each link after the packets, or the line numbers, on one were changed.
use Rattle.std.proofs.Common.{◌≡◌, inl, inr, ℕ, zero, suc, ◌<◌, true, false}
use Rattle.std.proofs.Common.{List, [], ◌∷◌, ◌++◌, length, drop, get_or, set, Option, Some, None}
use Rattle.std.proofs.Common.{slice_get, refl, sym, ap, ◌∙◌, subst, length-set}
use Rattle.std.proofs.Common.{get_or-set_same, get_or-set_other}
use Rattle.std.proofs.lemmas.Bool.{cases_lt, eqb-true, eqb-false, eq-eqb}
use Rattle.std.proofs.lemmas.List.{get_or_past}
use Rattle.ordered_links.specs.Link.{Link, Up, Down}
use Rattle.ordered_links.specs.Lists.{LinkPair, no_packets, links_at, packets_on, with_packets}
use Rattle.ordered_links.specs.declared.packet.Packet.{Packet}
use Rattle.ordered_links.proofs.PutsAndTakes.{with_packets-up, with_packets-down}
use Rattle.line_array.specs.SharedLists.{SharedPair, no_entries, shared_at, shared_on, with_shared}
use Rattle.line_array.specs.SharedLists.{first_line, shared_put, shared_left, shared_after}
use Rattle.line_array.specs.Carried.{is_link}
use Rattle.line_array.specs.Noted.{remote_of}

-- A change of one field of an item leaves another field of all items.
field-kept : {X Y : Type 0} (field : X → Y) (give : X → X) (d : X)
    → ((x : X) → field (give x) ≡ field x) → (xs : List X) (j i : ℕ)
    → field (get_or (set xs j (give (get_or xs j d))) i d) ≡ field (get_or xs i d)
field-kept field give d keeps [] j i = refl
field-kept field give d keeps (x ∷ xs) zero zero = keeps x
field-kept field give d keeps (x ∷ xs) zero (suc i) = refl
field-kept field give d keeps (x ∷ xs) (suc j) zero = refl
field-kept field give d keeps (x ∷ xs) (suc j) (suc i) = field-kept field give d keeps xs j i

-- ---- links

-- the same link
pub is_link-same : (on link : Link) → is_link on link ≡ true → on ≡ link
is_link-same (Up i) (Up j) is = ap Up (eqb-true i j is)
is_link-same (Up i) (Down j) is = absurd (cc)
is_link-same (Down i) (Up j) is = absurd (cc)
is_link-same (Down i) (Down j) is = ap Down (eqb-true i j is)

-- a link is itself
pub is_link-itself : (link : Link) → is_link link link ≡ true
is_link-itself (Up j) = eq-eqb j j refl
is_link-itself (Down j) = eq-eqb j j refl

-- ---- the packets of a line

-- the packets of the link that was changed
pub packets_on-same : (link : Link) (packets : List Packet) (links : List LinkPair)
    → remote_of link < length links
    → packets_on link (with_packets link packets links) ≡ packets
packets_on-same (Up j) packets links there =
    ap (λ (pair : LinkPair). pair.up) (with_packets-up j packets links there)
packets_on-same (Down j) packets links there =
    ap (λ (pair : LinkPair). pair.down) (with_packets-down j packets links there)

-- those of another link
pub packets_on-other : (on link : Link) (packets : List Packet) (links : List LinkPair)
    → is_link on link ≡ false
    → packets_on link (with_packets on packets links) ≡ packets_on link links
packets_on-other (Up j) (Up i) packets links apart =
    ap (λ (pair : LinkPair). pair.up)
    (get_or-set_other links j i _ no_packets (λ same. eqb-false j i apart (sym same)))
packets_on-other (Up j) (Down i) packets links apart =
    field-kept (λ (pair : LinkPair). pair.down)
    (λ (pair : LinkPair). record pair { up = packets }) no_packets (λ pair. refl) links j i
packets_on-other (Down j) (Up i) packets links apart =
    field-kept (λ (pair : LinkPair). pair.up)
    (λ (pair : LinkPair). record pair { down = packets }) no_packets (λ pair. refl) links j i
packets_on-other (Down j) (Down i) packets links apart =
    ap (λ (pair : LinkPair). pair.down)
    (get_or-set_other links j i _ no_packets (λ same. eqb-false j i apart (sym same)))

-- no packets are past the last remote
pub packets_on-within : (link : Link) (links : List LinkPair) (packet : Packet)
    → slice_get (packets_on link links) 0 ≡ Some packet → remote_of link < length links
packets_on-within (Up j) links packet first = elim (cases_lt j (length links)) [
  | inl within ↦ within
  | inr past ↦
      let none : links_at links j ≡ no_packets = get_or_past links j no_packets past in
      let gone : slice_get (no_packets).up 0 ≡ Some packet =
      subst (λ (pair : LinkPair). slice_get pair.up 0 ≡ Some packet) none first in
      absurd (cc)
]
packets_on-within (Down j) links packet first = elim (cases_lt j (length links)) [
  | inl within ↦ within
  | inr past ↦
      let none : links_at links j ≡ no_packets = get_or_past links j no_packets past in
      let gone : slice_get (no_packets).down 0 ≡ Some packet =
      subst (λ (pair : LinkPair). slice_get pair.down 0 ≡ Some packet) none first in
      absurd (cc)
]

-- ---- the numbers of lines

-- the numbers on the shared link that was changed
pub shared_on-same : (link : Link) (numbers : List ℕ) (shared : List SharedPair)
    → remote_of link < length shared
    → shared_on link (with_shared link numbers shared) ≡ numbers
shared_on-same (Up j) numbers shared there =
    ap (λ (pair : SharedPair). pair.up) (get_or-set_same shared j _ no_entries there)
shared_on-same (Down j) numbers shared there =
    ap (λ (pair : SharedPair). pair.down) (get_or-set_same shared j _ no_entries there)

-- those on another one
pub shared_on-other : (on link : Link) (numbers : List ℕ) (shared : List SharedPair)
    → is_link on link ≡ false
    → shared_on link (with_shared on numbers shared) ≡ shared_on link shared
shared_on-other (Up j) (Up i) numbers shared apart =
    ap (λ (pair : SharedPair). pair.up)
    (get_or-set_other shared j i _ no_entries (λ same. eqb-false j i apart (sym same)))
shared_on-other (Up j) (Down i) numbers shared apart =
    field-kept (λ (pair : SharedPair). pair.down)
    (λ (pair : SharedPair). record pair { up = numbers }) no_entries (λ pair. refl) shared j i
shared_on-other (Down j) (Up i) numbers shared apart =
    field-kept (λ (pair : SharedPair). pair.up)
    (λ (pair : SharedPair). record pair { down = numbers }) no_entries (λ pair. refl) shared j i
shared_on-other (Down j) (Down i) numbers shared apart =
    ap (λ (pair : SharedPair). pair.down)
    (get_or-set_other shared j i _ no_entries (λ same. eqb-false j i apart (sym same)))

-- no numbers are past the last remote
pub shared_on-within : (link : Link) (shared : List SharedPair) (a : ℕ)
    → first_line link shared ≡ Some a → remote_of link < length shared
shared_on-within (Up j) shared a first = elim (cases_lt j (length shared)) [
  | inl within ↦ within
  | inr past ↦
      let none : shared_at shared j ≡ no_entries = get_or_past shared j no_entries past in
      let gone : slice_get (no_entries).up 0 ≡ Some a =
      subst (λ (pair : SharedPair). slice_get pair.up 0 ≡ Some a) none first in
      absurd (cc)
]
shared_on-within (Down j) shared a first = elim (cases_lt j (length shared)) [
  | inl within ↦ within
  | inr past ↦
      let none : shared_at shared j ≡ no_entries = get_or_past shared j no_entries past in
      let gone : slice_get (no_entries).down 0 ≡ Some a =
      subst (λ (pair : SharedPair). slice_get pair.down 0 ≡ Some a) none first in
      absurd (cc)
]

-- ---- how many shared links there are

with_shared-count : (link : Link) (numbers : List ℕ) (shared : List SharedPair)
    → length (with_shared link numbers shared) ≡ length shared
with_shared-count (Up j) numbers shared = length-set shared j _
with_shared-count (Down j) numbers shared = length-set shared j _

-- a put keeps their number
pub shared_put-count : (a : ℕ) (on : Option Link) (shared : List SharedPair)
    → length (shared_put a on shared) ≡ length shared
shared_put-count a None shared = refl
shared_put-count a (Some link) shared =
    with_shared-count link (shared_on link shared ++ a ∷ []) shared

-- so does a take
shared_left-count : (from : Option Link) (shared : List SharedPair)
    → length (shared_left from shared) ≡ length shared
shared_left-count None shared = refl
shared_left-count (Some link) shared =
    with_shared-count link (drop 1 (shared_on link shared)) shared

-- so do both
pub shared_after-count : (a : ℕ) (on from : Option Link) (shared : List SharedPair)
    → length (shared_after a on from shared) ≡ length shared
shared_after-count a on from shared =
    shared_left-count from (shared_put a on shared) ∙ shared_put-count a on shared

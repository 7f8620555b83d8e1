-- What links see of wires.
use Rattle.std.proofs.Common.{◌≡◌, ℕ, zero, suc, ◌<◌, ◌≤◌, Bool, true, false, nat_lt, List, [], ◌∷◌}
use Rattle.std.proofs.Common.{◌++◌, length, set, get_or, drop, if◌then◌else◌, Option, Some, None}
use Rattle.std.proofs.Common.{IfNone, refl, sym, ap, ◌∙◌, subst, arith}
use Rattle.std.proofs.Math.ListN.{get_or-map}
use Rattle.std.proofs.Math.Seq.{map-set_same}
use Rattle.std.proofs.lemmas.Bool.{ltb-true, lt-ltb, le-ltb}
use Rattle.std.proofs.lemmas.List.{map-set}
use Rattle.std.specs.Option.{option_map}
use Rattle.rv_base.proofs.Lists.{AllByRecursion-set, some_map}
use Rattle.ordered_links.specs.Link.{Link, Up, Down}
use Rattle.ordered_links.specs.Lists.{LinkPair, links_at, packets_on, with_packets, first_packet}
use Rattle.ordered_links.specs.Lists.{after_put, after_take}
use Rattle.ordered_links.specs.declared.packet.Packet.{Packet}
use Rattle.faulty_link.specs.Wire.{Wire, WirePair, no_wires, on_wire, wires_at, wire_on, with_wire}
use Rattle.faulty_link.specs.Wire.{pair_lists, wire_lists, room_of}
use Rattle.faulty_link.specs.Moves.{wire_after_put, wire_after_take, link_on, wire_that_goes}
use Rattle.faulty_link.specs.Moves.{pair_with, room_that_goes, link_of, remote_of, way_of}
use Rattle.faulty_link.specs.Moves.{moved_wire, moved_pair, moved, IsWirePut, IsWireTaken}
use Rattle.faulty_link.specs.Moves.{IsAnswered, IsWireMove}
use Rattle.faulty_link.specs.Whole.{IsWire, IsWirePair, AreWires}
use Rattle.faulty_link.specs.declared.net_step.NetStep.{NetStep}
use Rattle.faulty_link.specs.declared.net_step.Way.{Way}
use Rattle.faulty_link.specs.declared.net_step.Way.TheVariants as way
use Rattle.faulty_link.proofs.MovesKeep.{moved_wire-kept}

-- The packets on a link are those on its wire.
pub packets_on-wires : (link : Link) (wires : List WirePair)
    → packets_on link (wire_lists wires) ≡ on_wire (wire_on link wires)
packets_on-wires (Up j) wires = ap (λ pair. pair.up) (get_or-map pair_lists wires j no_wires)
packets_on-wires (Down j) wires = ap (λ pair. pair.down) (get_or-map pair_lists wires j no_wires)

-- Where one wire is another one, one link has other packets.
pub wire_lists-with : (link : Link) (w : Wire) (wires : List WirePair)
    → wire_lists (with_wire link w wires) ≡ with_packets link (on_wire w) (wire_lists wires)
wire_lists-with (Up j) w wires =
    map-set pair_lists wires j (record (wires_at wires j) { up = w })
    ∙ ap (λ pair. set (wire_lists wires) j (record pair { up = on_wire w }))
    (sym (get_or-map pair_lists wires j no_wires))
wire_lists-with (Down j) w wires =
    map-set pair_lists wires j (record (wires_at wires j) { down = w })
    ∙ ap (λ pair. set (wire_lists wires) j (record pair { down = on_wire w }))
    (sym (get_or-map pair_lists wires j no_wires))

-- Where the other one has the same packets, no link has others.
pub wire_lists-same : (link : Link) (w : Wire) (wires : List WirePair)
    → on_wire w ≡ on_wire (wire_on link wires)
    → wire_lists (with_wire link w wires) ≡ wire_lists wires
wire_lists-same (Up j) w wires same =
    map-set_same pair_lists wires j (record (wires_at wires j) { up = w }) no_wires
    (ap (λ packets. record (pair_lists (wires_at wires j)) { up = packets }) same)
wire_lists-same (Down j) w wires same =
    map-set_same pair_lists wires j (record (wires_at wires j) { down = w }) no_wires
    (ap (λ packets. record (pair_lists (wires_at wires j)) { down = packets }) same)

-- ---- what is done to one pair of wires

-- the pair at a place is the one that is read there
pub wires_at-read : (wires : List WirePair) (j : ℕ) (pair : WirePair) → j < length wires
    → pair ≡ get_or wires j pair → wires_at wires j ≡ pair
wires_at-read [] j pair there is = absurd (omega arith)
wires_at-read (first ∷ wires) zero pair there is = sym is
wires_at-read (first ∷ wires) (suc j) pair there is =
    wires_at-read wires j pair (omega arith) is

pub wire_on-pair : (j : ℕ) (on : Way) (wires : List WirePair)
    → wire_on (link_on j on) wires ≡ wire_that_goes on (wires_at wires j)
wire_on-pair j way.Up wires = refl
wire_on-pair j way.Down wires = refl

with_wire-pair : (j : ℕ) (on : Way) (w : Wire) (wires : List WirePair)
    → with_wire (link_on j on) w wires ≡ set wires j (pair_with on w (wires_at wires j))
with_wire-pair j way.Up w wires = refl
with_wire-pair j way.Down w wires = refl

that_goes-with : (on : Way) (w : Wire) (pair : WirePair)
    → wire_that_goes on (pair_with on w pair) ≡ w
that_goes-with way.Up w pair = refl
that_goes-with way.Down w pair = refl

same-with : (on : Way) (pair : WirePair) → pair_with on (wire_that_goes on pair) pair ≡ pair
same-with way.Up pair = refl
same-with way.Down pair = refl

pub room_on : (j : ℕ) (on : Way) → room_of (link_on j on) ≡ room_that_goes on
room_on j way.Up = refl
room_on j way.Down = refl

-- The packets on a link are those on the wire of its pair.
pub packets_on-pair : (wires : List WirePair) (j : ℕ) (on : Way) (pair : WirePair)
    → wires_at wires j ≡ pair
    → packets_on (link_on j on) (wire_lists wires) ≡ on_wire (wire_that_goes on pair)
packets_on-pair wires j on pair there =
    packets_on-wires (link_on j on) wires ∙ ap on_wire (wire_on-pair j on wires)
    ∙ ap (λ pair. on_wire (wire_that_goes on pair)) there

-- Where a wire of one pair becomes another one, the wires do.
pub set-with : (wires : List WirePair) (j : ℕ) (on : Way) (does : Wire → Wire)
    (old new : WirePair) → wires_at wires j ≡ old
    → new ≡ pair_with on (does (wire_that_goes on old)) old
    → set wires j new
    ≡ with_wire (link_on j on) (does (wire_on (link_on j on) wires)) wires
set-with wires j on does old new there is =
    ap (set wires j)
    (is ∙ sym (ap (λ pair. pair_with on (does (wire_that_goes on pair)) pair) there))
    ∙ ap (λ w. set wires j (pair_with on (does w) (wires_at wires j)))
    (sym (wire_on-pair j on wires))
    ∙ sym (with_wire-pair j on (does (wire_on (link_on j on) wires)) wires)

-- Then the packets of one link are those on the other wire.
pub set-lists : (wires : List WirePair) (j : ℕ) (on : Way) (does : Wire → Wire)
    (old new : WirePair) → wires_at wires j ≡ old
    → new ≡ pair_with on (does (wire_that_goes on old)) old
    → wire_lists (set wires j new)
    ≡ with_packets (link_on j on) (on_wire (wire_that_goes on new)) (wire_lists wires)
set-lists wires j on does old new there is =
    let w = does (wire_on (link_on j on) wires) in
    let goes : w ≡ wire_that_goes on new =
    ap does (wire_on-pair j on wires ∙ ap (wire_that_goes on) there)
    ∙ sym (ap (wire_that_goes on) is ∙ that_goes-with on (does (wire_that_goes on old)) old) in
    ap wire_lists (set-with wires j on does old new there is)
    ∙ wire_lists-with (link_on j on) w wires
    ∙ ap (λ w. with_packets (link_on j on) (on_wire w) (wire_lists wires)) goes

-- a put, and a take, by what they do to one pair
pub put-lists : (wires : List WirePair) (j : ℕ) (on : Way) (packet : Packet)
    (old new : WirePair) → wires_at wires j ≡ old
    → new ≡ pair_with on (wire_after_put (room_that_goes on) packet (wire_that_goes on old)) old
    → on_wire (wire_that_goes on new) ≡ on_wire (wire_that_goes on old) ++ packet ∷ []
    → wire_lists (set wires j new) ≡ after_put (link_on j on) packet (wire_lists wires)
put-lists wires j on packet old new there is list =
    set-lists wires j on (wire_after_put (room_that_goes on) packet) old new there is
    ∙ ap (λ packets. with_packets (link_on j on) packets (wire_lists wires))
    (list ∙ ap (λ packets. packets ++ packet ∷ []) (sym (packets_on-pair wires j on old there)))
    ∙ put-is (link_on j on) packet (wire_lists wires) where
      put-is : (link : Link) (packet : Packet) (links : List LinkPair)
          → with_packets link (packets_on link links ++ packet ∷ []) links
          ≡ after_put link packet links
      put-is link packet links = refl

pub put-wires : (wires : List WirePair) (j : ℕ) (on : Way) (packet : Packet)
    (old new : WirePair) → wires_at wires j ≡ old
    → new ≡ pair_with on (wire_after_put (room_that_goes on) packet (wire_that_goes on old)) old
    → IsWirePut wires (link_on j on) packet (set wires j new)
put-wires wires j on packet old new there is =
    set-with wires j on (wire_after_put (room_that_goes on) packet) old new there is
    ∙ ap (λ room. with_wire (link_on j on)
    (wire_after_put room packet (wire_on (link_on j on) wires)) wires) (sym (room_on j on))

pub take-lists : (wires : List WirePair) (j : ℕ) (on : Way) (old new : WirePair)
    → wires_at wires j ≡ old
    → new ≡ pair_with on (wire_after_take (wire_that_goes on old)) old
    → on_wire (wire_that_goes on new) ≡ drop 1 (on_wire (wire_that_goes on old))
    → wire_lists (set wires j new) ≡ after_take (link_on j on) (wire_lists wires)
take-lists wires j on old new there is list =
    set-lists wires j on wire_after_take old new there is
    ∙ ap (λ packets. with_packets (link_on j on) packets (wire_lists wires))
    (list ∙ ap (drop 1) (sym (packets_on-pair wires j on old there)))

-- what a take answers
pub take-value : (wires : List WirePair) (j : ℕ) (on : Way) (old : WirePair)
    (answer : Option Packet) → wires_at wires j ≡ old
    → answer ≡ first_packet (on_wire (wire_that_goes on old))
    → answer ≡ first_packet (packets_on (link_on j on) (wire_lists wires))
take-value wires j on old answer there is =
    is ∙ ap first_packet (sym (packets_on-pair wires j on old there))

pub take-wires : (wires : List WirePair) (j : ℕ) (on : Way) (old new : WirePair)
    (answer : Option Packet) → wires_at wires j ≡ old
    → answer ≡ first_packet (on_wire (wire_that_goes on old))
    → new ≡ pair_with on (wire_after_take (wire_that_goes on old)) old
    → IsWireTaken wires (link_on j on) answer (set wires j new)
take-wires wires j on old new answer there first is = (
  first
      ∙ ap first_packet (sym (ap on_wire (wire_on-pair j on wires)
      ∙ ap (λ pair. on_wire (wire_that_goes on pair)) there)),
  set-with wires j on wire_after_take old new there is,
)

-- Where there is no first packet, a take leaves what there was.
none-first : (packets : List Packet) → first_packet packets ≡ None → packets ≡ []
none-first [] none = refl
none-first (packet ∷ packets) none = absurd (cc)

set-same : (links : List LinkPair) (j : ℕ) → set links j (links_at links j) ≡ links
set-same [] j = refl
set-same (pair ∷ links) zero = refl
set-same (pair ∷ links) (suc j) = ap (λ rest. pair ∷ rest) (set-same links j)

with-same : (link : Link) (links : List LinkPair)
    → with_packets link (packets_on link links) links ≡ links
with-same (Up j) links = set-same links j
with-same (Down j) links = set-same links j

pub take-unchanged : (link : Link) (answer : Option Packet) (old new : List LinkPair)
    → answer ≡ first_packet (packets_on link old) → new ≡ after_take link old
    → IfNone answer (new ≡ old)
take-unchanged link (Some packet) old new first is = tt
take-unchanged link None old new first is =
    let none = none-first (packets_on link old) (sym first) in
    is
    ∙ ap (λ packets. with_packets link packets old) (ap (drop 1) none ∙ sym none)
    ∙ with-same link old

-- ---- moves

-- What becomes of a move of one wire of a pair.
pub pair-answered : (step : NetStep) (on : Way) (answer : Bool) (pair : WirePair) (w : Wire)
    → way_of step ≡ on
    → IsAnswered answer (wire_that_goes on pair) w (moved_wire step (wire_that_goes on pair))
    → IsAnswered answer pair (pair_with on w pair) (moved_pair step pair)
pair-answered step on true pair w goes made =
    subst (λ on. moved_pair step pair
    ≡ Some (pair_with on w pair)) goes
    (ap (option_map (λ w. pair_with (way_of step) w pair))
    (subst (λ on. moved_wire step (wire_that_goes on pair) ≡ Some w) (sym goes) made))
pair-answered step on false pair w goes refused = (
  ap (option_map (λ w. pair_with (way_of step) w pair))
      (subst (λ on. moved_wire step (wire_that_goes on pair) ≡ None) (sym goes) refused.0),
  ap (λ w. pair_with on w pair) refused.1 ∙ same-with on pair,
)

-- a move of one wire, by what it does to its pair
moved-pair : (step : NetStep) (wires : List WirePair) (old : WirePair)
    → remote_of step < length wires → wires_at wires (remote_of step) ≡ old
    → moved step wires ≡ option_map (set wires (remote_of step)) (moved_pair step old)
moved-pair step wires old within there =
    rw (lt-ltb (remote_of step) (length wires) within) (
    ap (λ w. option_map (λ v. with_wire (link_of step) v wires) (moved_wire step w))
    (wire_on-pair (remote_of step) (way_of step) wires)
    ∙ mapped (moved_wire step (wire_that_goes (way_of step) (wires_at wires (remote_of step))))
    ∙ ap (λ pair. option_map (set wires (remote_of step)) (moved_pair step pair)) there) where
      mapped : (now : Option Wire)
          → option_map (λ v. with_wire (link_of step) v wires) now
          ≡ option_map (set wires (remote_of step))
          (option_map (λ v. pair_with (way_of step) v (wires_at wires (remote_of step))) now)
      mapped None = refl
      mapped (Some v) =
          ap Some (with_wire-pair (remote_of step) (way_of step) v wires)

set-read : (wires : List WirePair) (j : ℕ) → set wires j (wires_at wires j) ≡ wires
set-read [] j = refl
set-read (pair ∷ wires) zero = refl
set-read (pair ∷ wires) (suc j) = ap (λ rest. pair ∷ rest) (set-read wires j)

-- What becomes of a move, by what becomes of it at its pair.
pub moved-answered : (step : NetStep) (answer : Bool) (wires : List WirePair)
    (old new : WirePair) → remote_of step < length wires
    → wires_at wires (remote_of step) ≡ old
    → IsAnswered answer old new (moved_pair step old)
    → IsWireMove wires step answer (set wires (remote_of step) new)
moved-answered step true wires old new within there made =
    moved-pair step wires old within there ∙ ap (option_map (set wires (remote_of step))) made
moved-answered step false wires old new within there refused = (
  moved-pair step wires old within there
      ∙ ap (option_map (set wires (remote_of step))) refused.0,
  ap (set wires (remote_of step)) (refused.1 ∙ sym there) ∙ set-read wires (remote_of step),
)

pub moved-past : (step : NetStep) (wires : List WirePair) → length wires ≤ remote_of step
    → moved step wires ≡ None
moved-past step wires past = rw (le-ltb (remote_of step) (length wires) past) refl

-- Where one pair has the packets that it had, all have.
pub lists-same : (wires : List WirePair) (j : ℕ) (old new : WirePair) → wires_at wires j ≡ old
    → pair_lists new ≡ pair_lists old → wire_lists (set wires j new) ≡ wire_lists wires
lists-same wires j old new there same =
    map-set_same pair_lists wires j new no_wires (same ∙ ap pair_lists (sym there))

-- a pair of wires at a place
pair_at : (wires : List WirePair) (j : ℕ) → AreWires wires → j < length wires
    → IsWirePair (wires_at wires j)
pair_at [] j are there = absurd (omega arith)
pair_at (pair ∷ wires) zero are there = are.0
pair_at (pair ∷ wires) (suc j) are there = pair_at wires j are.1 (omega arith)

-- one of the wires that are there
wire_at : (wires : List WirePair) (j : ℕ) (on : Way) → AreWires wires → j < length wires
    → IsWire (room_of (link_on j on)) (wire_on (link_on j on) wires)
wire_at wires j way.Up are there = (pair_at wires j are there).up
wire_at wires j way.Down are there = (pair_at wires j are there).down

-- the wires after one of them became another whole one
with_wire-are : (wires : List WirePair) (j : ℕ) (on : Way) (w : Wire) → AreWires wires
    → j < length wires → IsWire (room_of (link_on j on)) w
    → AreWires (with_wire (link_on j on) w wires)
with_wire-are wires j way.Up w are there whole =
    AllByRecursion-set IsWirePair wires j (record (wires_at wires j) { up = w }) are
    (record { up = whole; down = (pair_at wires j are there).down })
with_wire-are wires j way.Down w are there whole =
    AllByRecursion-set IsWirePair wires j (record (wires_at wires j) { down = w }) are
    (record { up = (pair_at wires j are there).up; down = whole })

-- A move leaves whole wires, with the packets that they had.
pub moved-keeps : (step : NetStep) (wires new : List WirePair) → AreWires wires
    → moved step wires ≡ Some new → AreWires new × (wire_lists new ≡ wire_lists wires)
moved-keeps step wires new are did =
    by_test (nat_lt (remote_of step) (length wires)) refl did where
      by_test : (b : Bool) → nat_lt (remote_of step) (length wires) ≡ b
          → (if b
          then option_map (λ w. with_wire (link_of step) w wires)
          (moved_wire step (wire_on (link_of step) wires))
          else None) ≡ Some new → AreWires new × (wire_lists new ≡ wire_lists wires)
      by_test false past none = absurd (cc)
      by_test true below some =
          let there = ltb-true (remote_of step) (length wires) below in
          let at = some_map (λ w. with_wire (link_of step) w wires)
          (moved_wire step (wire_on (link_of step) wires)) new some in
          let kept = moved_wire-kept (room_of (link_of step)) step
          (wire_on (link_of step) wires) at.0
          (wire_at wires (remote_of step) (way_of step) are there) at.1 in
          subst (λ now. AreWires now × (wire_lists now ≡ wire_lists wires)) at.2 (
            with_wire-are wires (remote_of step) (way_of step) at.0 are there kept.whole,
            wire_lists-same (link_of step) at.0 wires kept.list,
          )

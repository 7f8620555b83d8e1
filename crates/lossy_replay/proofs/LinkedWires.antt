-- Wherever the items of a schedule lead, the links of the configuration are the lists of the wires.
use Rattle.std.proofs.Common.{◌≡◌, ◌≤◌, ◌<◌, ◌++◌, ℕ, zero, suc, Bool, true, false, if◌then◌else◌}
use Rattle.std.proofs.Common.{List, [], ◌∷◌, length, drop, Option, Some, None, unwrap_or, refl, sym}
use Rattle.std.proofs.Common.{ap, subst, ◌∙◌, arith}
use Rattle.std.specs.Option.{option_map, option_and_then}
use Rattle.rv_base.proofs.Lists.{AllByRecursion-set, AllByRecursion-replicate}
use Rattle.proto_model.specs.Proper.{IsProper}
use Rattle.proto_model.specs.Numbered.{NumberedProtocol}
use Rattle.proto_model.specs.declared.mode.Mode.{Mode}
use Rattle.ordered_links.specs.Link.{Link, Up, Down}
use Rattle.ordered_links.specs.Lists.{LinkPair, with_packets, after_put, after_take}
use Rattle.ordered_links.specs.declared.packet.Packet.{Packet}
use Rattle.async_shape.specs.Setting.{Setting}
use Rattle.async_shape.specs.Config.{Config}
use Rattle.async_shape.specs.Outcome.{Put}
use Rattle.async_shape.specs.Next.{StepOutcome, config_after, outcome, links_put, links_left}
use Rattle.async_shape.specs.Shape.{IsShaped}
use Rattle.async_shape.specs.declared.step.Step.{Step}
use Rattle.async_shape.proofs.EveryStepKeep.{IsShaped-after_step}
use Rattle.async_shape.proofs.PutsHaveRoom.{HasRoomOn, HasRoomFor, put-room}
use Rattle.async_shape.proofs.Start.{IsShaped-start}
use Rattle.faulty_link.specs.Wire.{Wire, WirePair, no_wires, on_wire, wires_at, wire_on, with_wire}
use Rattle.faulty_link.specs.Wire.{wire_lists, room_of}
use Rattle.faulty_link.specs.Whole.{IsWire, IsWirePair, AreWires}
use Rattle.faulty_link.specs.Moves.{wire_after_put, wire_after_take, moved}
use Rattle.faulty_link.specs.declared.net_step.NetStep.{NetStep}
use Rattle.faulty_link.proofs.Lists.{packets_on-wires, wire_lists-with, moved-keeps}
use Rattle.faulty_link.proofs.Pasts.{no_wire-whole}
use Rattle.faulty_link.proofs.PutsAndTakes.{put-whole, put-list, take-whole, take-list}
use Rattle.lossy_replay.specs.declared.items.LossyItem.{LossyItem}
use Rattle.lossy_replay.specs.declared.items.LossyItem.TheVariants.{Takes, Moves}
use Rattle.lossy_replay.specs.Linked.{IsLinked}
use Rattle.lossy_replay.specs.LossyTrace.{LossyRunning, waits, wires_put, wires_left, wires_after}
use Rattle.lossy_replay.specs.LossyTrace.{after_taken, lossy_after, lossy_play}
use Rattle.lossy_replay.specs.LossyTrace.{lossy_start}
use Rattle.schedule_replay.specs.PlayedItems.{state_at_end}
use Rattle.lossy_replay.proofs.WiresAfter.{lists-empty}

-- ---- one wire of many

pair-whole : (wires : List WirePair) (j : ℕ) → AreWires wires → IsWirePair (wires_at wires j)
pair-whole [] j are = record { up = no_wire-whole 2; down = no_wire-whole 3 }
pair-whole (pair ∷ wires) zero are = are.0
pair-whole (pair ∷ wires) (suc j) are = pair-whole wires j are.1

wire-whole : (link : Link) (wires : List WirePair) → AreWires wires
    → IsWire (room_of link) (wire_on link wires)
wire-whole (Up j) wires are = (pair-whole wires j are).up
wire-whole (Down j) wires are = (pair-whole wires j are).down

with-whole : (link : Link) (w : Wire) (wires : List WirePair) → AreWires wires
    → IsWire (room_of link) w → AreWires (with_wire link w wires)
with-whole (Up j) w wires are whole =
    AllByRecursion-set IsWirePair wires j (record (wires_at wires j) { up = w }) are
    (record { up = whole; down = (pair-whole wires j are).down })
with-whole (Down j) w wires are whole =
    AllByRecursion-set IsWirePair wires j (record (wires_at wires j) { down = w }) are
    (record { up = (pair-whole wires j are).up; down = whole })

small-room : (link : Link) → room_of link ≤ 3
small-room (Up j) = omega arith
small-room (Down j) = omega arith

-- these wires are whole, and these are their lists
record AreListed (links : List LinkPair) (wires : List WirePair) : Type 0 where
  are : AreWires wires
  listed : links ≡ wire_lists wires

-- ---- puts, takes and moves

-- where there is room on a link, there is as much on its wire
has-room : (link : Link) (wires : List WirePair) → HasRoomOn (wire_lists wires) link
    → length (on_wire (wire_on link wires)) < room_of link
has-room (Up j) wires has =
    subst (λ packets. length packets < 2) (packets_on-wires (Up j) wires) has.1
has-room (Down j) wires has =
    subst (λ packets. length packets < 3) (packets_on-wires (Down j) wires) has.1

link-put : (link : Link) (packet : Packet) (wires : List WirePair) → AreWires wires
    → HasRoomOn (wire_lists wires) link
    → AreListed (after_put link packet (wire_lists wires))
    (with_wire link (wire_after_put (room_of link) packet (wire_on link wires)) wires)
link-put link packet wires are has =
    let w = wire_on link wires in
    let room = has-room link wires has in
    let whole = wire-whole link wires are in
    record {
      are = with-whole link (wire_after_put (room_of link) packet w) wires are
          (put-whole (room_of link) packet w (small-room link) whole room);
      listed = sym (wire_lists-with link (wire_after_put (room_of link) packet w) wires
          ∙ ap (λ (packets : List Packet). with_packets link packets (wire_lists wires))
          (put-list (room_of link) packet w (small-room link) whole room
          ∙ ap (λ (packets : List Packet). packets ++ packet ∷ [])
          (sym (packets_on-wires link wires))));
    }

put-listed : (put : Option Put) (links : List LinkPair) (wires : List WirePair)
    → AreListed links wires → HasRoomFor links put
    → AreListed (links_put put links) (wires_put put wires)
put-listed None links wires is has = is
put-listed (Some put) links wires is has =
    let put_there = link-put put.on put.packet wires is.are
    (subst (λ (ls : List LinkPair). HasRoomOn ls put.on) is.listed has) in
    record {
      are = put_there.are;
      listed = ap (after_put put.on put.packet) is.listed ∙ put_there.listed;
    }

left-listed : (link : Option Link) (links : List LinkPair) (wires : List WirePair)
    → AreListed links wires → AreListed (links_left link links) (wires_left link wires)
left-listed None links wires is = is
left-listed (Some link) links wires is =
    let w = wire_on link wires in
    let whole = wire-whole link wires is.are in
    record {
      are = with-whole link (wire_after_take w) wires is.are (take-whole (room_of link) w whole);
      listed = ap (after_take link) is.listed
          ∙ sym (wire_lists-with link (wire_after_take w) wires
          ∙ ap (λ (packets : List Packet). with_packets link packets (wire_lists wires))
          (take-list (room_of link) w whole
          ∙ ap (λ (packets : List Packet). drop 1 packets) (sym (packets_on-wires link wires))));
    }

-- ---- items

-- what is kept from item to item
record Keeps (running : LossyRunning) : Type 0 where
  proper : IsProper running.setting.protocol
  shaped : IsShaped running.setting running.config
  linked : IsLinked running

outcome-listed : (setting : Setting) (c : Config) (s : Step) (wires : List WirePair)
    → IsShaped setting c → AreListed c.links wires → (o : Option StepOutcome)
    → outcome setting c s ≡ o
    → AreListed (unwrap_or (option_map (config_after c) o) c).links
    (wires_after (option_and_then (λ o. o.put) o) (option_and_then (λ o. o.takes_from) o) wires)
outcome-listed setting c s wires shaped is None did = is
outcome-listed setting c s wires shaped is (Some o) did =
    left-listed o.takes_from (links_put o.put c.links) (wires_put o.put wires)
    (put-listed o.put c.links wires is (put-room setting c shaped s o did))

taken-keeps : (running : LossyRunning) (s : Step) → Keeps running → Keeps (after_taken running s)
taken-keeps running s keeps =
    let setting = running.setting in
    let c = running.config in
    let is = outcome-listed setting c s running.wires keeps.shaped (record {
      are = keeps.linked.wires;
      listed = keeps.linked.links;
    }) (outcome setting c s) refl in
    record {
      proper = keeps.proper;
      shaped = IsShaped-after_step setting keeps.proper c s keeps.shaped;
      linked = record { wires = is.are; links = is.listed };
    }

step-keeps : (running : LossyRunning) (s : Step) (waiting : Bool) → Keeps running
    → Keeps (if waiting then running else after_taken running s)
step-keeps running s true keeps = keeps
step-keeps running s false keeps = taken-keeps running s keeps

wires-keep : (running : LossyRunning) (m : NetStep) (next : Option (List WirePair)) → Keeps running
    → moved m running.wires ≡ next
    → Keeps (record running { wires = unwrap_or next running.wires })
wires-keep running m None keeps did = keeps
wires-keep running m (Some new) keeps did =
    let kept = moved-keeps m running.wires new keeps.linked.wires did in
    record {
      proper = keeps.proper;
      shaped = keeps.shaped;
      linked = record { wires = kept.0; links = keeps.linked.links ∙ sym kept.1 };
    }

item-keeps : (running : LossyRunning) (item : LossyItem) → Keeps running
    → Keeps (lossy_after running item)
item-keeps running (Takes s) keeps = step-keeps running s (waits running s) keeps
item-keeps running (Moves m) keeps =
    wires-keep running m (moved m running.wires) keeps refl

items-linked : (running : LossyRunning) (items : List LossyItem) → Keeps running
    → IsLinked (state_at_end lossy_play running items)
items-linked running [] keeps = keeps.linked
items-linked running (item ∷ items) keeps =
    items-linked (lossy_after running item) items (item-keeps running item keeps)

-- From the start on.
pub always-linked : (protocol : NumberedProtocol) (mode : Mode) (n k : ℕ) → IsProper protocol
    → 1 ≤ n → n ≤ 64 → 2 ≤ k → k ≤ 64 → (items : List LossyItem)
    → IsLinked (state_at_end lossy_play (lossy_start protocol mode n k) items)
always-linked protocol mode n k proper some few two most items =
    items-linked (lossy_start protocol mode n k) items (record {
      proper = proper;
      shaped = IsShaped-start (record { protocol = protocol; mode = mode; slots = k }) n proper some
          few two most;
      linked = record {
        wires = AllByRecursion-replicate IsWirePair n no_wires
            (record { up = no_wire-whole 2; down = no_wire-whole 3 });
        links = sym (lists-empty n);
      };
    })

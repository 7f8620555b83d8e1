-- Whatever becomes of a wire, it is whole, and what was handed over and what is on it are what was
-- put.
use Rattle.std.proofs.Common.{◌≡◌, ℕ, ◌≤◌, Bool, true, false, nat_lt, List, [], ◌∷◌}
use Rattle.std.proofs.Common.{◌++◌, length, take, if◌then◌else◌, Some, None, Option, refl}
use Rattle.std.proofs.Common.{sym}
use Rattle.std.proofs.Common.{ap, ◌∙◌, arith, append_assoc, take-append-drop}
use Rattle.std.proofs.lemmas.Bool.{ltb-true}
use Rattle.ordered_links.specs.Link.{Link, Up, Down}
use Rattle.ordered_links.specs.declared.packet.Packet.{Packet}
use Rattle.faulty_link.specs.Wire.{Wire, no_wire, waiting_packets, on_wire, room_of}
use Rattle.faulty_link.specs.Moves.{wire_after_put, wire_after_take, resend, lose, copy, pass}
use Rattle.faulty_link.specs.Pasts.{Act, Puts, Takes, Resends, Loses, Copies, Passes, Past, no_past}
use Rattle.faulty_link.specs.Pasts.{handed_from, past_moved, past_with, past_after, KeepsOrder}
use Rattle.faulty_link.specs.Whole.{IsWire}
use Rattle.faulty_link.proofs.PutsAndTakes.{put-whole, put-list, take-whole, take-list}
use Rattle.faulty_link.proofs.MovesKeep.{IsKept, resend-kept, lose-kept, copy-kept, passed-kept}

-- The wire is whole, and what was handed over and what is on it are what was put.
record IsSound (room : ℕ) (past : Past) : Type 0 where
  whole : IsWire room past.wire
  order : KeepsOrder past

-- A take hands over the first packet.
handed_from-first : (inbox waiting : List Packet)
    → handed_from inbox waiting ≡ take 1 (inbox ++ waiting)
handed_from-first (first ∷ inbox) waiting = refl
handed_from-first [] waiting = refl

moved-sound : (room : ℕ) (past : Past) (now : Option Wire) → IsSound room past
    → ((v : Wire) → now ≡ Some v → IsKept room past.wire v) → IsSound room (past_moved past now)
moved-sound room past None sound keeps = sound
moved-sound room past (Some v) sound keeps =
    let kept = keeps v refl in
    record {
      whole = kept.whole;
      order = ap (λ packets. past.handed ++ packets) kept.list ∙ sound.order;
    }

put-sound : (room : ℕ) (past : Past) (packet : Packet) (has_room : Bool) → room ≤ 3
    → nat_lt (length (on_wire past.wire)) room ≡ has_room → IsSound room past
    → IsSound room (if has_room
    then record {
      wire = wire_after_put room packet past.wire;
      put = past.put ++ packet ∷ [];
      handed = past.handed;
    }
    else past)
put-sound room past packet true small has_room sound =
    let below = ltb-true (length (on_wire past.wire)) room has_room in
    record {
      whole = put-whole room packet past.wire small sound.whole below;
      order =
          ap (λ packets. past.handed ++ packets) (put-list room packet past.wire small sound.whole
          below)
          ∙ sym (append_assoc past.handed (on_wire past.wire) (packet ∷ []))
          ∙ ap (λ packets. packets ++ packet ∷ []) sound.order;
    }
put-sound room past packet false small full sound = sound

take-sound : (room : ℕ) (past : Past) → IsSound room past → IsSound room (past_with room past Takes)
take-sound room past sound = record {
  whole = take-whole room past.wire sound.whole;
  order =
      let first = handed_from-first past.wire.inbox (waiting_packets past.wire) in
      let rest = take-list room past.wire sound.whole in
      let handed = handed_from past.wire.inbox (waiting_packets past.wire) in
      append_assoc past.handed handed (on_wire (wire_after_take past.wire))
      ∙ ap (λ packets. past.handed ++ packets)
      (ap (λ front. front ++ on_wire (wire_after_take past.wire)) first
      ∙ ap (λ packets. take 1 (on_wire past.wire) ++ packets) rest
      ∙ take-append-drop 1 (on_wire past.wire))
      ∙ sound.order;
}

with-sound : (room : ℕ) (past : Past) (act : Act) → room ≤ 3 → IsSound room past
    → IsSound room (past_with room past act)
with-sound room past (Puts packet) small sound =
    put-sound room past packet (nat_lt (length (on_wire past.wire)) room) small refl sound
with-sound room past Takes small sound = take-sound room past sound
with-sound room past (Resends place) small sound =
    moved-sound room past (resend place past.wire) sound
    (λ v did. resend-kept room place past.wire v sound.whole did)
with-sound room past (Loses place) small sound =
    moved-sound room past (lose place past.wire) sound
    (λ v did. lose-kept room place past.wire v sound.whole did)
with-sound room past (Copies place) small sound =
    moved-sound room past (copy place past.wire) sound
    (λ v did. copy-kept room place past.wire v sound.whole did)
with-sound room past (Passes place) small sound =
    moved-sound room past (pass place past.wire) sound
    (λ v did. passed-kept room place past.wire v sound.whole did)

after-sound : (room : ℕ) (past : Past) (acts : List Act) → room ≤ 3 → IsSound room past
    → IsSound room (past_after room past acts)
after-sound room past [] small sound = sound
after-sound room past (act ∷ acts) small sound =
    after-sound room (past_with room past act) acts small (with-sound room past act small sound)

-- A wire on which nothing was put is whole.
pub no_wire-whole : (room : ℕ) → IsWire room no_wire
no_wire-whole room = record {
  got_of_put = omega arith;
  window = omega arith;
  waiting = omega arith;
  fits = omega arith;
  frames = tt;
  few = omega arith;
  numbers = omega arith;
}

room_of-small : (link : Link) → room_of link ≤ 3
room_of-small (Up j) = omega arith
room_of-small (Down j) = omega arith

pub no_past-whole : (link : Link) (acts : List Act)
    → IsWire (room_of link) (past_after (room_of link) no_past acts).wire
no_past-whole link acts =
    (after-sound (room_of link) no_past acts (room_of-small link)
    (record { whole = no_wire-whole (room_of link); order = refl })).whole

pub no_past-order : (link : Link) (acts : List Act)
    → KeepsOrder (past_after (room_of link) no_past acts)
no_past-order link acts =
    (after-sound (room_of link) no_past acts (room_of-small link)
    (record { whole = no_wire-whole (room_of link); order = refl })).order

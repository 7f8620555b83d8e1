-- What the code keeps of a wire after each call: where it stores what the definitions say, the wire
-- is whole, and its parts have the room that they need.
use Rattle.std.proofs.Common.{◌≡◌, ◌≢◌, ℕ, ◌+◌, ◌-◌, ◌^◌, ◌<◌, ◌≤◌, List, [], ◌∷◌, ◌++◌, length}
use Rattle.std.proofs.Common.{drop}
use Rattle.std.proofs.Common.{Some, None, slice_get, Bool, true, false, refl, sym, ap, ◌∙◌, subst}
use Rattle.std.proofs.Common.{arith, length-append, drop-drop}
use Rattle.std.proofs.lemmas.Bool.{eq-eqb, ne_eqb}
use Rattle.std.proofs.lemmas.Option.{slice_get_past}
use Rattle.std.specs.List.{remove}
use Rattle.rv_base.proofs.Lists.{AllByRecursion-at}
use Rattle.circular_buffer.specs.Buffer.{Buffer, buffer, keep_last}
use Rattle.circular_buffer.proofs.Places.{slice_get-append_left, slice_get-append_right}
use Rattle.ordered_links.specs.declared.packet.Packet.{Packet}
use Rattle.faulty_link.specs.Fitted.{Fitted, IsFitted}
use Rattle.faulty_link.specs.Wire.{Wire, last_of, waiting_packets, on_wire}
use Rattle.faulty_link.specs.Moves.{frame_of, onto_flight, restarted, with_number, without_frame}
use Rattle.faulty_link.specs.Moves.{pass, moved_wire, IsAnswered}
use Rattle.faulty_link.specs.Whole.{IsFrame, IsWire}
use Rattle.faulty_link.specs.declared.frame.Frame.{Frame}
use Rattle.faulty_link.specs.declared.net_step.NetStep.{NetStep}
use Rattle.faulty_link.proofs.LastOf.{last_of-at}
use Rattle.faulty_link.proofs.PutsAndTakes.{on_wire-length, numbered_put-whole, with_number-whole}
use Rattle.faulty_link.proofs.MovesKeep.{IsKept, moved_wire-kept, pass_next-kept}

-- One more packet is gone from the front of the window.
pub dropped-more : (start : Buffer Packet) {old new : Buffer Packet} (count : ℕ)
    → old ≡ buffer (drop count start.items) start.capacity
    → new ≡ buffer (drop 1 old.items) old.capacity
    → new ≡ buffer (drop (count + 1) start.items) start.capacity
dropped-more start count so_far pops =
    pops ∙ ap (λ ring. buffer (drop 1 ring.items) ring.capacity) so_far
    ∙ ap (λ packets. buffer packets start.capacity) (drop-drop 1 count start.items)

-- A wire with another flight, which is whole.
pub fitted-flight : {fitted : Fitted} {inbox_room flight_room now_room : ℕ}
    {flight now : List Frame} → IsFitted fitted inbox_room flight_room → 8 ≤ now_room
    → now ≡ flight → IsKept fitted.room fitted.wire (record fitted.wire { flight = flight })
    → IsFitted (record { room = fitted.room; wire = record fitted.wire { flight = now } })
    inbox_room now_room
fitted-flight {fitted} is room same kept = record {
  most = is.most;
  inbox = is.inbox;
  flight = room;
  whole = subst (λ flight. IsWire fitted.room (record fitted.wire { flight = flight })) (sym same)
      kept.whole;
}

-- ---- pass

-- The inbox has room for one more packet, as long as one waits to be received.
inbox-more : (room inbox_room got put : ℕ) (inbox : List Packet) (packet : Packet)
    → inbox_room ≡ room → length inbox + (put - got) ≤ room → got < put
    → keep_last inbox_room (inbox ++ packet ∷ []) ≡ inbox ++ packet ∷ []
inbox-more room inbox_room got put inbox packet same fits more =
    let long = length-append inbox (packet ∷ []) in
    let none : length (inbox ++ packet ∷ []) - inbox_room ≡ 0 =
    omega (arith, same, fits, long, more) in
    ap (λ k. drop k (inbox ++ packet ∷ [])) none

-- The inbox after the packet of a frame with the number of the next one has come.
pub inbox-received : {fitted : Fitted} {inbox_room flight_room : ℕ} {inbox : Buffer Packet}
    (place : ℕ) (frame : Frame) → IsFitted fitted inbox_room flight_room
    → slice_get fitted.wire.flight place ≡ Some frame → frame.number ≡ fitted.wire.got
    → inbox ≡ buffer (keep_last inbox_room (fitted.wire.inbox ++ frame.packet ∷ [])) inbox_room
    → inbox ≡ buffer (fitted.wire.inbox ++ frame.packet ∷ []) inbox_room
inbox-received {fitted} {inbox_room} place frame is at same pushed =
    let whole = is.whole in
    let put = (AllByRecursion-at (IsFrame fitted.wire) fitted.wire.flight place frame whole.frames
    at).was_put in
    pushed
    ∙ ap (λ packets. buffer packets inbox_room)
    (inbox-more fitted.room inbox_room fitted.wire.got fitted.wire.put fitted.wire.inbox
    frame.packet is.inbox whole.fits (omega (arith, put, same)))

-- The wire after a frame was received.
pub passed-fitted : {fitted : Fitted} {inbox_room flight_room now_room : ℕ}
    {inbox : Buffer Packet} {flight : List Frame} (place : ℕ) (frame : Frame)
    → IsFitted fitted inbox_room flight_room
    → slice_get fitted.wire.flight place ≡ Some frame → frame.number ≡ fitted.wire.got
    → inbox ≡ buffer (fitted.wire.inbox ++ frame.packet ∷ []) inbox_room
    → 8 ≤ now_room → flight ≡ remove fitted.wire.flight place
    → IsFitted (record {
      room = fitted.room;
      wire = record {
        put = fitted.wire.put;
        got = fitted.wire.got + 1;
        window = fitted.wire.window;
        inbox = inbox.items;
        flight = flight;
      };
    }) inbox.capacity now_room
passed-fitted {fitted} {flight = flight} place frame is at same comes room left =
    record {
      most = is.most;
      inbox = ap (λ ring. ring.capacity) comes ∙ is.inbox;
      flight = room;
      whole =
          subst (λ packets. IsWire fitted.room (record {
            put = fitted.wire.put;
            got = fitted.wire.got + 1;
            window = fitted.wire.window;
            inbox = packets;
            flight = flight;
          })) (sym (ap (λ ring. ring.items) comes))
          (subst (λ frames. IsWire fitted.room (record {
            put = fitted.wire.put;
            got = fitted.wire.got + 1;
            window = fitted.wire.window;
            inbox = fitted.wire.inbox ++ frame.packet ∷ [];
            flight = frames;
          })) (sym left)
          (pass_next-kept fitted.room fitted.wire place frame is.whole at same).whole);
    }

-- What passing a frame gives, by whether it has the number of the next packet.
pub pass-next : (place : ℕ) (w : Wire) (frame : Frame) → slice_get w.flight place ≡ Some frame
    → frame.number ≡ w.got
    → pass place w ≡ Some (record (without_frame place w) {
      got = w.got + 1;
      inbox = w.inbox ++ frame.packet ∷ [];
    })
pass-next place w frame at same = rw (at, eq-eqb frame.number w.got same) refl

pub pass-other : (place : ℕ) (w : Wire) (frame : Frame) → slice_get w.flight place ≡ Some frame
    → frame.number ≢ w.got → pass place w ≡ Some (without_frame place w)
pass-other place w frame at differs = rw (at, ne_eqb frame.number w.got differs) refl

-- ---- put

-- Where the numbers are at their end they start again, and else they go on.
pub with_number-last : (w : Wire) → w.put ≡ 2 ^ 64 - 1 → with_number w ≡ restarted w
with_number-last w last = rw (eq-eqb w.put (2 ^ 64 - 1) last) refl

pub with_number-other : (w : Wire) → w.put ≢ 2 ^ 64 - 1 → with_number w ≡ w
with_number-other w other = rw (ne_eqb w.put (2 ^ 64 - 1) other) refl

-- The wire after its numbers have started again.
pub restarted-fitted : {fitted : Fitted} {inbox_room flight_room now_room : ℕ}
    {window : Buffer Packet} {flight : List Frame} {put : ℕ}
    → IsFitted fitted inbox_room flight_room → fitted.wire.put ≡ 2 ^ 64 - 1
    → put ≡ fitted.wire.put - fitted.wire.got
    → window ≡ buffer (last_of put fitted.wire.window) fitted.room
    → 8 ≤ now_room → flight ≡ []
    → IsFitted (record {
      room = window.capacity;
      wire = record {
        put = put;
        got = 0;
        window = window.items;
        inbox = fitted.wire.inbox;
        flight = flight;
      };
    }) inbox_room now_room
restarted-fitted {fitted} is last waits left room none =
    let whole = subst (IsWire fitted.room) (with_number-last fitted.wire last)
    (with_number-whole fitted.room fitted.wire is.most is.whole) in
    rw (left, none, waits) (record {
      most = is.most;
      inbox = is.inbox;
      flight = room;
      whole = whole;
    })

-- The wire after a put.
pub put-fitted : {fitted : Fitted} {inbox_room flight_room now_room : ℕ}
    {window : Buffer Packet} {flight : List Frame} (packet : Packet)
    → IsFitted fitted inbox_room flight_room → length (on_wire fitted.wire) < fitted.room
    → fitted.wire.put < 2 ^ 64 - 1
    → window ≡ buffer (keep_last fitted.room (fitted.wire.window ++ packet ∷ [])) fitted.room
    → 8 ≤ now_room → flight ≡ onto_flight fitted.wire.flight (frame_of fitted.wire.put packet)
    → IsFitted (record {
      room = window.capacity;
      wire = record {
        put = fitted.wire.put + 1;
        got = fitted.wire.got;
        window = window.items;
        inbox = fitted.wire.inbox;
        flight = flight;
      };
    }) inbox_room now_room
put-fitted {fitted} packet is has_room number pushed room sent_on =
    rw (pushed, sent_on) (record {
      most = is.most;
      inbox = is.inbox;
      flight = room;
      whole = numbered_put-whole fitted.room packet fitted.wire is.whole has_room number;
    })

-- ---- packets and moves

pub on_wire-inbox : (w : Wire) (place : ℕ) → place < length w.inbox
    → slice_get (on_wire w) place ≡ slice_get w.inbox place
on_wire-inbox w place within = slice_get-append_left w.inbox (waiting_packets w) place within

-- A packet behind those in the inbox is one of the window.
pub on_wire-window : (w : Wire) (place behind : ℕ) → place ≡ length w.inbox + behind
    → slice_get (on_wire w) place
    ≡ slice_get w.window (length w.window - (w.put - w.got) + behind)
on_wire-window w place behind is =
    slice_get-append_right w.inbox (waiting_packets w) place behind is
    ∙ last_of-at (w.put - w.got) w.window behind

-- There are no more packets than wait.
pub on_wire-past : (room : ℕ) (w : Wire) (place : ℕ) → IsWire room w
    → length w.inbox + (w.put - w.got) ≤ place → slice_get (on_wire w) place ≡ None
on_wire-past room w place whole past =
    let count = on_wire-length room w whole in
    slice_get_past (on_wire w) place (omega (arith, count, past))

-- A move that was made or refused left the packets.
pub answered-list : (room : ℕ) (step : NetStep) (answer : Bool) (w v : Wire) → IsWire room w
    → IsAnswered answer w v (moved_wire step w) → on_wire v ≡ on_wire w
answered-list room step true w v whole made = (moved_wire-kept room step w v whole made).list
answered-list room step false w v whole refused = ap on_wire refused.1

-- A put and a take leave a wire whole, and do to its packets what they do to those of a link.
use Rattle.std.proofs.Common.{◌≡◌, ℕ, ◌+◌, ◌-◌, ◌^◌, ◌<◌, ◌≤◌, min, Bool, true, false, List, []}
use Rattle.std.proofs.Common.{◌∷◌, ◌++◌, length, drop, if◌then◌else◌, ◌==◌, slice_get, refl}
use Rattle.std.proofs.Common.{sym, ap, ◌∙◌, subst, arith, length-append, length-drop, append_assoc}
use Rattle.std.proofs.lemmas.Bool.{eqb-false}
use Rattle.std.proofs.lemmas.Option.{slice_get_within}
use Rattle.circular_buffer.proofs.Places.{slice_get-append_left, slice_get-last}
use Rattle.rv_base.proofs.Lists.{AllByRecursion-weaker}
use Rattle.ordered_links.specs.declared.packet.Packet.{Packet}
use Rattle.faulty_link.specs.Wire.{Wire, last_of, waiting_packets, on_wire}
use Rattle.faulty_link.specs.Moves.{frame_of, restarted, with_number}
use Rattle.faulty_link.specs.Moves.{numbered_put, wire_after_put, taken_from, wire_after_take}
use Rattle.faulty_link.specs.Whole.{IsCopyOf, IsFrame, IsWire}
use Rattle.faulty_link.specs.declared.frame.Frame.{Frame}
use Rattle.faulty_link.proofs.LastOf.{last_of-length, last_of-push, last_of-last_of, last_of-rest}
use Rattle.faulty_link.proofs.LastOf.{last_of-at}
use Rattle.faulty_link.proofs.Flights.{onto_flight-each, onto_flight-few}

-- How many packets are on a wire.
pub on_wire-length : (room : ℕ) (w : Wire) → IsWire room w
    → length (on_wire w) ≡ length w.inbox + (w.put - w.got)
on_wire-length room w whole =
    let waiting = last_of-length (w.put - w.got) w.window whole.waiting in
    let both = length-append w.inbox (waiting_packets w) in
    omega (arith, waiting, both)

-- ---- frames

copy-later : (w v : Wire) (frame : Frame) (place : ℕ) → v.put ≡ w.put → v.window ≡ w.window
    → IsCopyOf w frame place → IsCopyOf v frame place
copy-later w v frame place put window is = record {
  number = rw (put, window) is.number;
  packet = rw window is.packet;
}

-- A frame stays one of the same packets, where no fewer were received.
pub IsFrame-later : (w v : Wire) (frame : Frame) → v.put ≡ w.put → v.window ≡ w.window
    → w.got ≤ v.got → IsFrame w frame → IsFrame v frame
IsFrame-later w v frame put window later is =
    let was_put = is.was_put in
    record {
      was_put = omega (arith, was_put, put);
      in_window = λ (next : v.got ≤ frame.number).
          let at = is.in_window (omega (arith, later, next)) in
          (at.0, copy-later w v frame at.0 put window at.1);
    }

-- The window after one more packet was put.
window-length : (room : ℕ) (packet : Packet) (w : Wire) → IsWire room w → 0 < room
    → length (last_of room (w.window ++ packet ∷ [])) ≡ min (w.put + 1) room
window-length room packet w whole some =
    let long = length-append w.window (packet ∷ []) in
    let left = length-drop (length (w.window ++ packet ∷ []) - room) (w.window ++ packet ∷ []) in
    let all = whole.window in
    omega (arith, long, left, all)

-- A frame stays one of a packet that was put, and keeps its packet as long as that isn't received.
IsFrame-put : (room : ℕ) (packet : Packet) (w : Wire) (frame : Frame) → IsWire room w
    → length w.inbox + (w.put - w.got) < room → IsFrame w frame
    → IsFrame (numbered_put room packet w) frame
IsFrame-put room packet w frame whole fits is =
    let was_put = is.was_put in
    record {
      was_put = omega (arith, was_put);
      in_window = λ (next : w.got ≤ frame.number).
          let at = is.in_window next in
          let number = at.1.number in
          let within = slice_get_within w.window at.0 frame.packet at.1.packet in
          let all = whole.window in
          let long = length-append w.window (packet ∷ []) in
          let now = window-length room packet w whole (omega (arith, fits)) in
          let more = length (w.window ++ packet ∷ []) - room in
          let back : more + (at.0 - more) ≡ at.0 =
          omega (arith, number, within, all, long, next, fits) in (
            at.0 - more,
            record {
              number = omega (arith, number, within, all, long, now, next, fits);
              packet =
                  last_of-at room (w.window ++ packet ∷ []) (at.0 - more)
                  ∙ ap (slice_get (w.window ++ packet ∷ [])) back
                  ∙ slice_get-append_left w.window (packet ∷ []) at.0 within
                  ∙ at.1.packet;
            },
          );
    }

-- The frame of the packet that is put is one.
IsFrame-new : (room : ℕ) (packet : Packet) (w : Wire) → IsWire room w → 0 < room
    → IsFrame (numbered_put room packet w) (frame_of w.put packet)
IsFrame-new room packet w whole some =
    let all = whole.window in
    let long = length-append w.window (packet ∷ []) in
    let now = window-length room packet w whole some in
    let place = min (w.put + 1) room - 1 in
    let last : length (w.window ++ packet ∷ []) - room + place ≡ length w.window =
    omega (arith, all, long, some) in
    record {
      was_put = omega arith;
      in_window = λ _. (
        place,
        record {
          number = omega (arith, all, long, now, some);
          packet =
              last_of-at room (w.window ++ packet ∷ []) place
              ∙ slice_get-last w.window packet _ last;
        },
      );
    }

-- ---- put

pub numbered_put-whole : (room : ℕ) (packet : Packet) (w : Wire) → IsWire room w
    → length (on_wire w) < room → w.put < 2 ^ 64 - 1 → IsWire room (numbered_put room packet w)
numbered_put-whole room packet w whole has_room more =
    let count = on_wire-length room w whole in
    let fits : length w.inbox + (w.put - w.got) < room = omega (arith, count, has_room) in
    let some : 0 < room = omega (arith, fits) in
    let now = window-length room packet w whole some in
    let got_of_put = whole.got_of_put in
    record {
      got_of_put = omega (arith, got_of_put);
      window = now;
      waiting = omega (arith, now, fits, got_of_put);
      fits = omega (arith, fits, got_of_put);
      frames = onto_flight-each (IsFrame (numbered_put room packet w)) w.flight
          (frame_of w.put packet)
          (AllByRecursion-weaker (IsFrame w) (IsFrame (numbered_put room packet w)) w.flight
          (λ frame is. IsFrame-put room packet w frame whole fits is) whole.frames)
          whole.few (IsFrame-new room packet w whole some);
      few = onto_flight-few w.flight (frame_of w.put packet) whole.few;
      numbers = omega (arith, more);
    }

pub numbered_put-list : (room : ℕ) (packet : Packet) (w : Wire) → IsWire room w
    → length (on_wire w) < room → on_wire (numbered_put room packet w) ≡ on_wire w ++ packet ∷ []
numbered_put-list room packet w whole has_room =
    let count = on_wire-length room w whole in
    let got_of_put = whole.got_of_put in
    let fits : w.put - w.got + 1 ≤ room = omega (arith, count, has_room) in
    let more : w.put + 1 - w.got ≡ w.put - w.got + 1 = omega (arith, got_of_put) in
    let waiting : last_of (w.put + 1 - w.got) (last_of room (w.window ++ packet ∷ []))
    ≡ waiting_packets w ++ packet ∷ [] =
    ap (λ n. last_of n (last_of room (w.window ++ packet ∷ []))) more
    ∙ last_of-last_of (w.put - w.got + 1) room (w.window ++ packet ∷ []) fits
    ∙ last_of-push (w.put - w.got) w.window packet whole.waiting in
    ap (λ packets. w.inbox ++ packets) waiting
    ∙ sym (append_assoc w.inbox (waiting_packets w) (packet ∷ []))

-- A wire has a number for the next put, and the same packets.
record IsReady (room : ℕ) (w v : Wire) : Type 0 where
  whole : IsWire room v
  number : v.put < 2 ^ 64 - 1
  list : on_wire v ≡ on_wire w

restarted-ready : (room : ℕ) (w : Wire) → room ≤ 3 → IsWire room w → IsReady room w (restarted w)
restarted-ready room w small whole =
    let waiting = last_of-length (w.put - w.got) w.window whole.waiting in
    let fits = whole.fits in
    let same : w.put - w.got - 0 ≡ w.put - w.got = omega arith in
    record {
      whole = record {
        got_of_put = omega arith;
        window = omega (arith, waiting, fits);
        waiting = omega (arith, waiting);
        fits = omega (arith, fits);
        frames = tt;
        few = omega arith;
        numbers = omega (arith, fits, small);
      };
      number = omega (arith, fits, small);
      list = ap (λ packets. w.inbox ++ packets)
          (ap (λ n. last_of n (waiting_packets w)) same
          ∙ last_of-last_of (w.put - w.got) (w.put - w.got) w.window (omega arith));
    }

ready-if : (room : ℕ) (w : Wire) (last : Bool) → (w.put == 2 ^ 64 - 1) ≡ last → room ≤ 3
    → IsWire room w → IsReady room w (if last then restarted w else w)
ready-if room w true last small whole = restarted-ready room w small whole
ready-if room w false not_last small whole =
    let differs = eqb-false w.put (2 ^ 64 - 1) not_last in
    let numbers = whole.numbers in
    record {
      whole = whole;
      number = below w.put (2 ^ 64 - 1) (omega (arith, numbers)) differs;
      list = refl;
    } where
      below : (n m : ℕ) → n ≤ m → (n ≡ m → ⊥) → n < m
      below n m most differs = omega (arith, most, differs)

with_number-ready : (room : ℕ) (w : Wire) → room ≤ 3 → IsWire room w
    → IsReady room w (with_number w)
with_number-ready room w small whole =
    ready-if room w (w.put == 2 ^ 64 - 1) refl small whole

pub with_number-whole : (room : ℕ) (w : Wire) → room ≤ 3 → IsWire room w
    → IsWire room (with_number w)
with_number-whole room w small whole = (with_number-ready room w small whole).whole

pub with_number-number : (room : ℕ) (w : Wire) → room ≤ 3 → IsWire room w
    → (with_number w).put < 2 ^ 64 - 1
with_number-number room w small whole = (with_number-ready room w small whole).number

pub with_number-list : (room : ℕ) (w : Wire) → room ≤ 3 → IsWire room w
    → on_wire (with_number w) ≡ on_wire w
with_number-list room w small whole = (with_number-ready room w small whole).list

has_room-ready : (room : ℕ) (w v : Wire) → IsReady room w v → length (on_wire w) < room
    → length (on_wire v) < room
has_room-ready room w v ready has_room =
    subst (λ packets. length packets < room) (sym ready.list) has_room

pub put-whole : (room : ℕ) (packet : Packet) (w : Wire) → room ≤ 3 → IsWire room w
    → length (on_wire w) < room → IsWire room (wire_after_put room packet w)
put-whole room packet w small whole has_room =
    let ready = with_number-ready room w small whole in
    numbered_put-whole room packet (with_number w) ready.whole
    (has_room-ready room w (with_number w) ready has_room) ready.number

-- A put appends its packet.
pub put-list : (room : ℕ) (packet : Packet) (w : Wire) → room ≤ 3 → IsWire room w
    → length (on_wire w) < room
    → on_wire (wire_after_put room packet w) ≡ on_wire w ++ packet ∷ []
put-list room packet w small whole has_room =
    let ready = with_number-ready room w small whole in
    numbered_put-list room packet (with_number w) ready.whole
    (has_room-ready room w (with_number w) ready has_room)
    ∙ ap (λ packets. packets ++ packet ∷ []) ready.list

-- ---- take

-- A wire on which one more packet was received is whole, where one was there to receive.
pub got_more-whole : (room : ℕ) (w : Wire) (inbox : List Packet) → IsWire room w
    → w.got < w.put → length inbox ≤ length w.inbox + 1
    → IsWire room (record w { got = w.got + 1; inbox = inbox })
got_more-whole room w inbox whole more one =
    let waiting = whole.waiting in
    let fits = whole.fits in
    record {
      got_of_put = omega (arith, more);
      window = whole.window;
      waiting = omega (arith, waiting);
      fits = omega (arith, fits, more, one);
      frames = AllByRecursion-weaker (IsFrame w)
          (IsFrame (record w { got = w.got + 1; inbox = inbox })) w.flight
          (λ frame is. IsFrame-later w (record w { got = w.got + 1; inbox = inbox }) frame refl
          refl (omega arith) is) whole.frames;
      few = whole.few;
      numbers = whole.numbers;
    }

taken_from-whole : (room : ℕ) (w : Wire) (inbox waiting : List Packet) → IsWire room w
    → w.inbox ≡ inbox → waiting_packets w ≡ waiting → IsWire room (taken_from inbox waiting w)
taken_from-whole room w (first ∷ inbox) waiting whole is_inbox is_waiting =
    let count = ap length is_inbox in
    let fits = whole.fits in
    record {
      got_of_put = whole.got_of_put;
      window = whole.window;
      waiting = whole.waiting;
      fits = omega (arith, fits, count);
      frames = AllByRecursion-weaker (IsFrame w) (IsFrame (record w { inbox = inbox })) w.flight
          (λ frame is. IsFrame-later w (record w { inbox = inbox }) frame refl refl (omega arith)
          is) whole.frames;
      few = whole.few;
      numbers = whole.numbers;
    }
taken_from-whole room w [] (oldest ∷ waiting) whole is_inbox is_waiting =
    let count = ap length is_waiting in
    let waits = last_of-length (w.put - w.got) w.window whole.waiting in
    got_more-whole room w w.inbox whole (omega (arith, count, waits)) (omega arith)
taken_from-whole room w [] [] whole is_inbox is_waiting = whole

taken_from-list : (room : ℕ) (w : Wire) (inbox waiting : List Packet) → IsWire room w
    → w.inbox ≡ inbox → waiting_packets w ≡ waiting
    → on_wire (taken_from inbox waiting w) ≡ drop 1 (on_wire w)
taken_from-list room w (first ∷ inbox) waiting whole is_inbox is_waiting =
    ap (λ packets. drop 1 (packets ++ waiting_packets w)) (sym is_inbox)
taken_from-list room w [] (oldest ∷ waiting) whole is_inbox is_waiting =
    let count = ap length is_waiting in
    let waits = last_of-length (w.put - w.got) w.window whole.waiting in
    let most = whole.waiting in
    let rest = w.put - (w.got + 1) in
    let one : w.put - w.got ≡ rest + 1 = omega (arith, count, waits) in
    ap (λ packets. packets ++ last_of rest w.window) is_inbox
    ∙ sym (last_of-rest rest w.window (omega (arith, one, most)))
    ∙ ap (λ n. drop 1 (last_of n w.window)) (sym one)
    ∙ ap (λ packets. drop 1 (packets ++ waiting_packets w)) (sym is_inbox)
taken_from-list room w [] [] whole is_inbox is_waiting =
    ap (λ packets. packets ++ waiting_packets w) is_inbox ∙ is_waiting
    ∙ ap (drop 1) (sym (ap (λ packets. packets ++ waiting_packets w) is_inbox ∙ is_waiting))

pub take-whole : (room : ℕ) (w : Wire) → IsWire room w → IsWire room (wire_after_take w)
take-whole room w whole = taken_from-whole room w w.inbox (waiting_packets w) whole refl refl

-- A take removes the first packet.
pub take-list : (room : ℕ) (w : Wire) → IsWire room w
    → on_wire (wire_after_take w) ≡ drop 1 (on_wire w)
take-list room w whole = taken_from-list room w w.inbox (waiting_packets w) whole refl refl

-- A move of the network leaves a wire whole, and changes none of its packets.
use Rattle.std.proofs.Common.{◌≡◌, ◌≢◌, ℕ, ◌+◌, ◌-◌, ◌<◌, ◌≤◌, Bool, true, false, List, [], ◌∷◌}
use Rattle.std.proofs.Common.{◌++◌, length, drop, if◌then◌else◌, ◌==◌, Some, slice_get, refl, sym}
use Rattle.std.proofs.Common.{ap}
use Rattle.std.proofs.Common.{◌∙◌, subst, arith, length-append, append_assoc}
use Rattle.std.proofs.lemmas.Bool.{eqb-true, eq-eqb, ne_eqb}
use Rattle.std.proofs.lemmas.Option.{slice_get_within}
use Rattle.std.specs.List.{AllByRecursion}
use Rattle.rv_base.proofs.Lists.{AllByRecursion-at, AllByRecursion-weaker, some_map}
use Rattle.ordered_links.specs.declared.packet.Packet.{Packet}
use Rattle.ordered_links.specs.Lists.{first_packet}
use Rattle.faulty_link.specs.Wire.{Wire, last_of, waiting_packets, on_wire}
use Rattle.faulty_link.specs.Moves.{frame_of, number_at, sent, without_frame, received, resend}
use Rattle.faulty_link.specs.Moves.{lose}
use Rattle.faulty_link.specs.Moves.{copy, pass, moved_wire}
use Rattle.faulty_link.specs.Receiving.{IsReceivedRight}
use Rattle.faulty_link.specs.Whole.{IsFrame, IsWire}
use Rattle.faulty_link.specs.declared.frame.Frame.{Frame}
use Rattle.faulty_link.specs.declared.net_step.NetStep.{NetStep}
use Rattle.faulty_link.specs.declared.net_step.NetStep.TheVariants as net
use Rattle.faulty_link.proofs.LastOf.{drop-at}
use Rattle.faulty_link.proofs.Flights.{AllByRecursion-remove, remove-few, onto_flight-each}
use Rattle.faulty_link.proofs.Flights.{onto_flight-few}
use Rattle.faulty_link.proofs.PutsAndTakes.{IsFrame-later, got_more-whole}

-- A wire after a move: it is whole, and has the packets that it had.
pub record IsKept (room : ℕ) (w v : Wire) : Type 0 where
  pub whole : IsWire room v
  pub list : on_wire v ≡ on_wire w

-- a whole wire with another flight
other_flight : (room : ℕ) (w : Wire) (flight : List Frame) → IsWire room w
    → AllByRecursion (IsFrame w) flight → length flight ≤ 8
    → IsKept room w (record w { flight = flight })
other_flight room w flight whole frames few = record {
  whole = record {
    got_of_put = whole.got_of_put;
    window = whole.window;
    waiting = whole.waiting;
    fits = whole.fits;
    frames = AllByRecursion-weaker (IsFrame w) (IsFrame (record w { flight = flight })) flight
        (λ frame is. IsFrame-later w (record w { flight = flight }) frame refl refl (omega arith)
        is) frames;
    few = few;
    numbers = whole.numbers;
  };
  list = refl;
}

pub sent-kept : (room : ℕ) (w : Wire) (frame : Frame) → IsWire room w → IsFrame w frame
    → IsKept room w (sent frame w)
sent-kept room w frame whole is =
    other_flight room w _ whole
    (onto_flight-each (IsFrame w) w.flight frame whole.frames whole.few is)
    (onto_flight-few w.flight frame whole.few)

pub without_frame-kept : (room : ℕ) (w : Wire) (place : ℕ) → IsWire room w
    → place < length w.flight → IsKept room w (without_frame place w)
without_frame-kept room w place whole there =
    other_flight room w _ whole
    (AllByRecursion-remove (IsFrame w) w.flight place whole.frames)
    (remove-few w.flight place there whole.few)

-- A frame with the number of the next packet has the oldest packet that waits.
next-waits : (room : ℕ) (w : Wire) (frame : Frame) → IsWire room w → IsFrame w frame
    → frame.number ≡ w.got
    → waiting_packets w ≡ frame.packet ∷ last_of (w.put - (w.got + 1)) w.window
next-waits room w frame whole is next =
    let at = is.in_window (omega (arith, next)) in
    let number = at.1.number in
    let within = slice_get_within w.window at.0 frame.packet at.1.packet in
    let most = whole.waiting in
    let was_put = is.was_put in
    let put = whole.window in
    let first : length w.window - (w.put - w.got) ≡ at.0 =
    omega (arith, number, within, most, was_put, put, next) in
    let after : at.0 + 1 ≡ length w.window - (w.put - (w.got + 1)) =
    omega (arith, first, within, most, was_put, next) in
    ap (λ k. drop k w.window) first ∙ drop-at w.window at.0 frame.packet at.1.packet
    ∙ ap (λ k. frame.packet ∷ drop k w.window) after

-- A frame with the number of the next packet is received.
received-next : (room : ℕ) (w : Wire) (frame : Frame) → IsWire room w → IsFrame w frame
    → frame.number ≡ w.got
    → IsKept room w (record w { got = w.got + 1; inbox = w.inbox ++ frame.packet ∷ [] })
received-next room w frame whole is same =
    let was_put = is.was_put in
    let long = length-append w.inbox (frame.packet ∷ []) in
    record {
      whole = got_more-whole room w (w.inbox ++ frame.packet ∷ []) whole
          (omega (arith, same, was_put)) (omega (arith, long));
      list = append_assoc w.inbox (frame.packet ∷ []) (last_of (w.put - (w.got + 1)) w.window)
          ∙ ap (λ packets. w.inbox ++ packets) (sym (next-waits room w frame whole is same));
    }

-- The frame at this place, after it has left the flight.
left-frame : (room : ℕ) (w : Wire) (place : ℕ) (frame : Frame) → IsWire room w
    → slice_get w.flight place ≡ Some frame
    → IsKept room w (without_frame place w) × IsFrame (without_frame place w) frame
left-frame room w place frame whole at = (
  without_frame-kept room w place whole (slice_get_within w.flight place frame at),
  IsFrame-later w (without_frame place w) frame refl refl (omega arith)
      (AllByRecursion-at (IsFrame w) w.flight place frame whole.frames at),
)

-- So it is where that frame leaves the flight.
pub pass_next-kept : (room : ℕ) (w : Wire) (place : ℕ) (frame : Frame) → IsWire room w
    → slice_get w.flight place ≡ Some frame → frame.number ≡ w.got
    → IsKept room w (record (without_frame place w) {
      got = w.got + 1;
      inbox = w.inbox ++ frame.packet ∷ [];
    })
pass_next-kept room w place frame whole at same =
    let left = left-frame room w place frame whole at in
    let done = received-next room (without_frame place w) frame left.0.whole left.1 same in
    record { whole = done.whole; list = done.list ∙ left.0.list }

pub pass_other-kept : (room : ℕ) (w : Wire) (place : ℕ) (frame : Frame) → IsWire room w
    → slice_get w.flight place ≡ Some frame → IsKept room w (without_frame place w)
pass_other-kept room w place frame whole at = (left-frame room w place frame whole at).0

pass-kept : (room : ℕ) (w : Wire) (place : ℕ) (frame : Frame) (next : Bool) → IsWire room w
    → slice_get w.flight place ≡ Some frame → (frame.number == w.got) ≡ next
    → IsKept room w (if next
    then record (without_frame place w) {
      got = w.got + 1;
      inbox = w.inbox ++ frame.packet ∷ [];
    }
    else without_frame place w)
pass-kept room w place frame true whole at same =
    pass_next-kept room w place frame whole at (eqb-true frame.number w.got same)
pass-kept room w place frame false whole at other =
    pass_other-kept room w place frame whole at

-- The frame of a packet of the window is one.
pub resent-frame : (room : ℕ) (w : Wire) (place : ℕ) (packet : Packet) → IsWire room w
    → slice_get w.window place ≡ Some packet → IsFrame w (frame_of (number_at w place) packet)
resent-frame room w place packet whole at =
    let within = slice_get_within w.window place packet at in
    let all = whole.window in
    record {
      was_put = omega (arith, within, all);
      in_window = λ _. (place, record { number = refl; packet = at });
    }

pub resend-kept : (room place : ℕ) (w v : Wire) → IsWire room w → resend place w ≡ Some v
    → IsKept room w v
resend-kept room place w v whole did =
    let at = some_map (λ packet. sent (frame_of (number_at w place) packet) w)
    (slice_get w.window place) v did in
    subst (IsKept room w) at.2
    (sent-kept room w (frame_of (number_at w place) at.0) whole
    (resent-frame room w place at.0 whole at.1))

pub lose-kept : (room place : ℕ) (w v : Wire) → IsWire room w → lose place w ≡ Some v
    → IsKept room w v
lose-kept room place w v whole did =
    let at = some_map (λ (_ : Frame). without_frame place w) (slice_get w.flight place) v did in
    subst (IsKept room w) at.2
    (without_frame-kept room w place whole (slice_get_within w.flight place at.0 at.1))

pub copy-kept : (room place : ℕ) (w v : Wire) → IsWire room w → copy place w ≡ Some v
    → IsKept room w v
copy-kept room place w v whole did =
    let at = some_map (λ frame. sent frame w) (slice_get w.flight place) v did in
    subst (IsKept room w) at.2
    (sent-kept room w at.0 whole
    (AllByRecursion-at (IsFrame w) w.flight place at.0 whole.frames at.1))

pub passed-kept : (room place : ℕ) (w v : Wire) → IsWire room w → pass place w ≡ Some v
    → IsKept room w v
passed-kept room place w v whole did =
    let at = some_map (λ frame. received frame (without_frame place w))
    (slice_get w.flight place) v did in
    subst (IsKept room w) at.2
    (pass-kept room w place at.0 (at.0.number == w.got) whole at.1 refl)

pub moved_wire-kept : (room : ℕ) (step : NetStep) (w v : Wire) → IsWire room w
    → moved_wire step w ≡ Some v → IsKept room w v
moved_wire-kept room (net.Resend j on place) w v whole did = resend-kept room place w v whole did
moved_wire-kept room (net.Lose j on place) w v whole did = lose-kept room place w v whole did
moved_wire-kept room (net.Copy j on place) w v whole did = copy-kept room place w v whole did
moved_wire-kept room (net.Pass j on place) w v whole did = passed-kept room place w v whole did

-- What becomes of a frame that comes to the other end.
pub pass-receives : (room : ℕ) (w : Wire) (place : ℕ) (frame : Frame) → IsWire room w
    → slice_get w.flight place ≡ Some frame → IsReceivedRight w place frame
pass-receives room w place frame whole at =
    let is = AllByRecursion-at (IsFrame w) w.flight place frame whole.frames at in
    record {
      next = λ (same : frame.number ≡ w.got). (
        ap first_packet (next-waits room w frame whole is same),
        rw (at, eq-eqb frame.number w.got same) refl,
      );
      other = λ (differs : frame.number ≢ w.got).
          rw (at, ne_eqb frame.number w.got differs) refl;
    }

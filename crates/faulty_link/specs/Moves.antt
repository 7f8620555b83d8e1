-- What puts, takes and the moves of the network do to a wire. In each of these, parts of the wire
-- that aren't named stay as they are.
--
-- - Put of a packet: it ends the window, from which the oldest leaves where it was full; a frame of
--   it, whose number is how many were put before, ends the flight; one more was put.
-- - Take: where the inbox isn't empty, its first packet leaves. Else, where the wire has packets,
--   the oldest one that wasn't received is handed over, and one more was received. Else nothing
--   changes.
-- - Resend, where the window has a packet at this place: a frame of it with its number ends the
--   flight.
-- - Lose, where the flight has a frame at this place: it is removed.
-- - Copy, where the flight has a frame at this place: the same frame ends the flight once more.
-- - Pass, where the flight has a frame at this place: it is removed. Where its number is how many
--   were received, it is received: its packet ends the inbox, and one more was received. Else it is
--   dropped.
--
-- A frame that ends a flight of 8 removes the first one. The numbers start again before a put at
-- 2 ^ 64 - 1: frames are lost, the window keeps the packets that weren't received, and these are
-- numbered from 0.
use Rattle.std.specs.Prelude.{◌≡◌, ℕ, ◌+◌, ◌-◌, ◌==◌, ◌^◌, nat_lt, Bool, true, false, length}
use Rattle.std.specs.Prelude.{if◌then◌else◌, List, [], ◌∷◌, ◌++◌, Option, Some, None, slice_get}
use Rattle.std.specs.List.{remove}
use Rattle.std.specs.Option.{option_map}
use Rattle.ordered_links.specs.Link.{Link, Up, Down}
use Rattle.ordered_links.specs.Lists.{first_packet}
use Rattle.ordered_links.specs.declared.packet.Packet.{Packet}
use Rattle.faulty_link.specs.Wire.{Wire, WirePair, last_of, waiting_packets, on_wire, wire_on}
use Rattle.faulty_link.specs.Wire.{with_wire, room_of}
use Rattle.faulty_link.specs.declared.frame.Frame.{Frame}
use Rattle.faulty_link.specs.declared.net_step.NetStep.{NetStep}
use Rattle.faulty_link.specs.declared.net_step.NetStep.TheVariants as net
use Rattle.faulty_link.specs.declared.net_step.Way.{Way}
use Rattle.faulty_link.specs.declared.net_step.Way.TheVariants as way

-- ---- the flight

-- the frames with room for one more: of 8 frames the first one is gone
abbrev pub making_room : List Frame → List Frame
making_room frames = if nat_lt (length frames) 8 then frames else remove frames 0

-- the frames after this one has come behind them
abbrev pub onto_flight : List Frame → Frame → List Frame
onto_flight frames frame = making_room frames ++ frame ∷ []

-- a frame of this number and packet
abbrev pub frame_of : ℕ → Packet → Frame
frame_of number packet = record { number = number; packet = packet }

-- the wire after this frame has come behind those in the flight
abbrev pub sent : Frame → Wire → Wire
sent frame w = record w { flight = onto_flight w.flight frame }

-- the wire after the frame at this place has left the flight
abbrev pub without_frame : ℕ → Wire → Wire
without_frame place w = record w { flight = remove w.flight place }

-- ---- put and take

-- The wire after the numbers have started again.
abbrev pub restarted : Wire → Wire
restarted w = record {
  put = w.put - w.got;
  got = 0;
  window = waiting_packets w;
  inbox = w.inbox;
  flight = [];
}

-- The wire with a number for the next put.
abbrev pub with_number : Wire → Wire
with_number w = if w.put == 2 ^ 64 - 1 then restarted w else w

-- The wire after the put of a packet that gets the next number.
abbrev pub numbered_put : ℕ → Packet → Wire → Wire
numbered_put room packet w = record {
  put = w.put + 1;
  got = w.got;
  window = last_of room (w.window ++ packet ∷ []);
  inbox = w.inbox;
  flight = onto_flight w.flight (frame_of w.put packet);
}

-- The wire after the put of this packet, where its link has room for so many.
abbrev pub wire_after_put : ℕ → Packet → Wire → Wire
wire_after_put room packet w = numbered_put room packet (with_number w)

-- The wire after a take, by what is in the inbox and what waits to be received.
abbrev pub taken_from : List Packet → List Packet → Wire → Wire
taken_from (first ∷ inbox) waiting w = record w { inbox = inbox }
taken_from [] (oldest ∷ waiting) w = record w { got = w.got + 1 }
taken_from [] [] w = w

-- The wire after a take.
abbrev pub wire_after_take : Wire → Wire
wire_after_take w = taken_from w.inbox (waiting_packets w) w

-- ---- moves

-- the number of the packet at this place of the window
abbrev pub number_at : Wire → ℕ → ℕ
number_at w place = w.put - length w.window + place

-- the wire after the packet at this place of the window is sent again; none where there is none
abbrev pub resend : ℕ → Wire → Option Wire
resend place w =
    option_map (λ packet. sent (frame_of (number_at w place) packet) w) (slice_get w.window place)

-- the wire after the frame at this place is lost; none where there is none
abbrev pub lose : ℕ → Wire → Option Wire
lose place w = option_map (λ _. without_frame place w) (slice_get w.flight place)

-- the wire after the frame at this place is repeated; none where there is none
abbrev pub copy : ℕ → Wire → Option Wire
copy place w = option_map (λ frame. sent frame w) (slice_get w.flight place)

-- The wire after this frame has come to the other end: it is received where it has the number of
-- the next packet, and else dropped.
abbrev pub received : Frame → Wire → Wire
received frame w =
    if frame.number == w.got
    then record w { got = w.got + 1; inbox = w.inbox ++ frame.packet ∷ [] }
    else w

-- the wire after the frame at this place has come to the other end; none where there is none
abbrev pub pass : ℕ → Wire → Option Wire
pass place w =
    option_map (λ frame. received frame (without_frame place w)) (slice_get w.flight place)

-- the link of this remote that goes this way
abbrev pub link_on : ℕ → Way → Link
link_on j way.Up = Up j
link_on j way.Down = Down j

-- of a remote's two wires, the one that goes this way
abbrev pub wire_that_goes : Way → WirePair → Wire
wire_that_goes way.Up pair = pair.up
wire_that_goes way.Down pair = pair.down

-- a remote's two wires, of which the one that goes this way has become this one
abbrev pub pair_with : Way → Wire → WirePair → WirePair
pair_with way.Up w pair = record pair { up = w }
pair_with way.Down w pair = record pair { down = w }

-- for how many packets there is room on a link that goes this way
abbrev pub room_that_goes : Way → ℕ
room_that_goes way.Up = 2
room_that_goes way.Down = 3

-- the way of the wire that a move names
abbrev pub way_of : NetStep → Way
way_of (net.Resend j on place) = on
way_of (net.Lose j on place) = on
way_of (net.Copy j on place) = on
way_of (net.Pass j on place) = on

-- the remote that a move names
abbrev pub remote_of : NetStep → ℕ
remote_of (net.Resend j on place) = j
remote_of (net.Lose j on place) = j
remote_of (net.Copy j on place) = j
remote_of (net.Pass j on place) = j

-- the link whose wire a move names
abbrev pub link_of : NetStep → Link
link_of step = link_on (remote_of step) (way_of step)

-- a wire after a move of it; none where the move isn't enabled
abbrev pub moved_wire : NetStep → Wire → Option Wire
moved_wire (net.Resend j on place) w = resend place w
moved_wire (net.Lose j on place) w = lose place w
moved_wire (net.Copy j on place) w = copy place w
moved_wire (net.Pass j on place) w = pass place w

-- A remote's two wires after a move of the one that it names; none where it isn't enabled.
abbrev pub moved_pair : NetStep → WirePair → Option WirePair
moved_pair step pair =
    option_map (λ w. pair_with (way_of step) w pair)
    (moved_wire step (wire_that_goes (way_of step) pair))

-- The wires after a move, of which only the one that it names changes; none where the move isn't
-- enabled, and where there is no such remote.
abbrev pub moved : NetStep → List WirePair → Option (List WirePair)
moved step wires =
    if nat_lt (remote_of step) (length wires)
    then option_map (λ w. with_wire (link_of step) w wires)
    (moved_wire step (wire_on (link_of step) wires))
    else None

-- ---- effects

-- The put of a packet on this link.
abbrev pub IsWirePut : List WirePair → Link → Packet → List WirePair → Type 0
IsWirePut old link packet new =
    new ≡ with_wire link (wire_after_put (room_of link) packet (wire_on link old)) old

-- A take from this link, which hands over this packet, if there is one.
abbrev pub IsWireTaken : List WirePair → Link → Option Packet → List WirePair → Type 0
IsWireTaken old link answer new =
    (answer ≡ first_packet (on_wire (wire_on link old)))
    × (new ≡ with_wire link (wire_after_take (wire_on link old)) old)

-- What became of a move, by what there is after it, if it is enabled: it is made, or refused, and
-- then nothing changed.
abbrev pub IsAnswered : {X : Type 0} → Bool → X → X → Option X → Type 0
IsAnswered true old new next = next ≡ Some new
IsAnswered false old new next = (next ≡ None) × (new ≡ old)

-- A move with this answer.
abbrev pub IsWireMove : List WirePair → NetStep → Bool → List WirePair → Type 0
IsWireMove old step answer new = IsAnswered answer old new (moved step old)

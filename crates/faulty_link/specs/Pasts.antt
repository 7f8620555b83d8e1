-- What became of one wire, from the time when nothing was put on it.
use Rattle.std.specs.Prelude.{◌≡◌, ℕ, nat_lt, if◌then◌else◌, List, [], ◌∷◌, ◌++◌, length, take}
use Rattle.std.specs.Prelude.{Option, Some, None}
use Rattle.ordered_links.specs.declared.packet.Packet.{Packet}
use Rattle.faulty_link.specs.Wire.{Wire, no_wire, on_wire, waiting_packets}
use Rattle.faulty_link.specs.Moves.{wire_after_put, wire_after_take, resend, lose, copy, pass}

-- What can happen to a wire: a packet is put, or taken, or the network moves.
pub data Act : Type 0 where
  Puts : (packet : Packet) → Act
  Takes : Act
  Resends : (place : ℕ) → Act
  Loses : (place : ℕ) → Act
  Copies : (place : ℕ) → Act
  Passes : (place : ℕ) → Act

-- A wire, the packets that were put on it so far, and those that were handed over, each in order.
pub record Past : Type 0 where
  pub wire : Wire
  pub put : List Packet
  pub handed : List Packet

-- nothing happened yet
abbrev pub no_past : Past
no_past = record { wire = no_wire; put = []; handed = [] }

-- What a take hands over, by what is in the inbox and what waits to be received: the first packet
-- of the inbox where something has arrived, and else the oldest one that waits.
abbrev pub handed_from : List Packet → List Packet → List Packet
handed_from (first ∷ inbox) waiting = first ∷ []
handed_from [] waiting = take 1 waiting

-- after a move of the network, where it was enabled; else nothing happened
abbrev pub past_moved : Past → Option Wire → Past
past_moved past None = past
past_moved past (Some w) = record past { wire = w }

-- After this has happened to a wire of a link that has room for so many packets. A put for which
-- there is no room isn't made.
abbrev pub past_with : ℕ → Past → Act → Past
past_with room past (Puts packet) =
    if nat_lt (length (on_wire past.wire)) room
    then record {
      wire = wire_after_put room packet past.wire;
      put = past.put ++ packet ∷ [];
      handed = past.handed;
    }
    else past
past_with room past Takes = record {
  wire = wire_after_take past.wire;
  put = past.put;
  handed = past.handed ++ handed_from past.wire.inbox (waiting_packets past.wire);
}
past_with room past (Resends place) = past_moved past (resend place past.wire)
past_with room past (Loses place) = past_moved past (lose place past.wire)
past_with room past (Copies place) = past_moved past (copy place past.wire)
past_with room past (Passes place) = past_moved past (pass place past.wire)

-- After all this has happened, one after the other.
abbrev pub past_after : ℕ → Past → List Act → Past
past_after room past [] = past
past_after room past (act ∷ acts) = past_after room (past_with room past act) acts

-- What was handed over, and then what is on the wire, is what was put.
abbrev pub KeepsOrder : Past → Type 0
KeepsOrder past = past.handed ++ on_wire past.wire ≡ past.put

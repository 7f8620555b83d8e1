-- What contracts see of a wire that knows for how many packets its link has room.
use Rattle.std.specs.Prelude.{◌≡◌, ℕ, ◌≤◌}
use Rattle.faulty_link.specs.Wire.{Wire, no_wire}
use Rattle.faulty_link.specs.Whole.{IsWire}

-- The room of its link, and the wire.
pub record Fitted : Type 0 where
  pub room : ℕ
  pub wire : Wire

-- a wire of this room on which nothing was put
abbrev pub unused : ℕ → Fitted
unused room = record { room = room; wire = no_wire }

-- The link has room for 1 to 3 packets, the inbox has room for so many, the flight for at least 8
-- frames, and the wire is whole.
pub record IsFitted (fitted : Fitted) (inbox_room flight_room : ℕ) : Type 0 where
  pub most : fitted.room ≤ 3
  pub inbox : inbox_room ≡ fitted.room
  pub flight : 8 ≤ flight_room
  pub whole : IsWire fitted.room fitted.wire

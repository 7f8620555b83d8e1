-- What holds of each wire, whatever was put on it, taken from it and done by the network.
use Rattle.std.specs.Prelude.{◌≡◌, ℕ, ◌+◌, ◌-◌, ◌<◌, ◌≤◌, ◌^◌, min, List, length, Some, slice_get}
use Rattle.std.specs.List.{AllByRecursion}
use Rattle.faulty_link.specs.Wire.{Wire, WirePair}
use Rattle.faulty_link.specs.Moves.{number_at}
use Rattle.faulty_link.specs.declared.frame.Frame.{Frame}

-- A frame of the packet at this place of the window: it has that packet, and its number.
pub record IsCopyOf (w : Wire) (frame : Frame) (place : ℕ) : Type 0 where
  pub number : frame.number ≡ number_at w place
  pub packet : slice_get w.window place ≡ Some frame.packet

-- A frame in flight was put, and where it wasn't received yet, its packet is still in the window.
pub record IsFrame (w : Wire) (frame : Frame) : Type 0 where
  pub was_put : frame.number < w.put
  pub in_window : w.got ≤ frame.number → (place : ℕ) × IsCopyOf w frame place

-- A wire of a link that has room for so many packets. Since the numbers last began, no more were
-- received than put, where those count as put that waited when the numbers began; the window has
-- the last packets that were put, as many as there is room for; those that weren't received are
-- among them; with those in the inbox they are no more than there is room for; at most 8 frames are
-- in flight, of packets that were put, and each frame whose packet wasn't received has that packet;
-- and there is a number for each packet.
pub record IsWire (room : ℕ) (w : Wire) : Type 0 where
  pub got_of_put : w.got ≤ w.put
  pub window : length w.window ≡ min w.put room
  pub waiting : w.put - w.got ≤ length w.window
  pub fits : length w.inbox + (w.put - w.got) ≤ room
  pub frames : AllByRecursion (IsFrame w) w.flight
  pub few : length w.flight ≤ 8
  pub numbers : w.put < 2 ^ 64

-- The two wires of a remote: of an up link, which has room for 2 packets, and of a down link, which
-- has room for 3.
pub record IsWirePair (pair : WirePair) : Type 0 where
  pub up : IsWire 2 pair.up
  pub down : IsWire 3 pair.down

-- These are wires of up links and down links.
abbrev pub AreWires : List WirePair → Type 0
AreWires wires = AllByRecursion IsWirePair wires

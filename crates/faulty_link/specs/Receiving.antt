-- Which frames are received.
use Rattle.std.specs.Prelude.{◌≡◌, ◌≢◌, ℕ, ◌+◌, [], ◌∷◌, ◌++◌, Some}
use Rattle.ordered_links.specs.Lists.{first_packet}
use Rattle.faulty_link.specs.Wire.{Wire, waiting_packets}
use Rattle.faulty_link.specs.Moves.{pass, without_frame}
use Rattle.faulty_link.specs.declared.frame.Frame.{Frame}

-- A frame that comes to the other end, and what becomes of it. Where it has the number of the next
-- packet, it has the oldest packet that waits to be received, which is received. Each other frame
-- is dropped.
pub record IsReceivedRight (w : Wire) (place : ℕ) (frame : Frame) : Type 0 where
  pub next : frame.number ≡ w.got
      → (first_packet (waiting_packets w) ≡ Some frame.packet)
      × (pass place w ≡ Some (record (without_frame place w) {
        got = w.got + 1;
        inbox = w.inbox ++ frame.packet ∷ [];
      }))
  pub other : frame.number ≢ w.got → pass place w ≡ Some (without_frame place w)

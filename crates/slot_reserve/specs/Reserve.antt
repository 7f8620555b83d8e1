-- What contracts see of the home's slots.
use Rattle.std.specs.Prelude.{ℕ, ◌≤◌, List, length}
use Rattle.slot_reserve.specs.declared.held.Held.{Held}

-- How many slots there are, and the requests held in them, in the order in which they came.
pub record Reserve : Type 0 where
  pub size : ℕ
  pub held : List Held

-- There are from 2 to 64 slots, no more requests are held than there are slots, and there is room
-- for a request in each slot.
pub record IsReserve (size : ℕ) (held : List Held) (room : ℕ) : Type 0 where
  pub least : 2 ≤ size
  pub most : size ≤ 64
  pub fits : length held ≤ size
  pub room_taken : size ≤ room

-- Who gets a slot.
use Rattle.std.specs.Prelude.{ℕ, ◌+◌, ◌-◌, ◌==◌, Bool, ◌&&◌, ◌||◌, if◌then◌else◌, nat_le}

-- How many slots can be given to a request that comes, where there are `size` slots and `held`
-- requests are held. At an idle home it is each slot in which nothing is held. While the home waits
-- for an answer it is one less: that one is the ack slot, which is kept for a request of the remote
-- that the home waits on.
abbrev pub free : ℕ → ℕ → Bool → ℕ
free size held waiting = if waiting then size - 1 - held else size - held

-- Whether a request that comes gets one of these free slots. Where there are two or more it does.
-- Where there is one, the progress slot, it does exactly if it completes a guard of the home's
-- state. Where there is none it doesn't.
abbrev pub admits : ℕ → Bool → Bool
admits slots completes = nat_le 2 slots || ((slots == 1) && completes)

-- Whether a home may send a request of its own: two slots at least are free. One becomes the ack
-- slot, and the progress slot is left.
abbrev pub room_to_send : ℕ → ℕ → Bool
room_to_send size held = nat_le (held + 2) size

-- How a schedule is played: what its lines say, and what a machine does at each item.
use Rattle.std.specs.Prelude.{ℕ, List, Option}
use Rattle.schedule_replay.specs.declared.player.Meaning.{Meaning}

-- A line says an item, such as an event, or is blank or malformed. At an item the machine goes from
-- one state to the next, and a block of text tells of it. A machine halts in a state where a claim
-- is broken, and gives the claim's number. Where a schedule is played to its end, or the machine
-- halts, a last text shows the state.
pub record Play (State Item : Type 0) : Type 0 where
  pub says : List ℕ → Meaning Item
  pub after : State → Item → State
  pub block : State → Item → List ℕ
  pub ending : State → List ℕ
  pub halts : State → Option ℕ

-- A schedule, played line by line: what is written of it, and where it ends.
use Rattle.std.specs.Prelude.{ℕ, ◌+◌, Bool, true, false, nat_le, nat_lt, List, [], ◌∷◌, ◌++◌}
use Rattle.std.specs.Prelude.{length, Option, Some, None, codes, decimal}
use Rattle.schedule_replay.specs.TextLines.{lines_of}
use Rattle.schedule_replay.specs.Play.{Play}
use Rattle.schedule_replay.specs.declared.limits.Limits.{Limits}
use Rattle.schedule_replay.specs.declared.player.Meaning.{Meaning}
use Rattle.schedule_replay.specs.declared.player.Meaning.TheVariants.{Blank, Says, Bad}

-- Where a schedule ends: at its end; at a line that is refused, with its number counted from 1; at
-- the first byte past as many lines as a schedule may have; or where the machine halts, after so
-- many lines, 0 before the first, with the number of the claim that is broken.
pub data Stop : Type 0 where
  AtEnd : Stop
  AtLine : ℕ → Stop
  TooMany : Stop
  Halted : ℕ → ℕ → Stop

-- The blocks written, the state in which the machine stands then, and where the schedule ends.
pub record Played (State : Type 0) : Type 0 where
  pub blocks : List ℕ
  pub state : State
  pub stop : Stop

-- The schedule ends here, and no block is written.
abbrev pub stopped : {State : Type 0} → State → Stop → Played State
stopped state stop = record { blocks = []; state = state; stop = stop }

-- This block is written before.
abbrev pub behind : {State : Type 0} → List ℕ → Played State → Played State
behind block later =
    record { blocks = block ++ later.blocks; state = later.state; stop = later.stop }

-- The schedule ends in this state, after so many lines, where a claim is broken; else it goes on.
abbrev pub unless_halted : {State : Type 0} → Option ℕ → ℕ → State → Played State → Played State
unless_halted (Some claim) lines state later = stopped state (Halted lines claim)
unless_halted None lines state later = later

-- `claim I broken`, with the claim's number
abbrev pub claim_text : ℕ → List ℕ
claim_text claim = codes "claim " ++ (decimal claim ++ codes " broken\n")

module _ {State Item : Type 0} (play : Play State Item) where
  -- The block of an item that follows so many others: its number, counted from 1, one space, and
  -- what tells of it.
  abbrev pub numbered_block : ℕ → State → Item → List ℕ
  numbered_block played state item = decimal (played + 1) ++ (codes " " ++ play.block state item)

  -- An item is played that follows so many others and so many lines: its block is written, and the
  -- schedule goes on, with one more item played, unless the machine halts.
  abbrev pub item_then : ℕ → ℕ → State → Item → (ℕ → State → Played State) → Played State
  item_then before played state item later =
      behind (numbered_block played state item)
      (unless_halted (play.halts (play.after state item)) (before + 1) (play.after state item)
      (later (played + 1) (play.after state item)))

  -- A line that follows so many others, after so many items, and what follows it: whether those
  -- other lines are as many as a schedule may have, whether the line is longer than a line may be,
  -- and what it says. What follows depends on the items played and on the state by then.
  abbrev pub line_then : Bool → Bool → Meaning Item → ℕ → ℕ → State → (ℕ → State → Played State)
      → Played State
  line_then true long meaning before played state later = stopped state TooMany
  line_then false true meaning before played state later = stopped state (AtLine (before + 1))
  line_then false false Blank before played state later = later played state
  line_then false false (Says item) before played state later =
      item_then before played state item later
  line_then false false Bad before played state later = stopped state (AtLine (before + 1))

  -- What is written where a schedule ends so: the last text where it was played to its end, and
  -- where the machine halts a line before it that names the claim.
  abbrev pub last_text : State → Stop → List ℕ
  last_text state AtEnd = play.ending state
  last_text state (AtLine line) = []
  last_text state TooMany = []
  last_text state (Halted lines claim) = claim_text claim ++ play.ending state

  -- What is written of a schedule: the blocks of the items before its end, and the last text. Of a
  -- schedule that is refused, an error text follows, which is not part of it.
  abbrev pub played_text : Played State → List ℕ
  played_text all = all.blocks ++ last_text all.state all.stop

  module _ (limits : Limits) where
    -- The lines that follow so many others and so many items are played from this state. A schedule
    -- ends with too many lines where as many as it may have stand before a further one. It is
    -- refused at a line that is too long and at a malformed one. A blank line gives nothing. After
    -- an item at which the machine halts no further line is played.
    abbrev pub played_lines : ℕ → ℕ → State → List (List ℕ) → Played State
    played_lines before played state [] = stopped state AtEnd
    played_lines before played state (line ∷ lines) =
        line_then (nat_le limits.lines before) (nat_lt limits.line (length line))
        (play.says line) before played state
        (λ count next. played_lines (before + 1) count next lines)

    -- The lines are played from the start. Whether the machine halts there is looked at before the
    -- first line is read.
    abbrev pub played_from : State → List (List ℕ) → Played State
    played_from start lines =
        unless_halted (play.halts start) 0 start (played_lines 0 0 start lines)

    -- A schedule with this text is played from the start.
    abbrev pub played : State → List ℕ → Played State
    played start text = played_from start (lines_of text)

    -- What is written of a schedule with this text.
    abbrev pub trace : State → List ℕ → List ℕ
    trace start text = played_text (played start text)

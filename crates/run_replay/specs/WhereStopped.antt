-- Where a replay stops, said of the lines of its schedule and of the states to which they lead,
-- without the player: at the least number of lines behind which something stops it.
use Rattle.std.specs.Prelude.{◌≡◌, ◌⊎◌, ℕ, ◌+◌, ◌<◌, ◌≤◌, Bool, true, false, ◌||◌, nat_le, nat_lt}
use Rattle.std.specs.Prelude.{if◌then◌else◌, List, take, length, Option, Some, None, slice_get}
use Rattle.proto_model.specs.declared.rendezvous.RvConfig.{RvConfig}
use Rattle.rendezvous_meaning.specs.Claims.{remote_states, AllHold, IsFirstBroken}
use Rattle.schedule_replay.specs.Play.{Play}
use Rattle.schedule_replay.specs.Played.{Stop, AtEnd, AtLine, TooMany, Halted, Played}
use Rattle.schedule_replay.specs.PlayedItems.{state_at_end, blocks_of, items_said}
use Rattle.schedule_replay.specs.declared.limits.Limits.{Limits}
use Rattle.schedule_replay.specs.declared.player.Meaning.{Meaning}
use Rattle.schedule_replay.specs.declared.player.Meaning.TheVariants.{Blank, Says, Bad}
use Rattle.async_shape.specs.Run.{config_at_end}
use Rattle.async_shape.specs.declared.step.Step.{Step}
use Rattle.abstraction_map.specs.Abstraction.{abstraction}
use Rattle.run_replay.specs.RunTrace.{Running, run_play}

-- ---- of any schedule

-- a line that says this is malformed: it is not blank, and says no item
abbrev pub is_malformed : {Item : Type 0} → Meaning Item → Bool
is_malformed Blank = false
is_malformed (Says item) = false
is_malformed Bad = true

-- a broken claim stops a schedule behind n lines, and comes before what else would
abbrev pub stop_by_claim : Option ℕ → ℕ → Option Stop → Option Stop
stop_by_claim (Some claim) n later = Some (Halted n claim)
stop_by_claim None n later = later

module _ {State Item : Type 0} (play : Play State Item) where
  -- the items that the first n lines say
  abbrev pub items_in : List (List ℕ) → ℕ → List Item
  items_in lines n = items_said play (take n lines)

  -- the state to which the items of the first n lines lead
  abbrev pub state_behind : State → List (List ℕ) → ℕ → State
  state_behind start lines n = state_at_end play start (items_in lines n)

  -- What is played where a schedule is stopped behind n lines: the blocks of the items that these
  -- lines say, and the state to which they lead.
  abbrev pub played_behind : State → List (List ℕ) → ℕ → Stop → Played State
  played_behind start lines n stop = record {
    blocks = blocks_of play 0 start (items_in lines n);
    state = state_behind start lines n;
    stop = stop;
  }

  module _ (limits : Limits) where
    -- a line is refused: it is longer than a line may be, or malformed
    abbrev pub is_refused : List ℕ → Bool
    is_refused line = nat_lt limits.line (length line) || is_malformed (play.says line)

    -- What stops a schedule behind n lines by the line that follows, if there is one: there is
    -- none; it is one too many; or it is refused.
    abbrev pub stop_by_line : ℕ → Option (List ℕ) → Option Stop
    stop_by_line n None = Some AtEnd
    stop_by_line n (Some line) =
        if nat_le limits.lines n then Some TooMany
        else (if is_refused line then Some (AtLine (n + 1)) else None)

    -- What stops a schedule behind n lines, if anything does: a claim that is broken there, and
    -- else the line that follows.
    abbrev pub stop_behind : State → List (List ℕ) → ℕ → Option Stop
    stop_behind start lines n =
        stop_by_claim (play.halts (state_behind start lines n)) n
        (stop_by_line n (slice_get lines n))

    -- This stops the schedule behind n lines, and nothing stops it behind fewer.
    pub record IsFirstStop (start : State) (lines : List (List ℕ)) (n : ℕ) (stop : Stop) : Type 0
      where
        pub stops : stop_behind start lines n ≡ Some stop
        pub before : (m : ℕ) → m < n → stop_behind start lines m ≡ None

-- ---- of a schedule of steps

-- the steps that the first n lines say
abbrev pub steps_in : List (List ℕ) → ℕ → List Step
steps_in lines n = items_in run_play lines n

-- the rendezvous configuration for which the controllers stand behind the steps of the first n
-- lines
abbrev pub stands_behind : Running → List (List ℕ) → ℕ → RvConfig
stands_behind start lines n =
    abstraction start.setting.protocol
    (config_at_end start.setting start.config (steps_in lines n))

module _ (limits : Limits) where
  -- The line is refused: it has more bytes than a line may have, or it is malformed.
  abbrev pub IsRefused : List ℕ → Type 0
  IsRefused line = (limits.line < length line) ⊎ (run_play.says line ≡ Bad)

  -- The first n of these lines are taken: they are there, as many as a schedule may have or fewer,
  -- and none of them is refused.
  pub record AreTaken (lines : List (List ℕ)) (n : ℕ) : Type 0 where
    pub there : n ≤ length lines
    pub few : n ≤ limits.lines
    pub fine :
        (m : ℕ) (line : List ℕ) → m < n → slice_get lines m ≡ Some line → IsRefused line → ⊥

module _ (start : Running) (lines : List (List ℕ)) where
  -- Every claim holds behind the first n lines.
  abbrev pub HoldBehind : ℕ → Type 0
  HoldBehind n = AllHold start.claims (remote_states (stands_behind start lines n))

module _ (limits : Limits) (start : Running) (lines : List (List ℕ)) where
  -- The schedule is played to its end: each line is taken, and no claim is broken before the first
  -- or behind any.
  pub record IsWholePlayed : Type 0 where
    pub taken : AreTaken limits lines (length lines)
    pub holds : (m : ℕ) → m ≤ length lines → HoldBehind start lines m

  -- The line with this number, counted from 1, is the first that is refused: the n lines before it
  -- are taken, and no claim is broken before the first or behind any of them.
  pub record IsFirstRefused (number : ℕ) : Type 0 where
    pub n : ℕ
    pub number_is : number ≡ n + 1
    pub line : List ℕ
    pub there : slice_get lines n ≡ Some line
    pub refused : IsRefused limits line
    pub among : number ≤ limits.lines
    pub taken : AreTaken limits lines n
    pub holds : (m : ℕ) → m ≤ n → HoldBehind start lines m

  -- There are more lines than a schedule may have. As many are taken, and no claim is broken before
  -- the first or behind any of them.
  pub record AreTooMany : Type 0 where
    pub more : limits.lines < length lines
    pub taken : AreTaken limits lines limits.lines
    pub holds : (m : ℕ) → m ≤ limits.lines → HoldBehind start lines m

  -- Behind n lines, which are taken, this claim is the first that is broken; and behind fewer none
  -- is.
  pub record IsFirstBrokenBehind (n claim : ℕ) : Type 0 where
    pub broken : IsFirstBroken start.claims (remote_states (stands_behind start lines n)) claim
    pub taken : AreTaken limits lines n
    pub holds : (m : ℕ) → m < n → HoldBehind start lines m

  -- what it means that a schedule is stopped so
  abbrev pub MeansStop : Stop → Type 0
  MeansStop AtEnd = IsWholePlayed
  MeansStop (AtLine number) = IsFirstRefused number
  MeansStop TooMany = AreTooMany
  MeansStop (Halted n claim) = IsFirstBrokenBehind n claim

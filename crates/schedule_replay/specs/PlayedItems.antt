-- The items that a schedule has played, one after another from a state, and the blocks of them.
use Rattle.std.specs.Prelude.{◌≡◌, ℕ, ◌+◌, List, [], ◌∷◌, ◌++◌}
use Rattle.schedule_replay.specs.Play.{Play}
use Rattle.schedule_replay.specs.Played.{Played, AtEnd, numbered_block}
use Rattle.schedule_replay.specs.declared.player.Meaning.{Meaning}
use Rattle.schedule_replay.specs.declared.player.Meaning.TheVariants.{Blank, Says, Bad}

-- the item that a line says, if it says one, before those of the lines that follow
abbrev pub said_first : {Item : Type 0} → Meaning Item → List Item → List Item
said_first Blank later = later
said_first (Says item) later = item ∷ later
said_first Bad later = later

module _ {State Item : Type 0} (play : Play State Item) where
  -- the state to which these items lead, one after another
  abbrev pub state_at_end : State → List Item → State
  state_at_end state [] = state
  state_at_end state (item ∷ items) = state_at_end (play.after state item) items

  -- the blocks of these items, so many items into a schedule, each taken where those before it lead
  abbrev pub blocks_of : ℕ → State → List Item → List ℕ
  blocks_of before state [] = []
  blocks_of before state (item ∷ items) =
      numbered_block play before state item
      ++ blocks_of (before + 1) (play.after state item) items

  -- the items that these lines say
  abbrev pub items_said : List (List ℕ) → List Item
  items_said [] = []
  items_said (line ∷ lines) = said_first (play.says line) (items_said lines)

  -- What is played of the lines of a schedule, so many items into it: the first items that the
  -- lines say are taken from this state, their blocks are what is written, and they lead to the
  -- state at the end. Where the lines are played to their end, these are all items that they say.
  pub record IsOfItems (before : ℕ) (start : State) (lines : List (List ℕ)) (played : Played State)
      : Type 0 where
    pub items : List Item
    pub later : List Item
    pub said : items_said lines ≡ items ++ later
    pub blocks : played.blocks ≡ blocks_of before start items
    pub state : played.state ≡ state_at_end start items
    pub whole : played.stop ≡ AtEnd → later ≡ []

-- What is played of a schedule are the first items that its lines say, one after another.
use Rattle.std.proofs.Common.{◌≡◌, ℕ, ◌+◌, Bool, true, false, List, [], ◌∷◌, ◌++◌, length, nat_le}
use Rattle.std.proofs.Common.{nat_lt, Option, Some, None, refl, ap, ◌∙◌}
use Rattle.schedule_replay.specs.Play.{Play}
use Rattle.schedule_replay.specs.Played.{Played, numbered_block, line_then, played_lines, behind}
use Rattle.schedule_replay.specs.Played.{unless_halted, played_from, AtEnd}
use Rattle.schedule_replay.specs.declared.limits.Limits.{Limits}
use Rattle.schedule_replay.specs.declared.player.Meaning.{Meaning}
use Rattle.schedule_replay.specs.declared.player.Meaning.TheVariants.{Blank, Says, Bad}
use Rattle.schedule_replay.specs.PlayedItems.{said_first, items_said, IsOfItems}

module _ {State Item : Type 0} (play : Play State Item) where
  -- what is played of what says these items, as `IsOfItems` says it of lines
  pub record IsOfSaid (before : ℕ) (start : State) (said_items : List Item) (played : Played State)
      : Type 0 where
    pub is : (lines : List (List ℕ)) → items_said play lines ≡ said_items
        → IsOfItems play before start lines played

  -- where nothing is played, no item is taken
  of_nothing : (before : ℕ) (start : State) (all : List Item) (later : Played State)
      → later.blocks ≡ [] → later.state ≡ start → (later.stop ≡ AtEnd → all ≡ [])
      → IsOfSaid before start all later
  of_nothing before start all later blocks state whole = record {
    is = λ lines said. record {
      items = [];
      later = all;
      said = said;
      blocks = blocks;
      state = state;
      whole = whole;
    };
  }

  -- one item, and then no more, or what follows it
  of_item : (before : ℕ) (start : State) (item : Item) (halt : Option ℕ) (count : ℕ)
      (rest : List (List ℕ)) (later : Played State)
      → IsOfItems play (before + 1) (play.after start item) rest later
      → IsOfSaid before start (item ∷ items_said play rest)
      (behind (numbered_block play before start item)
      (unless_halted halt count (play.after start item) later))
  of_item before start item (Some claim) count rest later follows = record {
    is = λ lines said. record {
      items = item ∷ [];
      later = items_said play rest;
      said = said;
      blocks = refl;
      state = refl;
      whole = λ ends. absurd (cc);
    };
  }
  of_item before start item None count rest later follows = record {
    is = λ lines said. record {
      items = item ∷ follows.items;
      later = follows.later;
      said = said ∙ ap (λ (items : List Item). item ∷ items) follows.said;
      blocks = ap (λ (text : List ℕ). numbered_block play before start item ++ text) follows.blocks;
      state = follows.state;
      whole = follows.whole;
    };
  }

  -- the same items, said by more lines
  of_more : (before : ℕ) (start : State) (lines : List (List ℕ)) (played : Played State)
      → IsOfItems play before start lines played
      → IsOfSaid before start (items_said play lines) played
  of_more before start lines played follows = record {
    is = λ all said. record {
      items = follows.items;
      later = follows.later;
      said = said ∙ follows.said;
      blocks = follows.blocks;
      state = follows.state;
      whole = follows.whole;
    };
  }

  -- the lines from here on
  of_lines : (limits : Limits) (taken before : ℕ) (start : State) (lines : List (List ℕ))
      → IsOfItems play before start lines (played_lines play limits taken before start lines)
  of_lines limits taken before start [] =
      (of_nothing before start [] _ refl refl (λ ends. refl)).is [] refl
  of_lines limits taken before start (line ∷ lines) =
      (by (nat_le limits.lines taken) (nat_lt limits.line (length line)) (play.says line)
      (λ count next. of_lines limits (taken + 1) count next lines)).is (line ∷ lines) refl
    where
      by : (many long : Bool) (says : Meaning Item)
          → ((count : ℕ) (next : State)
          → IsOfItems play count next lines (played_lines play limits (taken + 1) count next lines))
          → IsOfSaid before start (said_first says (items_said play lines))
          (line_then play many long says taken before start
          (λ count next. played_lines play limits (taken + 1) count next lines))
      by true long says later = of_nothing before start _ _ refl refl (λ ends. absurd (cc))
      by false true says later = of_nothing before start _ _ refl refl (λ ends. absurd (cc))
      by false false Blank later = of_more before start lines _ (later before start)
      by false false (Says item) later =
          of_item before start item (play.halts (play.after start item)) (taken + 1) lines _
          (later (before + 1) (play.after start item))
      by false false Bad later = of_nothing before start _ _ refl refl (λ ends. absurd (cc))

  -- All lines from the start: nothing is played where the machine halts there.
  pub all_lines : (limits : Limits) (start : State) (lines : List (List ℕ))
      → IsOfItems play 0 start lines (played_from play limits start lines)
  all_lines limits start lines = (by (play.halts start)).is lines refl
    where
      by : (halt : Option ℕ)
          → IsOfSaid 0 start (items_said play lines)
          (unless_halted halt 0 start (played_lines play limits 0 0 start lines))
      by (Some claim) = of_nothing 0 start _ _ refl refl (λ ends. absurd (cc))
      by None = of_more 0 start lines _ (of_lines limits 0 0 start lines)

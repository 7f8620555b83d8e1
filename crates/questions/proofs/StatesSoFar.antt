-- A list of states, read word by word.
use Rattle.std.proofs.Common.{◌≡◌, ℕ, ◌+◌, ◌<◌, ◌≤◌, true, false, List, ◌∷◌, length, map, drop}
use Rattle.std.proofs.Common.{get_or, Some, None, refl, sym, ap, ◌∙◌, arith}
use Rattle.std.proofs.lemmas.List.{drop_more}
use Rattle.proto_model.specs.Names.{place_of}
use Rattle.proto_model.specs.NumberSets.{with_number}
use Rattle.proto_model.specs.Tokens.{Text}
use Rattle.questions.specs.Reading.{ends_states, states_from}

module _ (names : List Text) where
  list-ends : (set : ℕ) (w : Text) (ws : List Text) → ends_states w ≡ true
      → states_from names set (w ∷ ws) ≡ Some (record { states = set; rest = w ∷ ws })
  list-ends set w ws ends = rw ends refl

  state-more : (set place : ℕ) (w : Text) (ws : List Text) → ends_states w ≡ false
      → place_of w names ≡ Some place
      → states_from names set (w ∷ ws) ≡ states_from names (with_number set place) ws
  state-more set place w ws goes is = rw (goes, is) refl

  no-state : (set : ℕ) (w : Text) (ws : List Text) → ends_states w ≡ false
      → place_of w names ≡ None → states_from names set (w ∷ ws) ≡ None
  no-state set w ws goes none = rw (goes, none) refl

  module _ {X : Type 0} (word : X → Text) (xs : List X) where
    -- The words so far name the states of this set.
    pub record Names (set place : ℕ) : Type 0 where
      pub within : place ≤ length xs
      pub all : states_from names 0 (map word xs) ≡ states_from names set (map word (drop place xs))

    pub starts : Names 0 0
    starts = record { within = omega arith; all = refl }

    behind : (set place : ℕ) (d : X) → Names set place → place < length xs
        → states_from names 0 (map word xs)
        ≡ states_from names set (word (get_or xs place d) ∷ map word (drop (place + 1) xs))
    behind set place d h within =
        h.all ∙ ap (λ ws. states_from names set (map word ws)) (drop_more xs place d within)

    pub goes-on : (set place state : ℕ) (d : X) → Names set place → place < length xs
        → ends_states (word (get_or xs place d)) ≡ false
        → place_of (word (get_or xs place d)) names ≡ Some state
        → Names (with_number set state) (place + 1)
    goes-on set place state d h within goes is = record {
      within = omega (arith, within);
      all = behind set place d h within
          ∙ state-more set state (word (get_or xs place d)) (map word (drop (place + 1) xs)) goes is;
    }

    pub unknown : (set place : ℕ) (d : X) → Names set place → place < length xs
        → ends_states (word (get_or xs place d)) ≡ false
        → place_of (word (get_or xs place d)) names ≡ None
        → states_from names 0 (map word xs) ≡ None
    unknown set place d h within goes none =
        behind set place d h within
        ∙ no-state set (word (get_or xs place d)) (map word (drop (place + 1) xs)) goes none

    pub ends-there : (set place : ℕ) (d : X) → Names set place → place < length xs
        → ends_states (word (get_or xs place d)) ≡ true
        → states_from names 0 (map word xs)
        ≡ Some (record { states = set; rest = map word (drop place xs) })
    ends-there set place d h within ends =
        behind set place d h within
        ∙ (list-ends set (word (get_or xs place d)) (map word (drop (place + 1) xs)) ends
        ∙ ap (λ ws. Some (record { states = set; rest = map word ws }))
        (sym (drop_more xs place d within)))

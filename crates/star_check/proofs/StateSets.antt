-- The set of the states that a list of names means, name by name, and that its states are in range.
use Rattle.std.proofs.Common.{◌≡◌, ℕ, ◌+◌, ◌*◌, ◌%◌, ◌^◌, ◌<◌, Bool, true, false, ◌&&◌, ◌||◌}
use Rattle.std.proofs.Common.{◌==◌, nat_lt}
use Rattle.std.proofs.Common.{List, [], ◌∷◌, length, get_or, take, map, refl, sym, ap, ◌∙◌, arith}
use Rattle.std.proofs.Common.{inl, inr, lit<, bit_or}
use Rattle.std.specs.List.{list_any, list_all}
use Rattle.std.proofs.lemmas.Bool.{cases_eq, eq-eqb, ne_eqb, eqb-true, lt-ltb, and_parts}
use Rattle.std.proofs.lemmas.Bool.{and_right, or_right, cond-true}
use Rattle.std.proofs.lemmas.List.Folds.{list_any_more}
use Rattle.proto_model.specs.Tokens.{Text}
use Rattle.proto_model.specs.Names.{is_declared, state_names}
use Rattle.proto_model.specs.NumberSets.{has_number, with_number}
use Rattle.proto_model.specs.Numbered.{place_or_zero, state_set}
use Rattle.proto_model.specs.Proper.{AreStatesOf}
use Rattle.proto_model.specs.declared.protocol.State.{State}
use Rattle.proto_model.proofs.NumberBits.{has_number-numbers_below, has_number-above, bit-small}
use Rattle.proto_model.proofs.NumberBits.{same_members}
use Rattle.proto_model.proofs.NumberSets.{has_number-with}
use Rattle.star_check.proofs.InRange.{place_in_range}

or-false : (b : Bool) → (b || false) ≡ b
or-false true = refl
or-false false = refl

more_members : (s n : ℕ) (front : Bool) → n < 64
    → ((s == n) || (nat_lt s 64 && front)) ≡ (nat_lt s 64 && (front || (n == s)))
more_members s n front small =
    elim (cases_eq s n) [
      | inl same ↦
          let below : s < 64 = omega arith in
          rw (eq-eqb s n same, eq-eqb n s (sym same), lt-ltb s 64 below)
          (sym (or_right front true refl))
      | inr other ↦
          rw (ne_eqb s n other, ne_eqb n s (λ e. other (sym e)))
          (ap (λ b. nat_lt s 64 && b) (sym (or-false front)))
    ]

module _ (states : List State) where
  -- the name means the state at place s
  abbrev means : ℕ → Text → Bool
  means s name = place_or_zero name (state_names states) == s

  -- a state is in the set of these names where one of them means it
  pub has_number-state_set : (names : List Text) (s : ℕ)
      → has_number (state_set states names) s ≡ (nat_lt s 64 && list_any (means s) names)
  has_number-state_set names s = has_number-numbers_below (λ s. list_any (means s) names) 64 s

  pub state_set-none : state_set states [] ≡ 0
  state_set-none =
      same_members (state_set states []) 0
      (λ s. has_number-state_set [] s ∙ and_right (nat_lt s 64) false refl
      ∙ sym (has_number-above 0 0 s (lit< tt) (omega arith)))

  with_name : (names : List Text) (i : ℕ) (name : Text) (number : ℕ) → i < length names
      → name ≡ get_or names i name → number ≡ place_or_zero name (state_names states)
      → number < 64
      → with_number (state_set states (take i names)) number ≡ state_set states (take (i + 1) names)
  with_name names i name number within at is small =
      let front = take i names in
      let here : (s : ℕ) → means s (get_or names i name) ≡ (number == s) =
      λ s. ap (means s) (sym at) ∙ ap (λ n. n == s) (sym is) in
      same_members (with_number (state_set states front) number)
      (state_set states (take (i + 1) names))
      (λ s. has_number-with (state_set states front) number s small
      ∙ ap (λ b. (s == number) || b) (has_number-state_set front s)
      ∙ more_members s number (list_any (means s) front) small
      ∙ ap (λ b. nat_lt s 64 && (list_any (means s) front || b)) (sym (here s))
      ∙ ap (λ b. nat_lt s 64 && b) (sym (list_any_more (means s) names i name within))
      ∙ sym (has_number-state_set (take (i + 1) names) s))

  -- one more name, and the bit of its state
  pub state_set-more : (names : List Text) (i : ℕ) (name : Text) (number set : ℕ) → i < length names
      → name ≡ get_or names i name → number ≡ place_or_zero name (state_names states)
      → number < 64 → set ≡ state_set states (take i names)
      → bit_or set (1 * 2 ^ number % 2 ^ 64) ≡ state_set states (take (i + 1) names)
  state_set-more names i name number set within at is small so_far =
      ap (bit_or set) (bit-small number small)
      ∙ sym (cond-true (nat_lt number 64) (bit_or set (2 ^ number)) set (lt-ltb number 64 small))
      ∙ ap (λ t. with_number t number) so_far ∙ with_name names i name number within at is small

  module _ {B : Type 0} (form : State → B) where
    named_state : (names : List Text)
        → list_all (λ name. is_declared name (state_names states)) names ≡ true
        → (s : ℕ) → list_any (means s) names ≡ true → s < length (map form states)
    named_state [] known s has = absurd (cc)
    named_state (name ∷ names) known s has =
        let both =
        and_parts (is_declared name (state_names states))
        (list_all (λ name. is_declared name (state_names states)) names) known in
        let here = place_in_range (λ t. t.name) form states name both.0 in
        by (means s name) refl has here (named_state names both.1 s)
      where
        by : (b : Bool) → means s name ≡ b → (b || list_any (means s) names) ≡ true
            → place_or_zero name (state_names states) < length (map form states)
            → (list_any (means s) names ≡ true → s < length (map form states))
            → s < length (map form states)
        by true is some here later =
            let same : place_or_zero name (state_names states) ≡ s = eqb-true _ s is in
            omega arith
        by false is some here later = later some

    -- each state of the set is one of them, where each name is declared
    pub are_states : (names : List Text)
        → list_all (λ name. is_declared name (state_names states)) names ≡ true
        → AreStatesOf (length (map form states)) (state_set states names)
    are_states names known s has =
        let both =
        and_parts (nat_lt s 64) (list_any (means s) names)
        (sym (has_number-state_set names s) ∙ has) in
        named_state names known s both.1

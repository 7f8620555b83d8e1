-- What is known of a guard that was found, and of the state of an idle process.
use Rattle.std.proofs.Common.{◌≡◌, ℕ, ◌+◌, ◌==◌, Bool, true, false, ◌&&◌, List, [], ◌∷◌}
use Rattle.std.proofs.Common.{Option, Some, None, is_some, slice_get, refl, sym, ap, subst, ◌∙◌}
use Rattle.std.proofs.Common.{arith, if◌then◌else◌}
use Rattle.std.specs.Option.{option_map, option_map_or, option_and_then}
use Rattle.std.specs.List.{list_any, position_from}
use Rattle.std.proofs.lemmas.Bool.{and_parts}
use Rattle.std.proofs.lemmas.Option.{same_Some, none-some}
use Rattle.rv_base.proofs.Lists.{some_when, some_map, some_and_then, position_from-passes}
use Rattle.proto_model.specs.Guards.{guards_of, guard_at, after_guard}
use Rattle.proto_model.specs.Values.{is_open}
use Rattle.proto_model.specs.ValueTypes.{message_in}
use Rattle.proto_model.specs.RendezvousNext.{is_tau, part_after_tau, tau_part, accepts}
use Rattle.proto_model.specs.declared.numbered.Value.{Value}
use Rattle.proto_model.specs.declared.numbered.Value.TheVariants as value
use Rattle.proto_model.specs.declared.numbered.RuleKind.TheVariants as action
use Rattle.proto_model.specs.declared.numbered.Rule.{Rule}
use Rattle.proto_model.specs.declared.numbered.StateInfo.{StateInfo}
use Rattle.proto_model.specs.declared.numbered.Body.{Body}
use Rattle.proto_model.specs.declared.rendezvous.Part.{Part}
use Rattle.proto_model.proofs.Steps.{tau_is, some_place}
use Rattle.controller_table.specs.declared.rows.Place.{Place}
use Rattle.controller_table.specs.declared.rows.Place.TheVariants.{Comm, Trans, Due}
use Rattle.async_shape.specs.Guards.{Chosen, chosen_at, first_that, idle_state}
use Rattle.async_shape.specs.Outcome.{home_idle_state}
use Rattle.async_shape.specs.declared.config.HomePlace.{HomePlace}
use Rattle.async_shape.specs.declared.config.HomePlace.TheVariants.{Idle, Waits}

-- ---- answers under a condition

-- an answer under a condition is the answer, and the condition holds
pub when_some : {X : Type 0} (b : Bool) (o : Option X) (y : X)
    → (if b then o else None) ≡ Some y → (b ≡ true) × (o ≡ Some y)
when_some true o y answered = (refl, answered)
when_some false o y answered = absurd (cc)

-- what is not there is none
pub is_none_then : {X : Type 0} (o : Option X) → is_some o ≡ false → o ≡ None
is_none_then None e = refl
is_none_then (Some x) e = absurd (cc)

-- ---- guards

-- the guard of a state, where the state may be missing
guards_at : (o : Option StateInfo) (g : ℕ)
    → slice_get (option_map_or (λ s. s.rules) o []) g ≡ option_and_then (λ s. slice_get s.rules g) o
guards_at None g = refl
guards_at (Some s) g = refl

-- the guards of a state hold the guard with a number at its place
pub guards_of-at : (body : Body) (state g : ℕ)
    → slice_get (guards_of body state) g ≡ guard_at body state g
guards_of-at body state g = guards_at (slice_get body.states state) g

-- a guard that is chosen at a place is the one there
chosen-parts : (rules : List Rule) (place : ℕ) (chosen : Chosen)
    → chosen_at rules place ≡ Some chosen
    → (place ≡ chosen.number) × (slice_get rules place ≡ Some chosen.rule)
chosen-parts rules place chosen found =
    let give : Rule → Chosen = λ rule. record { number = place; rule = rule } in
    let taken = some_map give (slice_get rules place) chosen found in
    let number = ap (λ (c : Chosen). c.number) taken.2 in
    (number, taken.1 ∙ ap (λ (c : Chosen). Some c.rule) taken.2)

-- The guard that is found is the one with its number, and passes the test.
pub first_that-found : (passes : Rule → Bool) (rules : List Rule) (chosen : Chosen)
    → first_that passes rules ≡ Some chosen
    → (slice_get rules chosen.number ≡ Some chosen.rule) × (passes chosen.rule ≡ true)
first_that-found passes rules chosen found =
    let by = some_and_then (chosen_at rules) (position_from passes 0 rules) chosen found in
    let parts = chosen-parts rules by.0 chosen by.2 in
    let first = position_from-passes passes 0 rules by.0 by.1 in
    let place : by.0 ≡ first.0 = omega (arith, first.2) in
    let there = sym first.3 ∙ ap (slice_get rules) (sym place) ∙ parts.1 in
    let same : first.1 ≡ chosen.rule = same_Some first.1 chosen.rule there in (
      ap (slice_get rules) (sym parts.0) ∙ parts.1,
      subst (λ rule. passes rule ≡ true) same first.4,
    )

-- where no place is found, no item passes
position_from-none : {X : Type 0} (test : X → Bool) (first : ℕ) (xs : List X)
    → position_from test first xs ≡ None → list_any test xs ≡ false
position_from-none test first [] none = refl
position_from-none test first (x ∷ xs) none =
    by (test x) refl (λ later. position_from-none test (first + 1) xs later)
  where
    by : (passes : Bool) → test x ≡ passes
        → (position_from test (first + 1) xs ≡ None → list_any test xs ≡ false)
        → list_any test (x ∷ xs) ≡ false
    by true is rest = absurd (none-some first (sym (rw is at none)))
    by false is rest = rw is (rest (rw is at none))

-- where no guard is the first that passes, none passes
pub first_that-none : (passes : Rule → Bool) (rules : List Rule) → first_that passes rules ≡ None
    → list_any passes rules ≡ false
first_that-none passes rules none = by (position_from passes 0 rules) refl
  where
    by : (place : Option ℕ) → position_from passes 0 rules ≡ place
        → list_any passes rules ≡ false
    by None is = position_from-none passes 0 rules is
    by (Some place) is =
        let first = position_from-passes passes 0 rules place is in
        let at : first.0 ≡ place = omega (arith, first.2) in
        let give : Rule → Chosen = λ rule. record { number = place; rule = rule } in
        let found : first_that passes rules ≡ Some (give first.1) =
        ap (option_and_then (chosen_at rules)) is
        ∙ ap (λ (i : ℕ). option_map give (slice_get rules i)) (sym at)
        ∙ ap (option_map give) first.3 in
        absurd (none-some (give first.1) (sym none ∙ found))

-- What is accepted is the message of an open input.
pub accepts-input : (vars : List Value) (rule : Rule) (m : ℕ) → accepts vars rule m ≡ true
    → (message_in rule.kind ≡ Some m) × (is_open vars rule ≡ true)
accepts-input vars rule m e =
    let both =
    and_parts (option_map_or (λ k. k == m) (message_in rule.kind) false) (is_open vars rule) e in
    (some_place (message_in rule.kind) m both.0, both.1)

-- ---- a local step

-- what a local step by guard g is
pub record IsLocalStep (body : Body) (state : ℕ) (vars : List Value) (g : ℕ) (after : Part)
    : Type 0 where
  pub rule : Rule
  pub there : guard_at body state g ≡ Some rule
  pub tau : rule.kind ≡ action.Tau
  pub passes : is_open vars rule ≡ true
  pub outcome : after ≡ after_guard body vars rule rule.next 0 value.Unit

-- a part after a local step is after a tau that is open
pub tau_part-step : (body : Body) (p : Part) (g : ℕ) (after : Part)
    → tau_part body p g ≡ Some after → IsLocalStep body p.state p.vars g after
tau_part-step body p g after did =
    let by = some_and_then (part_after_tau body p) (guard_at body p.state g) after did in
    let moved =
    some_when (is_tau by.0.kind && is_open p.vars by.0)
    (after_guard body p.vars by.0 by.0.next 0 value.Unit) after by.2 in
    let both = and_parts (is_tau by.0.kind) (is_open p.vars by.0) moved.0 in
    record {
      rule = by.0;
      there = by.1;
      tau = tau_is by.0.kind both.0;
      passes = both.1;
      outcome = sym moved.1;
    }

-- ---- idle

-- a home with an idle state is idle there
pub home_idle : (place : HomePlace) (state : ℕ) → home_idle_state place ≡ Some state
    → place ≡ Idle state
home_idle (Idle s) state e = ap (λ (t : ℕ). Idle t) (same_Some s state e)
home_idle (Waits waiting) state e = absurd (cc)

-- so is a remote
pub remote_idle : (place : Place) (state : ℕ) → idle_state place ≡ Some state → place ≡ Comm state
remote_idle (Comm s) state e = ap (λ (t : ℕ). Comm t) (same_Some s state e)
remote_idle (Trans g) state e = absurd (cc)
remote_idle (Due g) state e = absurd (cc)

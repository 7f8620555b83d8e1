-- The ready list has exactly the enabled steps.
use Rattle.std.proofs.Common.{◌≡◌, ◌<◌, Bool, true, false, List, [], ◌∷◌}
use Rattle.std.proofs.Common.{filter, Option, Some, None, is_some}
use Rattle.std.proofs.Common.{refl, sym, subst, arith}
use Rattle.std.specs.List.{AllByRecursion, Contains}
use Rattle.std.proofs.lemmas.List.Elements.{All-contains, filter_passes, Contains-append_right}
use Rattle.rv_base.proofs.Lists.{AllByRecursion-weaker}
use Rattle.proto_model.specs.Proper.{IsProper, most_guards}
use Rattle.proto_model.specs.declared.numbered.Side.TheVariants as side
use Rattle.async_shape.specs.Setting.{Setting}
use Rattle.async_shape.specs.Config.{Config, count_of}
use Rattle.async_shape.specs.Next.{StepOutcome, outcome, next, is_enabled}
use Rattle.async_shape.specs.declared.step.Step.{Step}
use Rattle.async_shape.specs.declared.step.Step.TheVariants as step
use Rattle.async_shape.proofs.StepInversion.{next-outcome, HomeTau-outcome, HomeTake-outcome}
use Rattle.async_shape.proofs.StepInversion.{HomeSend-outcome, HomeDrop-outcome, RemoteTau-outcome}
use Rattle.async_shape.proofs.StepInversion.{RemoteSend-outcome, RemoteAnswer-outcome}
use Rattle.async_shape.proofs.StepInversion.{RemoteReply-outcome, Up-outcome, Down-outcome}
use Rattle.drive_report.specs.Ready.{all_steps, ready_list}
use Rattle.drive_report.proofs.NoneReady.{IsWithin, each-within, guard-few}

-- ---- lists

module _ {X : Type 0} where
  contains-first : (x : X) (xs : List X) → Contains (x ∷ xs) x
  contains-first x xs = (0, (omega arith), refl)

  contains-later : (x : X) (xs : List X) (y : X) → Contains xs y → Contains (x ∷ xs) y
  contains-later x xs y there = Contains-append_right (x ∷ []) xs y there

  contains-none : (x : X) → Contains [] x → ⊥
  contains-none x there = let below : there.0 < 0 = there.1 in omega arith

  -- what passes the test is among those that pass it
  passes-contained : (test : X → Bool) (xs : List X)
      → AllByRecursion (λ x. test x ≡ true → Contains (filter test xs) x) xs
  passes-contained test [] = tt
  passes-contained test (x ∷ xs) = by (test x) refl (passes-contained test xs)
    where
      by : (passes : Bool) → test x ≡ passes
          → AllByRecursion (λ y. test y ≡ true → Contains (filter test xs) y) xs
          → AllByRecursion (λ y. test y ≡ true → Contains (filter test (x ∷ xs)) y) (x ∷ xs)
      by true is rest =
          let kept : filter test (x ∷ xs) ≡ x ∷ filter test xs = rw is refl in (
            λ passes. subst (λ ys. Contains ys x) (sym kept) (contains-first x (filter test xs)),
            AllByRecursion-weaker (λ y. test y ≡ true → Contains (filter test xs) y)
                (λ y. test y ≡ true → Contains (filter test (x ∷ xs)) y) xs
                (λ y there passes.
                subst (λ ys. Contains ys y) (sym kept)
                (contains-later x (filter test xs) y (there passes)))
                rest,
          )
      by false is rest =
          let left : filter test (x ∷ xs) ≡ filter test xs = rw is refl in (
            λ passes. absurd (cc),
            AllByRecursion-weaker (λ y. test y ≡ true → Contains (filter test xs) y)
                (λ y. test y ≡ true → Contains (filter test (x ∷ xs)) y) xs
                (λ y there passes. subst (λ ys. Contains ys y) (sym left) (there passes)) rest,
          )

  -- where none passes the test, none is among those that pass it
  filter-empty : (test : X → Bool) (xs : List X) → ((x : X) → test x ≡ false)
      → filter test xs ≡ []
  filter-empty test [] none = refl
  filter-empty test (x ∷ xs) none = rw (none x) (filter-empty test xs none)

-- ---- the numbers of a step that is enabled

is_some-value : {X : Type 0} (found : Option X) → is_some found ≡ true
    → (x : X) × (found ≡ Some x)
is_some-value (Some x) is = (x, refl)
is_some-value None is = absurd (cc)

module _ (setting : Setting) (c : Config) (proper : IsProper setting.protocol) where
  outcome-within : (s : Step) (o : StepOutcome) → outcome setting c s ≡ Some o
      → IsWithin most_guards (count_of c) s
  outcome-within (step.HomeTau g) o did =
      let moves = HomeTau-outcome setting c g o did in
      guard-few side.Home setting.protocol.messages setting.protocol.home moves.is.state g
      moves.is.step.rule proper.home moves.is.step.there
  outcome-within (step.HomeTake j) o did = (HomeTake-outcome setting c j o did).0
  outcome-within (step.HomeSend g j) o did =
      let moves = HomeSend-outcome setting c g j o did in (
        guard-few side.Home setting.protocol.messages setting.protocol.home moves.1.is.state g
            moves.1.is.rule proper.home moves.1.is.there,
        moves.0,
      )
  outcome-within (step.HomeDrop j) o did = (HomeDrop-outcome setting c j o did).0
  outcome-within (step.RemoteTau j g) o did =
      let moves = RemoteTau-outcome setting c j g o did in (
        moves.within,
        guard-few side.Remote setting.protocol.messages setting.protocol.remote moves.is.state g
            moves.is.step.rule proper.remote moves.is.step.there,
      )
  outcome-within (step.RemoteSend j) o did = (RemoteSend-outcome setting c j o did).within
  outcome-within (step.RemoteAnswer j) o did = (RemoteAnswer-outcome setting c j o did).within
  outcome-within (step.RemoteReply j) o did = (RemoteReply-outcome setting c j o did).within
  outcome-within (step.Up j) o did = (Up-outcome setting c j o did).0
  outcome-within (step.Down j) o did = (Down-outcome setting c j o did).within

  -- A step that is enabled has numbers in range.
  enabled-within : (s : Step) → is_enabled setting c s ≡ true
      → IsWithin most_guards (count_of c) s
  enabled-within s enabled =
      let after = is_some-value (next setting c s) enabled in
      let by = next-outcome setting c after.0 s after.1 in
      outcome-within s by.0 by.1

  -- A step that is enabled is in the ready list.
  pub enabled-ready : (s : Step) → is_enabled setting c s ≡ true
      → Contains (ready_list setting c) s
  unfolding all_steps
  enabled-ready s enabled =
      let test = is_enabled setting c in
      let n = count_of c in
      each-within (λ (t : Step). test t ≡ true → Contains (filter test (all_steps n)) t)
      most_guards n (passes-contained test (all_steps n)) s (enabled-within s enabled) enabled

  -- Where no step is in the ready list, none is enabled.
  pub empty-none : ready_list setting c ≡ [] → (s : Step) → is_enabled setting c s ≡ false
  empty-none empty s = by (is_enabled setting c s) refl
    where
      by : (enabled : Bool) → is_enabled setting c s ≡ enabled → is_enabled setting c s ≡ false
      by false is = is
      by true is =
          absurd (contains-none s
          (subst (λ (steps : List Step). Contains steps s) empty (enabled-ready s is)))

-- A step in the ready list is enabled.
pub ready-enabled : (setting : Setting) (c : Config) (s : Step)
    → Contains (ready_list setting c) s → is_enabled setting c s ≡ true
ready-enabled setting c s there =
    let test = is_enabled setting c in
    All-contains (λ (t : Step). test t ≡ true) (ready_list setting c) s
    (filter_passes test (all_steps (count_of c))) there

-- Where no step is enabled, none is in the ready list.
pub none-empty : (setting : Setting) (c : Config) → ((s : Step) → is_enabled setting c s ≡ false)
    → ready_list setting c ≡ []
none-empty setting c none = filter-empty (is_enabled setting c) (all_steps (count_of c)) none

-- A turn of a driven run: where it goes on, and where it stops.
use Rattle.std.proofs.Common.{◌≡◌, ℕ, zero, suc, ◌+◌, ◌-◌, ◌<◌, ◌≤◌, ◌/◌, ◌^◌, Bool, true, false}
use Rattle.std.proofs.Common.{List, [], ◌∷◌, length, filter, Option, Some, None, refl, sym, ap}
use Rattle.std.proofs.Common.{subst}
use Rattle.std.proofs.Common.{arith, ◌∙◌}
use Rattle.std.specs.List.{AllByRecursion}
use Rattle.std.proofs.Math.Nat.{mod-lt}
use Rattle.std.proofs.lemmas.Option.{none-some, slice_get-get_or}
use Rattle.rv_base.proofs.Lists.{AllByRecursion-at}
use Rattle.proto_model.specs.Proper.{IsProper}
use Rattle.async_shape.specs.Setting.{Setting}
use Rattle.async_shape.specs.Config.{Config, count_of, start}
use Rattle.ordered_links.specs.Packets.{is_request, is_ack, is_nack, is_reply}
use Rattle.async_shape.specs.Next.{is_enabled}
use Rattle.async_shape.specs.Run.{after_step}
use Rattle.async_shape.specs.Shape.{IsShaped}
use Rattle.async_shape.specs.declared.step.Step.{Step}
use Rattle.async_shape.proofs.Start.{IsShaped-start}
use Rattle.async_shape.proofs.EveryStepKeep.{IsShaped-after_step}
use Rattle.abstraction_map.specs.Abstraction.{abstraction}
use Rattle.drive_report.specs.Drive.{Driven, driven_on, number_after, place_chosen, step_chosen}
use Rattle.drive_report.specs.Drive.{drive_from, drive_run, tells_event, puts_a}
use Rattle.drive_report.specs.Drive.{crosses_at}
use Rattle.drive_report.specs.Ready.{all_steps, ready_list, IsStill}
use Rattle.drive_report.specs.Turns.{one_if, IsAtMost, ended, counted, counted_to_end, IsTurn}
use Rattle.async_shape.specs.Run.{config_at_end}
use Rattle.drive_report.specs.declared.summary.Summary.{Summary}
use Rattle.drive_report.proofs.Still.{shaped-still}

module _ (setting : Setting) (left : ℕ) (c d : Config) (x : ℕ) (so_far now : Summary) where
  -- what follows in a run, where this step is chosen
  abbrev follows : Option Step → Driven
  follows chosen =
      driven_on chosen
      (λ s. drive_from setting left (after_step setting c s) (number_after x))

  -- Where a step was taken, the rest of the run is counted on from there.
  on-by : (chosen : Option Step) → IsTurn setting chosen true c so_far d now
      → counted_to_end setting now d (drive_from setting left d (number_after x))
      ≡ counted_to_end setting so_far c (follows chosen)
  on-by None is = absurd (cc)
  on-by (Some s) is = rw (is.1, is.2) refl

  pub turn-on : IsTurn setting (step_chosen (number_after x) (ready_list setting c)) true c so_far d
      now
      → counted_to_end setting now d (drive_from setting left d (number_after x))
      ≡ counted_to_end setting so_far c (drive_from setting (suc left) c x)
  turn-on is = on-by (step_chosen (number_after x) (ready_list setting c)) is

  -- Where none was, the run has stopped.
  stop-by : (chosen : Option Step) → IsTurn setting chosen false c so_far d now
      → ended true now ≡ counted_to_end setting so_far c (follows chosen)
  stop-by None is = rw is.1 refl
  stop-by (Some s) is = absurd (cc)

  pub turn-stops : IsTurn setting (step_chosen (number_after x) (ready_list setting c)) false c
      so_far
      d now
      → ended true now ≡ counted_to_end setting so_far c (drive_from setting (suc left) c x)
  turn-stops is = stop-by (step_chosen (number_after x) (ready_list setting c)) is

-- ---- where it stops

-- no step is chosen only where there is none
chosen-none : (x : ℕ) (steps : List Step) → step_chosen x steps ≡ None → steps ≡ []
chosen-none x [] none = refl
chosen-none x (s ∷ steps) none =
    let some : 0 < length (s ∷ steps) = omega arith in
    let place = place_chosen x (length (s ∷ steps)) in
    let within : place < length (s ∷ steps) = mod-lt (x / 2 ^ 33) some in
    absurd (none-some _ (sym none ∙ slice_get-get_or (s ∷ steps) place s within))

module _ (setting : Setting) where
  -- A run that stopped did so where no step is enabled.
  stopped-none : (turns : ℕ) (c : Config) (x : ℕ) → (drive_from setting turns c x).stopped ≡ true
      → ready_list setting (config_at_end setting c (drive_from setting turns c x).steps) ≡ []
  stopped-none zero c x stopped = absurd (cc)
  stopped-none (suc turns) c x stopped =
      by (step_chosen (number_after x) (ready_list setting c)) refl stopped
      (λ s. stopped-none turns (after_step setting c s) (number_after x))
    where
      by : (chosen : Option Step) → step_chosen (number_after x) (ready_list setting c) ≡ chosen
          → (driven_on chosen
          (λ s. drive_from setting turns (after_step setting c s) (number_after x))).stopped ≡ true
          → ((s : Step)
          → (drive_from setting turns (after_step setting c s) (number_after x)).stopped ≡ true
          → ready_list setting
          (config_at_end setting (after_step setting c s)
          (drive_from setting turns (after_step setting c s) (number_after x)).steps) ≡ [])
          → ready_list setting
          (config_at_end setting c
          (driven_on chosen
          (λ s. drive_from setting turns (after_step setting c s) (number_after x))).steps) ≡ []
      by None is stops rest = chosen-none (number_after x) (ready_list setting c) is
      by (Some s) is stops rest = rest s stops

  -- the last configuration has the shape
  shaped-at_end : IsProper setting.protocol → (c : Config) (steps : List Step) → IsShaped setting c
      → IsShaped setting (config_at_end setting c steps)
  shaped-at_end proper c [] shaped = shaped
  shaped-at_end proper c (s ∷ steps) shaped =
      shaped-at_end proper (after_step setting c s) steps
      (IsShaped-after_step setting proper c s shaped)

  -- A run that stopped did so where no event takes place.
  pub stopped-still : (n : ℕ) → IsProper setting.protocol → 1 ≤ n → n ≤ 64 → 2 ≤ setting.slots
      → setting.slots ≤ 64 → (turns seed : ℕ) → (drive_run setting n turns seed).stopped ≡ true
      → IsStill setting.protocol (abstraction setting.protocol
      (config_at_end setting (start setting.protocol n) (drive_run setting n turns seed).steps))
  stopped-still n proper some few two most turns seed stopped =
      let first = start setting.protocol n in
      let steps = (drive_run setting n turns seed).steps in
      shaped-still setting proper (config_at_end setting first steps)
      (shaped-at_end proper first steps (IsShaped-start setting n proper some few two most))
      (stopped-none turns first seed stopped)

-- ---- turns one after the other

filter-each : (test : Step → Bool) (steps : List Step)
    → AllByRecursion (λ s. test s ≡ true) (filter test steps)
filter-each test [] = tt
filter-each test (s ∷ steps) = by (test s) refl (filter-each test steps)
  where
    by : (passes : Bool) → test s ≡ passes
        → AllByRecursion (λ r. test r ≡ true) (filter test steps)
        → AllByRecursion (λ r. test r ≡ true) (filter test (s ∷ steps))
    by true is rest = rw is (is, rest)
    by false is rest = rw is rest

chosen-among : (P : Step → Type 0) (x : ℕ) (steps : List Step) (s : Step)
    → AllByRecursion P steps → step_chosen x steps ≡ Some s → P s
chosen-among P x [] s each chosen = absurd (cc)
chosen-among P x (first ∷ steps) s each chosen =
    AllByRecursion-at P (first ∷ steps) (place_chosen x (length (first ∷ steps))) s each chosen

-- A step that is chosen among those that are enabled is enabled.
pub chosen-enabled : (setting : Setting) (c : Config) (x : ℕ) (s : Step)
    → step_chosen x (ready_list setting c) ≡ Some s → is_enabled setting c s ≡ true
chosen-enabled setting c x s chosen =
    let test = is_enabled setting c in
    chosen-among (λ r. test r ≡ true) x (ready_list setting c) s
    (filter-each test (all_steps (count_of c))) chosen

one_if-most : (b : Bool) → one_if b ≤ 1
one_if-most true = omega arith
one_if-most false = omega arith

-- a count rises by one at most
rises : (most so_far : ℕ) (b : Bool) → so_far ≤ most → so_far + one_if b ≤ most + 1
rises most so_far b few = omega (arith, one_if-most b)

-- One more step is counted once at most.
IsAtMost-counted : (setting : Setting) (most : ℕ) (so_far : Summary) (c : Config) (s : Step)
    → IsAtMost most so_far → IsAtMost (most + 1) (counted setting so_far c s)
IsAtMost-counted setting most so_far c s few = record {
  steps = omega (arith, few.steps);
  events = rises most so_far.events (tells_event setting (c, s)) few.events;
  requests = rises most so_far.requests (puts_a setting (c, s) is_request) few.requests;
  acks = rises most so_far.acks (puts_a setting (c, s) is_ack) few.acks;
  nacks = rises most so_far.nacks (puts_a setting (c, s) is_nack) few.nacks;
  replies = rises most so_far.replies (puts_a setting (c, s) is_reply) few.replies;
  crossed = rises most so_far.crossed (crosses_at c s) few.crossed;
}

module _ (setting : Setting) (most : ℕ) (c d : Config) (so_far now : Summary)
    (few : IsAtMost most so_far) where
  few-by : (chosen : Option Step) → IsTurn setting chosen true c so_far d now
      → IsAtMost (most + 1) now × (now.stopped ≡ so_far.stopped)
  few-by None is = absurd (cc)
  few-by (Some s) is = (
    subst (IsAtMost (most + 1)) (sym is.2) (IsAtMost-counted setting most so_far c s few),
    ap (λ (r : Summary). r.stopped) is.2,
  )

-- A turn by the next number, of a run in this setting, before which so many are done. What is
-- counted so far and what the rest of the run will count are the whole.
module _ (of from : Setting) (same : of ≡ from) (count done : ℕ) (within : done < count)
    (c d : Config) (x next : ℕ) (follows_x : next ≡ number_after x) (so_far now whole : Summary)
    (is_whole : counted_to_end from so_far c (drive_from from (count - done) c x) ≡ whole)
    (moved : Bool) (turn : IsTurn of (step_chosen next (ready_list of c)) moved c so_far d now)
  where
    left : suc (count - (done + 1)) ≡ count - done
    left = omega arith

    turn-here : IsTurn from (step_chosen (number_after x) (ready_list from c)) moved c so_far d now
    turn-here =
        subst (λ (k : ℕ). IsTurn from (step_chosen k (ready_list from c)) moved c so_far d now)
        follows_x
        (subst (λ (s : Setting). IsTurn s (step_chosen next (ready_list s c)) moved c so_far d now)
        same
        turn)

    so_whole : counted_to_end from so_far c (drive_from from (suc (count - (done + 1))) c x) ≡ whole
    so_whole =
        ap (λ (k : ℕ). counted_to_end from so_far c (drive_from from k c x)) left ∙ is_whole

    -- It took a step, and so they are the whole after it.
    pub turn-goes_on : moved ≡ true
        → counted_to_end from now d (drive_from from (count - (done + 1)) d next) ≡ whole
    turn-goes_on took =
        ap (λ (k : ℕ). counted_to_end from now d (drive_from from (count - (done + 1)) d k))
        follows_x
        ∙ turn-on from (count - (done + 1)) c d x so_far now
        (subst
        (λ (b : Bool).
        IsTurn from (step_chosen (number_after x) (ready_list from c)) b c so_far d now) took
        turn-here)
        ∙ so_whole

    pub turn-counts : moved ≡ true → IsAtMost done so_far
        → IsAtMost (done + 1) now × (now.stopped ≡ so_far.stopped)
    turn-counts took few =
        few-by from done c d so_far now few (step_chosen (number_after x) (ready_list from c))
        (subst
        (λ (b : Bool).
        IsTurn from (step_chosen (number_after x) (ready_list from c)) b c so_far d now) took
        turn-here)

    -- It took none, and the run has stopped.
    pub turn-ends : moved ≡ false → ended true now ≡ whole
    turn-ends none =
        turn-stops from (count - (done + 1)) c d x so_far now
        (subst
        (λ (b : Bool).
        IsTurn from (step_chosen (number_after x) (ready_list from c)) b c so_far d now) none
        turn-here)
        ∙ so_whole

-- Where an event takes place in what a configuration stands for, some step is enabled there.
use Rattle.std.proofs.Common.{◌≡◌, Bool, true, false, List, [], ◌∷◌, filter, Option, Some, None}
use Rattle.std.proofs.Common.{is_some, refl}
use Rattle.proto_model.specs.Proper.{IsProper}
use Rattle.event_runs.specs.Reached.{TakesPlace}
use Rattle.async_shape.specs.Setting.{Setting}
use Rattle.async_shape.specs.Config.{Config, count_of}
use Rattle.async_shape.specs.Next.{next, is_enabled}
use Rattle.async_shape.specs.Shape.{IsShaped}
use Rattle.async_shape.specs.declared.step.Step.{Step}
use Rattle.abstraction_map.specs.Abstraction.{abstraction}
use Rattle.drive_report.specs.Ready.{all_steps, ready_list}
use Rattle.drive_report.proofs.Still.{shaped-still}
use Rattle.every_run.specs.ToldEvents.{SomeStep}

-- the first of what a filter leaves passes
filter-first : {X : Type 0} (test : X → Bool) (xs : List X) (x : X) (rest : List X)
    → filter test xs ≡ x ∷ rest → test x ≡ true
filter-first test [] x rest e = absurd (cc)
filter-first test (y ∷ ys) x rest e = by (test y) refl (filter-first test ys x rest)
  where
    by : (passes : Bool) → test y ≡ passes → (filter test ys ≡ x ∷ rest → test x ≡ true)
        → test x ≡ true
    by true is later = let same : y ∷ filter test ys ≡ x ∷ rest = rw is at e in cc
    by false is later = later (rw is at e)

-- an enabled step leads somewhere
enabled-leads : (setting : Setting) (c : Config) (s : Step) (after : Option Config)
    → next setting c s ≡ after → is_some after ≡ true → SomeStep setting c
enabled-leads setting c s None is some = absurd (cc)
enabled-leads setting c s (Some d) is some = record { step = s; after = d; leads = is }

module _ (setting : Setting) (proper : IsProper setting.protocol) (c : Config)
    (shaped : IsShaped setting c)
    (moves : TakesPlace setting.protocol (abstraction setting.protocol c)) where
  by_ready : (steps : List Step) → ready_list setting c ≡ steps → SomeStep setting c
  by_ready [] is =
      absurd (shaped-still setting proper c shaped is moves.event moves.next moves.step)
  by_ready (s ∷ steps) is =
      enabled-leads setting c s (next setting c s) refl
      (filter-first (is_enabled setting c) (all_steps (count_of c)) s steps is)

  pub some-step : SomeStep setting c
  some-step = by_ready (ready_list setting c) refl

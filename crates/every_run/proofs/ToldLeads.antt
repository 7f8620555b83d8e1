-- What is told of steps leads where they mean: so events reach what each configuration of a run
-- stands for.
use Rattle.std.proofs.Common.{◌≡◌, ℕ, ◌≤◌, List, [], ◌∷◌, ◌++◌, Option, Some, unwrap_or}
use Rattle.std.proofs.Common.{refl, sym, ap, subst, ◌∙◌}
use Rattle.std.specs.List.{AllByRecursion}
use Rattle.proto_model.specs.Proper.{IsProper}
use Rattle.proto_model.specs.Rendezvous.{RvStep, rv_start}
use Rattle.proto_model.specs.declared.rendezvous.Event.{Event}
use Rattle.proto_model.specs.declared.rendezvous.RvConfig.{RvConfig}
use Rattle.event_runs.specs.Reached.{Leads, IsReached}
use Rattle.event_runs.proofs.Leading.{Leads-append}
use Rattle.async_shape.specs.Setting.{Setting}
use Rattle.async_shape.specs.Config.{Config, start}
use Rattle.async_shape.specs.Next.{next}
use Rattle.async_shape.specs.Run.{run, after_step, config_at_end}
use Rattle.async_shape.specs.Shape.{IsShaped}
use Rattle.async_shape.specs.declared.step.Step.{Step}
use Rattle.async_shape.proofs.Start.{IsShaped-start}
use Rattle.async_shape.proofs.EveryStepKeep.{IsShaped-after_step}
use Rattle.abstraction_map.specs.Abstraction.{abstraction}
use Rattle.abstraction_map.specs.Told.{told}
use Rattle.abstraction_map.specs.Meant.{Means, IsRefined}
use Rattle.abstraction_map.specs.declared.told.Told.{Told}
use Rattle.abstraction_map.specs.declared.told.Told.TheVariants.{Refused, Stutter, Is}
use Rattle.abstraction_map.proofs.Refined.{shaped-refined}
use Rattle.abstraction_map.proofs.StartMeans.{abstraction-start}
use Rattle.every_run.specs.ToldEvents.{event_of, told_events}

-- The configuration has the shape, and events reach what it stands for.
pub record ComesTo (setting : Setting) (n : ℕ) (c : Config) : Type 0 where
  pub shaped : IsShaped setting c
  pub reached : IsReached setting.protocol n (abstraction setting.protocol c)

module _ (setting : Setting) where
  -- what a configuration stands for
  abbrev pub stands_for : Config → RvConfig
  stands_for c = abstraction setting.protocol c

  -- what a step means is where the event that is told of it leads
  told-leads : (c : Config) (what : Told) (after : Option Config) → Means setting c what after
      → Leads setting.protocol (event_of what) (stands_for c) (stands_for (unwrap_or after c))
  told-leads c Refused after means =
      ap (λ (o : Option Config). stands_for (unwrap_or o c)) means
  told-leads c Stutter after means =
      ap (λ (o : Option Config). stands_for (unwrap_or o c)) means.1 ∙ means.2
  told-leads c (Is e) after means = (
    stands_for means.0,
    means.2,
    ap (λ (o : Option Config). stands_for (unwrap_or o c)) means.1,
  )

  -- an event that is told takes place
  pub told-takes_place : (c : Config) → IsRefined setting c → (s : Step) (e : Event)
      → told setting c s ≡ Is e
      → RvStep setting.protocol (stands_for c) e (stands_for (after_step setting c s))
  told-takes_place c refined s e is =
      let means : Means setting c (Is e) (next setting c s) =
      subst (λ (what : Told). Means setting c what (next setting c s)) is (refined.steps s) in
      subst (λ (o : Option Config).
      RvStep setting.protocol (stands_for c) e (stands_for (unwrap_or o c)))
      (sym means.1) means.2

  module _ (proper : IsProper setting.protocol) where
    -- so it is of a step in a configuration that has the shape
    pub step-leads : (c : Config) (s : Step) → IsShaped setting c
        → Leads setting.protocol (event_of (told setting c s)) (stands_for c)
        (stands_for (after_step setting c s))
    step-leads c s shaped =
        told-leads c (told setting c s) (next setting c s)
        ((shaped-refined setting c shaped proper).steps s)

    -- and of steps, one after another
    pub steps-lead : (c : Config) (steps : List Step) → IsShaped setting c
        → Leads setting.protocol (told_events setting c steps) (stands_for c)
        (stands_for (config_at_end setting c steps))
    steps-lead c [] shaped = refl
    steps-lead c (s ∷ steps) shaped =
        let d = after_step setting c s in
        Leads-append setting.protocol (event_of (told setting c s))
        (told_events setting d steps) (stands_for c) (stands_for d)
        (stands_for (config_at_end setting d steps)) (step-leads c s shaped)
        (steps-lead d steps (IsShaped-after_step setting proper c s shaped))

    -- What is kept by each step, enabled or not.
    pub step-comes : (n : ℕ) (c : Config) (s : Step) → ComesTo setting n c
        → ComesTo setting n (after_step setting c s)
    step-comes n c s comes =
        let events = comes.reached.events in
        record {
          shaped = IsShaped-after_step setting proper c s comes.shaped;
          reached = record {
            events = events ++ event_of (told setting c s);
            leads =
                Leads-append setting.protocol events (event_of (told setting c s))
                (rv_start setting.protocol n) (stands_for c)
                (stands_for (after_step setting c s)) comes.reached.leads
                (step-leads c s comes.shaped);
          };
        }

    -- by each enabled step
    pub next-comes : (n : ℕ) (c d : Config) (s : Step) → ComesTo setting n c
        → next setting c s ≡ Some d → ComesTo setting n d
    next-comes n c d s comes did =
        subst (λ (o : Option Config). ComesTo setting n (unwrap_or o c)) did
        (step-comes n c s comes)

    -- by steps, one after another
    pub end-comes : (n : ℕ) (c : Config) (steps : List Step) → ComesTo setting n c
        → ComesTo setting n (config_at_end setting c steps)
    end-comes n c [] comes = comes
    end-comes n c (s ∷ steps) comes =
        end-comes n (after_step setting c s) steps (step-comes n c s comes)

    -- so it holds of each configuration of a run
    pub run-comes : (n : ℕ) (c : Config) (steps : List Step) → ComesTo setting n c
        → AllByRecursion (ComesTo setting n) (run setting c steps)
    run-comes n c [] comes = (comes, tt)
    run-comes n c (s ∷ steps) comes =
        (comes, run-comes n (after_step setting c s) steps (step-comes n c s comes))

    -- No events reach what the start stands for.
    pub start-comes : (n : ℕ) → 1 ≤ n → n ≤ 64 → 2 ≤ setting.slots → setting.slots ≤ 64
        → ComesTo setting n (start setting.protocol n)
    start-comes n some few two most = record {
      shaped = IsShaped-start setting n proper some few two most;
      reached = record { events = []; leads = abstraction-start setting.protocol n };
    }

    -- so it holds of each configuration of each run from the start
    pub every-run-comes : (n : ℕ) → 1 ≤ n → n ≤ 64 → 2 ≤ setting.slots → setting.slots ≤ 64
        → (steps : List Step)
        → AllByRecursion (ComesTo setting n) (run setting (start setting.protocol n) steps)
    every-run-comes n some few two most steps =
        run-comes n (start setting.protocol n) steps (start-comes n some few two most)

-- The events that are told along a run of the controllers, and whether the controllers can go on.
use Rattle.std.specs.Prelude.{◌≡◌, List, [], ◌∷◌, ◌++◌, Some}
use Rattle.proto_model.specs.declared.rendezvous.Event.{Event}
use Rattle.async_shape.specs.Setting.{Setting}
use Rattle.async_shape.specs.Config.{Config}
use Rattle.async_shape.specs.Next.{next}
use Rattle.async_shape.specs.Run.{after_step}
use Rattle.async_shape.specs.declared.step.Step.{Step}
use Rattle.abstraction_map.specs.Told.{told}
use Rattle.abstraction_map.specs.declared.told.Told.{Told}
use Rattle.abstraction_map.specs.declared.told.Told.TheVariants.{Refused, Stutter, Is}

-- The event that is told of a step; none of a stutter, and none of a step that is refused.
abbrev pub event_of : Told → List Event
event_of Refused = []
event_of Stutter = []
event_of (Is e) = e ∷ []

module _ (setting : Setting) where
  -- The events that are told along these steps, taken one after another from the configuration, in
  -- their order.
  abbrev pub told_events : Config → List Step → List Event
  told_events c [] = []
  told_events c (s ∷ steps) =
      event_of (told setting c s) ++ told_events (after_step setting c s) steps

-- Some step is enabled in the configuration.
pub record SomeStep (setting : Setting) (c : Config) : Type 0 where
  pub step : Step
  pub after : Config
  pub leads : next setting c step ≡ Some after

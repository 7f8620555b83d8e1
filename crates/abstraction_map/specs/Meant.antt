-- What is told of a step is what it does to the abstraction: one rendezvous step, or nothing.
use Rattle.std.specs.Prelude.{◌≡◌, ℕ, Option, Some, None, slice_get}
use Rattle.proto_model.specs.Guards.{part}
use Rattle.proto_model.specs.Rendezvous.{RvStep, IsConfigOf}
use Rattle.controller_table.specs.declared.rows.GuardId.{GuardId}
use Rattle.controller_table.specs.declared.rows.Place.TheVariants.{Comm, Due}
use Rattle.async_shape.specs.Setting.{Setting}
use Rattle.async_shape.specs.Config.{Config}
use Rattle.async_shape.specs.Next.{next}
use Rattle.async_shape.specs.declared.config.HomePlace.TheVariants.{Idle}
use Rattle.async_shape.specs.declared.config.RemoteState.{RemoteState}
use Rattle.async_shape.specs.declared.step.Step.{Step}
use Rattle.abstraction_map.specs.Abstraction.{abstraction}
use Rattle.abstraction_map.specs.Told.{told}
use Rattle.abstraction_map.specs.declared.told.Told.{Told}
use Rattle.abstraction_map.specs.declared.told.Told.TheVariants.{Refused, Stutter, Is}

module _ (setting : Setting) (c : Config) where
  -- A step that leads to this configuration, if it is enabled, means what is told of it: one that
  -- is refused isn't enabled; a stutter leaves the abstraction as it is; and an event is a
  -- rendezvous step between the abstractions before and after.
  abbrev pub Means : Told → Option Config → Type 0
  Means Refused after = after ≡ None
  Means Stutter after =
      (d : Config) × (after ≡ Some d)
      × (abstraction setting.protocol d ≡ abstraction setting.protocol c)
  Means (Is e) after =
      (d : Config) × (after ≡ Some d)
      × RvStep setting.protocol (abstraction setting.protocol c) e (abstraction setting.protocol d)

  -- the step means what is told of it
  abbrev pub IsMeant : Step → Type 0
  IsMeant s = Means (told setting c s) (next setting c s)

  -- What the configuration stands for is a configuration of the rendezvous meaning; a process that
  -- waits for nothing stands there as it is, a remote that is due to reply in its active state; and
  -- each step means what is told of it.
  pub record IsRefined : Type 0 where
    pub config : IsConfigOf setting.protocol (abstraction setting.protocol c)
    pub home :
        (state : ℕ) → c.home.place ≡ Idle state
        → (abstraction setting.protocol c).home ≡ part state c.home.vars
    pub remotes :
        (j state : ℕ) (remote : RemoteState) → slice_get c.remotes j ≡ Some remote
        → remote.place ≡ Comm state
        → slice_get (abstraction setting.protocol c).remotes j ≡ Some (part state remote.vars)
    pub due :
        (j : ℕ) (g : GuardId) (remote : RemoteState) → slice_get c.remotes j ≡ Some remote
        → remote.place ≡ Due g
        → slice_get (abstraction setting.protocol c).remotes j ≡ Some (part g.state remote.vars)
    pub steps : (s : Step) → IsMeant s

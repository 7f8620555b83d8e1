-- A step means what is told of it, where the event behind it leads from the abstraction before to
-- the one after, or leaves it as it is where there is none.
use Rattle.std.proofs.Common.{◌≡◌, ℕ, ◌<◌, Option, Some, None, is_some, slice_get, refl, sym, ap}
use Rattle.std.proofs.Common.{subst, ◌∙◌}
use Rattle.std.specs.Option.{option_map}
use Rattle.std.proofs.lemmas.Option.{get_or_from_slice_get}
use Rattle.proto_model.specs.Numbered.{NumberedProtocol}
use Rattle.proto_model.specs.Rendezvous.{RvStep}
use Rattle.proto_model.specs.declared.rendezvous.RvConfig.{RvConfig}
use Rattle.proto_model.specs.declared.rendezvous.Event.{Event}
use Rattle.ordered_links.specs.Link.{Link}
use Rattle.async_shape.specs.Setting.{Setting}
use Rattle.async_shape.specs.Config.{Config, count_of}
use Rattle.async_shape.specs.Outcome.{RemoteOutcome}
use Rattle.async_shape.specs.Next.{StepOutcome, config_after, remote_moved, outcome}
use Rattle.async_shape.specs.View.{nobody, view_at}
use Rattle.async_shape.specs.declared.config.RemoteState.{RemoteState}
use Rattle.async_shape.specs.declared.step.Step.{Step}
use Rattle.async_shape.proofs.StepInversion.{RemoteMoves}
use Rattle.abstraction_map.specs.Abstraction.{abstraction}
use Rattle.abstraction_map.specs.Told.{event_or_stutter, event_behind, told_if}
use Rattle.abstraction_map.specs.Meant.{Means, IsMeant}

-- this event leads from one configuration to the other; without an event they are the same
abbrev pub LeadsTo : NumberedProtocol → RvConfig → RvConfig → Option Event → Type 0
LeadsTo protocol old new None = new ≡ old
LeadsTo protocol old new (Some e) = RvStep protocol old e new

module _ (setting : Setting) (c : Config) where
  -- the event behind the step, or none, leads to the abstraction of what this outcome leaves
  abbrev pub IsBehind : Step → StepOutcome → Type 0
  IsBehind s o =
      LeadsTo setting.protocol (abstraction setting.protocol c)
      (abstraction setting.protocol (config_after c o)) (event_behind setting.protocol c s)

  -- what leads to the next abstraction is what is meant by the event that is told, or by none
  means-event : (e : Option Event) (d : Config)
      → LeadsTo setting.protocol (abstraction setting.protocol c)
      (abstraction setting.protocol d) e
      → Means setting c (event_or_stutter e) (Some d)
  means-event None d same = (d, refl, same)
  means-event (Some e) d leads = (d, refl, leads)

  -- A step means what is told of it where it is so with each outcome.
  pub IsMeant-is : (s : Step)
      → ((o : StepOutcome) → outcome setting c s ≡ Some o → IsBehind s o) → IsMeant setting c s
  IsMeant-is s behind = by_outcome (outcome setting c s) refl where
    -- by its outcome, if it has one
    by_outcome : (of : Option StepOutcome) → outcome setting c s ≡ of
        → Means setting c
        (told_if setting.protocol c (is_some (option_map (config_after c) of)) s)
        (option_map (config_after c) of)
    by_outcome None did = refl
    by_outcome (Some o) did =
        means-event (event_behind setting.protocol c s) (config_after c o) (behind o did)

-- What is behind a step at a remote, by what it does there. The link is the one from which it takes
-- a packet, if from any.
pub IsBehind-remote_step : (setting : Setting) (c : Config) (link : Option Link) (j : ℕ) (s : Step)
    (P : RemoteState → RemoteOutcome → Type 0) (o : StepOutcome) → RemoteMoves c link j P o
    → ((left : RemoteOutcome) → j < count_of c
    → slice_get c.remotes j ≡ Some (view_at setting.protocol c j).remote
    → P (view_at setting.protocol c j).remote left
    → IsBehind setting c s (remote_moved c link j left))
    → IsBehind setting c s o
IsBehind-remote_step setting c link j s P o moves behind =
    let same : moves.remote ≡ (view_at setting.protocol c j).remote =
    sym (get_or_from_slice_get c.remotes j moves.remote nobody moves.there) in
    subst (IsBehind setting c s) (sym moves.outcome)
    (behind moves.left moves.within
    (moves.there ∙ ap (λ (r : RemoteState). Some r) same)
    (subst (λ (r : RemoteState). P r moves.left) same moves.is))

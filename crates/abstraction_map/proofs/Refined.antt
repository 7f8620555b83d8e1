-- A shaped configuration is refined, and so is each configuration of a run from the start.
use Rattle.std.proofs.Common.{◌≡◌, ℕ, ◌≤◌, List, Some, slice_get, ap, ◌∙◌}
use Rattle.std.specs.List.{AllByRecursion}
use Rattle.std.proofs.lemmas.Option.{slice_get_within, get_or_from_slice_get}
use Rattle.rv_base.proofs.Lists.{AllByRecursion-weaker}
use Rattle.proto_model.specs.Proper.{IsProper}
use Rattle.proto_model.specs.Guards.{part}
use Rattle.proto_model.specs.declared.rendezvous.Part.{Part}
use Rattle.controller_table.specs.declared.rows.Place.{Place}
use Rattle.controller_table.specs.declared.rows.Place.TheVariants.{Comm, Due}
use Rattle.async_shape.specs.Setting.{Setting}
use Rattle.async_shape.specs.Config.{Config, count_of, start}
use Rattle.async_shape.specs.Run.{run}
use Rattle.async_shape.specs.View.{View, nobody, view_at}
use Rattle.async_shape.specs.Shape.{IsShaped}
use Rattle.async_shape.specs.declared.config.RemoteState.{RemoteState}
use Rattle.async_shape.specs.declared.step.Step.{Step}
use Rattle.async_shape.proofs.Start.{IsShaped-start}
use Rattle.async_shape.proofs.EveryStepKeep.{IsShaped-run}
use Rattle.abstraction_map.specs.Abstraction.{part_in_view, abstraction}
use Rattle.abstraction_map.specs.Meant.{IsRefined}
use Rattle.abstraction_map.proofs.ByCase.{part-idle, part-due, home-idle}
use Rattle.abstraction_map.proofs.ByCase.{remote_stands}
use Rattle.abstraction_map.proofs.Frames.{parts-at}
use Rattle.abstraction_map.proofs.AbstractionTyped.{shaped-config}
use Rattle.abstraction_map.proofs.EveryStepMeans.{every_step-means}

module _ (setting : Setting) (c : Config) (shaped : IsShaped setting c) where
  -- A remote that waits for nothing, by its place, stands in the abstraction with its variables.
  remote-stands : (j state : ℕ) (place : Place) (remote : RemoteState)
      → slice_get c.remotes j ≡ Some remote → remote.place ≡ place
      → ((v : View) → v.remote.place ≡ place
      → part_in_view setting.protocol.remote v ≡ part state v.remote.vars)
      → slice_get (abstraction setting.protocol c).remotes j ≡ Some (part state remote.vars)
  remote-stands j state place remote there at by_place =
      let v = view_at setting.protocol c j in
      let is : v.remote ≡ remote = get_or_from_slice_get c.remotes j remote nobody there in
      let stands : remote_stands setting.protocol c j ≡ part state remote.vars =
      by_place v (ap (λ (r : RemoteState). r.place) is ∙ at)
      ∙ ap (λ (r : RemoteState). part state r.vars) is in
      parts-at (count_of c) (remote_stands setting.protocol c) j
      (slice_get_within c.remotes j remote there)
      ∙ ap (λ (p : Part). Some p) stands

  -- A shaped configuration is refined: each step there means what is told of it.
  pub shaped-refined : IsProper setting.protocol → IsRefined setting c
  shaped-refined proper = record {
    config = shaped-config setting proper c shaped;
    home = λ state idle. home-idle setting.protocol c state idle;
    remotes = λ j state remote there idle.
        remote-stands j state (Comm state) remote there idle
        (λ v. part-idle setting.protocol.remote v state);
    due = λ j g remote there is_due.
        remote-stands j g.state (Due g) remote there is_due
        (λ v. part-due setting.protocol.remote v g);
    steps = λ s. every_step-means setting proper c shaped s;
  }

-- Each configuration of each run from the start is refined.
pub IsRefined-run : (setting : Setting) (n : ℕ) → IsProper setting.protocol → 1 ≤ n → n ≤ 64
    → 2 ≤ setting.slots → setting.slots ≤ 64 → (steps : List Step)
    → AllByRecursion (IsRefined setting) (run setting (start setting.protocol n) steps)
IsRefined-run setting n proper some few two most steps =
    let configs = run setting (start setting.protocol n) steps in
    AllByRecursion-weaker (IsShaped setting) (IsRefined setting) configs
    (λ c shaped. shaped-refined setting c shaped proper)
    (IsShaped-run setting proper (start setting.protocol n) steps
    (IsShaped-start setting n proper some few two most))

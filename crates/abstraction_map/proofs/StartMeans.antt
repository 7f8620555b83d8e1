-- The start stands for the start of the rendezvous meaning.
use Rattle.std.proofs.Common.{◌≡◌, ℕ, ◌<◌, None, List, replicate, sym, ap, ◌∙◌}
use Rattle.std.proofs.lemmas.List.{length-replicate, get_or-replicate}
use Rattle.std.proofs.lemmas.List.FromFn.{fill_by_all}
use Rattle.proto_model.specs.Numbered.{NumberedProtocol}
use Rattle.proto_model.specs.Guards.{part}
use Rattle.proto_model.specs.Rendezvous.{start_part, rv_start}
use Rattle.proto_model.specs.Values.{first_values}
use Rattle.proto_model.specs.declared.rendezvous.Part.{Part}
use Rattle.proto_model.specs.declared.rendezvous.RvConfig.{RvConfig}
use Rattle.controller_table.specs.declared.rows.Place.TheVariants.{Comm}
use Rattle.async_shape.specs.Config.{start}
use Rattle.async_shape.specs.View.{nobody, view_at}
use Rattle.async_shape.specs.declared.config.RemoteState.{RemoteState}
use Rattle.abstraction_map.specs.Abstraction.{abstraction}
use Rattle.abstraction_map.proofs.ByCase.{remote_stands, part-idle}
use Rattle.abstraction_map.proofs.Frames.{parts_of}

-- parts that are all the same
parts-replicate : (n : ℕ) (f : ℕ → Part) (p : Part) → ((q : ℕ) → q < n → f q ≡ p)
    → parts_of n f ≡ replicate n p
parts-replicate n f p same =
    sym (fill_by_all f (replicate n p) n p (length-replicate n p)
    (λ q within. get_or-replicate n q p p within ∙ sym (same q within)))

module _ (protocol : NumberedProtocol) (n : ℕ) where
  -- a remote at the start
  abbrev resting : RemoteState
  resting = record {
    place = Comm protocol.remote.start;
    vars = first_values protocol.remote.vars;
    slot = None;
  }

  -- at the start each remote stands at its start
  start-remote : (q : ℕ) → q < n
      → remote_stands protocol (start protocol n) q ≡ start_part protocol.remote
  start-remote q within =
      let v = view_at protocol (start protocol n) q in
      let is : v.remote ≡ resting = get_or-replicate n q resting nobody within in
      part-idle protocol.remote v protocol.remote.start (ap (λ (r : RemoteState). r.place) is)
      ∙ ap (λ (r : RemoteState). part protocol.remote.start r.vars) is

  -- The start means the start.
  pub abstraction-start : abstraction protocol (start protocol n) ≡ rv_start protocol n
  abstraction-start =
      let config : List Part → RvConfig =
      λ remotes. record { home = start_part protocol.home; remotes = remotes } in
      let f = remote_stands protocol (start protocol n) in
      ap (λ (k : ℕ). config (parts_of k f)) (length-replicate n resting)
      ∙ ap config (parts-replicate n f (start_part protocol.remote) start-remote)

-- What the moments before and after an event mean. The last free slot of a waiting home is kept
-- for a request that it can use.
use Rattle.std.specs.Prelude.{[], ◌∷◌}
use Rattle.proto_model.specs.declared.numbered.Value.TheVariants as value
use Rattle.proto_model.specs.declared.rendezvous.RvConfig.{RvConfig}
use Rattle.proto_model.specs.Guards.{part}

-- home I1 o=#0 j=#1 d=0
-- remote 0 V d=0
-- remote 1 W d=0
-- remote 2 I d=0
abbrev pub progress_kept_11_means : RvConfig
progress_kept_11_means = record {
  home = part 3 (value.Node 0 ∷ value.Node 1 ∷ value.Int 0 ∷ []);
  remotes =
      part 3 (value.Int 0 ∷ []) ∷
      part 2 (value.Int 0 ∷ []) ∷
      part 0 (value.Int 0 ∷ []) ∷
      [];
}

-- home I1 o=#0 j=#1 d=0
-- remote 0 V d=0
-- remote 1 W d=0
-- remote 2 R d=0
abbrev pub progress_kept_12_means : RvConfig
progress_kept_12_means = record {
  home = part 3 (value.Node 0 ∷ value.Node 1 ∷ value.Int 0 ∷ []);
  remotes =
      part 3 (value.Int 0 ∷ []) ∷
      part 2 (value.Int 0 ∷ []) ∷
      part 1 (value.Int 0 ∷ []) ∷
      [];
}

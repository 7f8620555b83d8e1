-- What the moments before and after an event mean. An idle home is full of requests that it can
-- no longer use.
use Rattle.std.specs.Prelude.{[], ◌∷◌}
use Rattle.proto_model.specs.declared.numbered.Value.TheVariants as value
use Rattle.proto_model.specs.declared.rendezvous.RvConfig.{RvConfig}
use Rattle.proto_model.specs.Guards.{part}

-- home A j=none
-- remote 0 R
-- remote 1 R
-- remote 2 R
abbrev pub displacement_0_means : RvConfig
displacement_0_means = record {
  home = part 0 (value.Nowhere ∷ []);
  remotes =
      part 0 [] ∷
      part 0 [] ∷
      part 0 [] ∷
      [];
}

-- home A j=none
-- remote 0 SA
-- remote 1 R
-- remote 2 R
abbrev pub displacement_1_means : RvConfig
displacement_1_means = record {
  home = part 0 (value.Nowhere ∷ []);
  remotes =
      part 1 [] ∷
      part 0 [] ∷
      part 0 [] ∷
      [];
}

-- home A j=none
-- remote 0 SA
-- remote 1 R
-- remote 2 R
abbrev pub displacement_3_means : RvConfig
displacement_3_means = record {
  home = part 0 (value.Nowhere ∷ []);
  remotes =
      part 1 [] ∷
      part 0 [] ∷
      part 0 [] ∷
      [];
}

-- home A j=none
-- remote 0 SA
-- remote 1 SA
-- remote 2 R
abbrev pub displacement_4_means : RvConfig
displacement_4_means = record {
  home = part 0 (value.Nowhere ∷ []);
  remotes =
      part 1 [] ∷
      part 1 [] ∷
      part 0 [] ∷
      [];
}

-- home A j=none
-- remote 0 SA
-- remote 1 SA
-- remote 2 R
abbrev pub displacement_6_means : RvConfig
displacement_6_means = record {
  home = part 0 (value.Nowhere ∷ []);
  remotes =
      part 1 [] ∷
      part 1 [] ∷
      part 0 [] ∷
      [];
}

-- home B j=none
-- remote 0 SA
-- remote 1 SA
-- remote 2 R
abbrev pub displacement_7_means : RvConfig
displacement_7_means = record {
  home = part 1 (value.Nowhere ∷ []);
  remotes =
      part 1 [] ∷
      part 1 [] ∷
      part 0 [] ∷
      [];
}

-- home B j=none
-- remote 0 SA
-- remote 1 SA
-- remote 2 SB
abbrev pub displacement_8_means : RvConfig
displacement_8_means = record {
  home = part 1 (value.Nowhere ∷ []);
  remotes =
      part 1 [] ∷
      part 1 [] ∷
      part 2 [] ∷
      [];
}

-- home B j=none
-- remote 0 SA
-- remote 1 SA
-- remote 2 SB
abbrev pub displacement_10_means : RvConfig
displacement_10_means = record {
  home = part 1 (value.Nowhere ∷ []);
  remotes =
      part 1 [] ∷
      part 1 [] ∷
      part 2 [] ∷
      [];
}

-- home A j=#2
-- remote 0 SA
-- remote 1 SA
-- remote 2 R
abbrev pub displacement_11_means : RvConfig
displacement_11_means = record {
  home = part 0 (value.Node 2 ∷ []);
  remotes =
      part 1 [] ∷
      part 1 [] ∷
      part 0 [] ∷
      [];
}

-- What the moments before and after an event mean. A remote gets the line, another one wants it,
-- and the home's request to the owner crosses the owner's own.
use Rattle.std.specs.Prelude.{[], ◌∷◌}
use Rattle.proto_model.specs.declared.numbered.Value.TheVariants as value
use Rattle.proto_model.specs.declared.rendezvous.RvConfig.{RvConfig}
use Rattle.proto_model.specs.Guards.{part}

-- home F o=none j=none d=0
-- remote 0 I d=0
-- remote 1 I d=0
abbrev pub crossing_0_means : RvConfig
crossing_0_means = record {
  home = part 0 (value.Nowhere ∷ value.Nowhere ∷ value.Int 0 ∷ []);
  remotes =
      part 0 (value.Int 0 ∷ []) ∷
      part 0 (value.Int 0 ∷ []) ∷
      [];
}

-- home F o=none j=none d=0
-- remote 0 R d=0
-- remote 1 I d=0
abbrev pub crossing_1_means : RvConfig
crossing_1_means = record {
  home = part 0 (value.Nowhere ∷ value.Nowhere ∷ value.Int 0 ∷ []);
  remotes =
      part 1 (value.Int 0 ∷ []) ∷
      part 0 (value.Int 0 ∷ []) ∷
      [];
}

-- home F o=none j=none d=0
-- remote 0 R d=0
-- remote 1 I d=0
abbrev pub crossing_3_means : RvConfig
crossing_3_means = record {
  home = part 0 (value.Nowhere ∷ value.Nowhere ∷ value.Int 0 ∷ []);
  remotes =
      part 1 (value.Int 0 ∷ []) ∷
      part 0 (value.Int 0 ∷ []) ∷
      [];
}

-- home G o=none j=#0 d=0
-- remote 0 W d=0
-- remote 1 I d=0
abbrev pub crossing_4_means : RvConfig
crossing_4_means = record {
  home = part 1 (value.Nowhere ∷ value.Node 0 ∷ value.Int 0 ∷ []);
  remotes =
      part 2 (value.Int 0 ∷ []) ∷
      part 0 (value.Int 0 ∷ []) ∷
      [];
}

-- home E o=#0 j=#0 d=0
-- remote 0 V d=0
-- remote 1 I d=0
abbrev pub crossing_5_means : RvConfig
crossing_5_means = record {
  home = part 2 (value.Node 0 ∷ value.Node 0 ∷ value.Int 0 ∷ []);
  remotes =
      part 3 (value.Int 0 ∷ []) ∷
      part 0 (value.Int 0 ∷ []) ∷
      [];
}

-- home E o=#0 j=#0 d=0
-- remote 0 V d=0
-- remote 1 I d=0
abbrev pub crossing_6_means : RvConfig
crossing_6_means = record {
  home = part 2 (value.Node 0 ∷ value.Node 0 ∷ value.Int 0 ∷ []);
  remotes =
      part 3 (value.Int 0 ∷ []) ∷
      part 0 (value.Int 0 ∷ []) ∷
      [];
}

-- home E o=#0 j=#0 d=0
-- remote 0 V d=0
-- remote 1 R d=0
abbrev pub crossing_7_means : RvConfig
crossing_7_means = record {
  home = part 2 (value.Node 0 ∷ value.Node 0 ∷ value.Int 0 ∷ []);
  remotes =
      part 3 (value.Int 0 ∷ []) ∷
      part 1 (value.Int 0 ∷ []) ∷
      [];
}

-- home E o=#0 j=#0 d=0
-- remote 0 V d=0
-- remote 1 R d=0
abbrev pub crossing_9_means : RvConfig
crossing_9_means = record {
  home = part 2 (value.Node 0 ∷ value.Node 0 ∷ value.Int 0 ∷ []);
  remotes =
      part 3 (value.Int 0 ∷ []) ∷
      part 1 (value.Int 0 ∷ []) ∷
      [];
}

-- home I1 o=#0 j=#1 d=0
-- remote 0 V d=0
-- remote 1 W d=0
abbrev pub crossing_10_means : RvConfig
crossing_10_means = record {
  home = part 3 (value.Node 0 ∷ value.Node 1 ∷ value.Int 0 ∷ []);
  remotes =
      part 3 (value.Int 0 ∷ []) ∷
      part 2 (value.Int 0 ∷ []) ∷
      [];
}

-- home I1 o=#0 j=#1 d=0
-- remote 0 V d=0
-- remote 1 W d=0
abbrev pub crossing_11_means : RvConfig
crossing_11_means = record {
  home = part 3 (value.Node 0 ∷ value.Node 1 ∷ value.Int 0 ∷ []);
  remotes =
      part 3 (value.Int 0 ∷ []) ∷
      part 2 (value.Int 0 ∷ []) ∷
      [];
}

-- home I1 o=#0 j=#1 d=0
-- remote 0 L d=0
-- remote 1 W d=0
abbrev pub crossing_12_means : RvConfig
crossing_12_means = record {
  home = part 3 (value.Node 0 ∷ value.Node 1 ∷ value.Int 0 ∷ []);
  remotes =
      part 4 (value.Int 0 ∷ []) ∷
      part 2 (value.Int 0 ∷ []) ∷
      [];
}

-- home I1 o=#0 j=#1 d=0
-- remote 0 L d=0
-- remote 1 W d=0
abbrev pub crossing_15_means : RvConfig
crossing_15_means = record {
  home = part 3 (value.Node 0 ∷ value.Node 1 ∷ value.Int 0 ∷ []);
  remotes =
      part 4 (value.Int 0 ∷ []) ∷
      part 2 (value.Int 0 ∷ []) ∷
      [];
}

-- home G o=#0 j=#1 d=0
-- remote 0 I d=0
-- remote 1 W d=0
abbrev pub crossing_16_means : RvConfig
crossing_16_means = record {
  home = part 1 (value.Node 0 ∷ value.Node 1 ∷ value.Int 0 ∷ []);
  remotes =
      part 0 (value.Int 0 ∷ []) ∷
      part 2 (value.Int 0 ∷ []) ∷
      [];
}

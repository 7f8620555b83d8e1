-- What the moments before and after an event mean. A grant to the one remote in mode plain: each
-- of the two requests has its ack.
use Rattle.std.specs.Prelude.{[], ◌∷◌}
use Rattle.proto_model.specs.declared.numbered.Value.TheVariants as value
use Rattle.proto_model.specs.declared.rendezvous.RvConfig.{RvConfig}
use Rattle.proto_model.specs.Guards.{part}

-- home F o=none j=none d=0
-- remote 0 I d=0
abbrev pub plain_0_means : RvConfig
plain_0_means = record {
  home = part 0 (value.Nowhere ∷ value.Nowhere ∷ value.Int 0 ∷ []);
  remotes =
      part 0 (value.Int 0 ∷ []) ∷
      [];
}

-- home F o=none j=none d=0
-- remote 0 R d=0
abbrev pub plain_1_means : RvConfig
plain_1_means = record {
  home = part 0 (value.Nowhere ∷ value.Nowhere ∷ value.Int 0 ∷ []);
  remotes =
      part 1 (value.Int 0 ∷ []) ∷
      [];
}

-- home F o=none j=none d=0
-- remote 0 R d=0
abbrev pub plain_3_means : RvConfig
plain_3_means = record {
  home = part 0 (value.Nowhere ∷ value.Nowhere ∷ value.Int 0 ∷ []);
  remotes =
      part 1 (value.Int 0 ∷ []) ∷
      [];
}

-- home G o=none j=#0 d=0
-- remote 0 W d=0
abbrev pub plain_4_means : RvConfig
plain_4_means = record {
  home = part 1 (value.Nowhere ∷ value.Node 0 ∷ value.Int 0 ∷ []);
  remotes =
      part 2 (value.Int 0 ∷ []) ∷
      [];
}

-- home G o=none j=#0 d=0
-- remote 0 W d=0
abbrev pub plain_7_means : RvConfig
plain_7_means = record {
  home = part 1 (value.Nowhere ∷ value.Node 0 ∷ value.Int 0 ∷ []);
  remotes =
      part 2 (value.Int 0 ∷ []) ∷
      [];
}

-- home E o=#0 j=#0 d=0
-- remote 0 V d=0
abbrev pub plain_8_means : RvConfig
plain_8_means = record {
  home = part 2 (value.Node 0 ∷ value.Node 0 ∷ value.Int 0 ∷ []);
  remotes =
      part 3 (value.Int 0 ∷ []) ∷
      [];
}

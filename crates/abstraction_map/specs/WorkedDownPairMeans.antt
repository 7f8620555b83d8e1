-- What the moments before and after an event mean. A request of the home is answered by its
-- reply.
use Rattle.std.specs.Prelude.{[], ◌∷◌}
use Rattle.proto_model.specs.declared.numbered.Value.TheVariants as value
use Rattle.proto_model.specs.declared.rendezvous.RvConfig.{RvConfig}
use Rattle.proto_model.specs.Guards.{part}

-- home I2 o=#0 j=#1 d=0
-- remote 0 D d=0
-- remote 1 W d=0
abbrev pub down_pair_13_means : RvConfig
down_pair_13_means = record {
  home = part 4 (value.Node 0 ∷ value.Node 1 ∷ value.Int 0 ∷ []);
  remotes =
      part 5 (value.Int 0 ∷ []) ∷
      part 2 (value.Int 0 ∷ []) ∷
      [];
}

-- home G o=#0 j=#1 d=0
-- remote 0 I d=0
-- remote 1 W d=0
abbrev pub down_pair_14_means : RvConfig
down_pair_14_means = record {
  home = part 1 (value.Node 0 ∷ value.Node 1 ∷ value.Int 0 ∷ []);
  remotes =
      part 0 (value.Int 0 ∷ []) ∷
      part 2 (value.Int 0 ∷ []) ∷
      [];
}

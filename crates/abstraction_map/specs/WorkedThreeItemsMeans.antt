-- What the moments before and after an event mean. A down link with three items: a request that
-- crossed, an ack and a request.
use Rattle.std.specs.Prelude.{[], ◌∷◌}
use Rattle.proto_model.specs.declared.numbered.Value.TheVariants as value
use Rattle.proto_model.specs.declared.rendezvous.RvConfig.{RvConfig}
use Rattle.proto_model.specs.Guards.{part}

-- home H j=none
-- remote 0 P
abbrev pub three_items_1_means : RvConfig
three_items_1_means = record {
  home = part 0 (value.Nowhere ∷ []);
  remotes =
      part 0 [] ∷
      [];
}

-- home H j=none
-- remote 0 Q
abbrev pub three_items_2_means : RvConfig
three_items_2_means = record {
  home = part 0 (value.Nowhere ∷ []);
  remotes =
      part 1 [] ∷
      [];
}

-- home H j=none
-- remote 0 Q
abbrev pub three_items_4_means : RvConfig
three_items_4_means = record {
  home = part 0 (value.Nowhere ∷ []);
  remotes =
      part 1 [] ∷
      [];
}

-- home H j=#0
-- remote 0 P
abbrev pub three_items_5_means : RvConfig
three_items_5_means = record {
  home = part 0 (value.Node 0 ∷ []);
  remotes =
      part 0 [] ∷
      [];
}

-- home H j=#0
-- remote 0 P
abbrev pub three_items_9_means : RvConfig
three_items_9_means = record {
  home = part 0 (value.Node 0 ∷ []);
  remotes =
      part 0 [] ∷
      [];
}

-- home H j=#0
-- remote 0 P
abbrev pub three_items_10_means : RvConfig
three_items_10_means = record {
  home = part 0 (value.Node 0 ∷ []);
  remotes =
      part 0 [] ∷
      [];
}

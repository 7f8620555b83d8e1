-- What the moments before and after an event mean. The home's request is in the slot of a remote
-- that turns active.
use Rattle.std.specs.Prelude.{[], ◌∷◌}
use Rattle.proto_model.specs.declared.numbered.Value.TheVariants as value
use Rattle.proto_model.specs.declared.rendezvous.RvConfig.{RvConfig}
use Rattle.proto_model.specs.Guards.{part}

-- home I1 o=#0 j=#1 d=0
-- remote 0 V d=0
-- remote 1 W d=0
abbrev pub full_slot_12_means : RvConfig
full_slot_12_means = record {
  home = part 3 (value.Node 0 ∷ value.Node 1 ∷ value.Int 0 ∷ []);
  remotes =
      part 3 (value.Int 0 ∷ []) ∷
      part 2 (value.Int 0 ∷ []) ∷
      [];
}

-- home I1 o=#0 j=#1 d=0
-- remote 0 L d=0
-- remote 1 W d=0
abbrev pub full_slot_13_means : RvConfig
full_slot_13_means = record {
  home = part 3 (value.Node 0 ∷ value.Node 1 ∷ value.Int 0 ∷ []);
  remotes =
      part 4 (value.Int 0 ∷ []) ∷
      part 2 (value.Int 0 ∷ []) ∷
      [];
}

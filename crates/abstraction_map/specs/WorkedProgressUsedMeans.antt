-- What the moments before and after an event mean. Three remotes read, a fourth wants to write,
-- and the home asks a reader while two others give the line up.
use Rattle.std.specs.Prelude.{[], ◌∷◌}
use Rattle.proto_model.specs.declared.numbered.Value.TheVariants as value
use Rattle.proto_model.specs.declared.rendezvous.RvConfig.{RvConfig}
use Rattle.proto_model.specs.Guards.{part}

-- home U j=#2 o=none v=none s={0,1,2} d=0
-- remote 0 S d=0
-- remote 1 S d=0
-- remote 2 S d=0
-- remote 3 I d=0
abbrev pub progress_used_18_means : RvConfig
progress_used_18_means = record {
  home = part 0 (value.Node 2 ∷ value.Nowhere ∷ value.Nowhere ∷ value.Set 7 ∷ value.Int 0 ∷ []);
  remotes =
      part 5 (value.Int 0 ∷ []) ∷
      part 5 (value.Int 0 ∷ []) ∷
      part 5 (value.Int 0 ∷ []) ∷
      part 0 (value.Int 0 ∷ []) ∷
      [];
}

-- home U j=#2 o=none v=none s={0,1,2} d=0
-- remote 0 S d=0
-- remote 1 S d=0
-- remote 2 S d=0
-- remote 3 RX d=0
abbrev pub progress_used_19_means : RvConfig
progress_used_19_means = record {
  home = part 0 (value.Node 2 ∷ value.Nowhere ∷ value.Nowhere ∷ value.Set 7 ∷ value.Int 0 ∷ []);
  remotes =
      part 5 (value.Int 0 ∷ []) ∷
      part 5 (value.Int 0 ∷ []) ∷
      part 5 (value.Int 0 ∷ []) ∷
      part 3 (value.Int 0 ∷ []) ∷
      [];
}

-- home U j=#2 o=none v=none s={0,1,2} d=0
-- remote 0 S d=0
-- remote 1 S d=0
-- remote 2 S d=0
-- remote 3 RX d=0
abbrev pub progress_used_21_means : RvConfig
progress_used_21_means = record {
  home = part 0 (value.Node 2 ∷ value.Nowhere ∷ value.Nowhere ∷ value.Set 7 ∷ value.Int 0 ∷ []);
  remotes =
      part 5 (value.Int 0 ∷ []) ∷
      part 5 (value.Int 0 ∷ []) ∷
      part 5 (value.Int 0 ∷ []) ∷
      part 3 (value.Int 0 ∷ []) ∷
      [];
}

-- home INV j=#3 o=none v=none s={0,1,2} d=0
-- remote 0 S d=0
-- remote 1 S d=0
-- remote 2 S d=0
-- remote 3 WX d=0
abbrev pub progress_used_22_means : RvConfig
progress_used_22_means = record {
  home = part 2 (value.Node 3 ∷ value.Nowhere ∷ value.Nowhere ∷ value.Set 7 ∷ value.Int 0 ∷ []);
  remotes =
      part 5 (value.Int 0 ∷ []) ∷
      part 5 (value.Int 0 ∷ []) ∷
      part 5 (value.Int 0 ∷ []) ∷
      part 4 (value.Int 0 ∷ []) ∷
      [];
}

-- home INV j=#3 o=none v=none s={0,1,2} d=0
-- remote 0 S d=0
-- remote 1 S d=0
-- remote 2 S d=0
-- remote 3 WX d=0
abbrev pub progress_used_23_means : RvConfig
progress_used_23_means = record {
  home = part 2 (value.Node 3 ∷ value.Nowhere ∷ value.Nowhere ∷ value.Set 7 ∷ value.Int 0 ∷ []);
  remotes =
      part 5 (value.Int 0 ∷ []) ∷
      part 5 (value.Int 0 ∷ []) ∷
      part 5 (value.Int 0 ∷ []) ∷
      part 4 (value.Int 0 ∷ []) ∷
      [];
}

-- home INV j=#3 o=none v=none s={0,1,2} d=0
-- remote 0 S d=0
-- remote 1 E d=0
-- remote 2 S d=0
-- remote 3 WX d=0
abbrev pub progress_used_24_means : RvConfig
progress_used_24_means = record {
  home = part 2 (value.Node 3 ∷ value.Nowhere ∷ value.Nowhere ∷ value.Set 7 ∷ value.Int 0 ∷ []);
  remotes =
      part 5 (value.Int 0 ∷ []) ∷
      part 6 (value.Int 0 ∷ []) ∷
      part 5 (value.Int 0 ∷ []) ∷
      part 4 (value.Int 0 ∷ []) ∷
      [];
}

-- home INV j=#3 o=none v=none s={0,1,2} d=0
-- remote 0 S d=0
-- remote 1 E d=0
-- remote 2 S d=0
-- remote 3 WX d=0
abbrev pub progress_used_26_means : RvConfig
progress_used_26_means = record {
  home = part 2 (value.Node 3 ∷ value.Nowhere ∷ value.Nowhere ∷ value.Set 7 ∷ value.Int 0 ∷ []);
  remotes =
      part 5 (value.Int 0 ∷ []) ∷
      part 6 (value.Int 0 ∷ []) ∷
      part 5 (value.Int 0 ∷ []) ∷
      part 4 (value.Int 0 ∷ []) ∷
      [];
}

-- home INV j=#3 o=none v=none s={0,1,2} d=0
-- remote 0 S d=0
-- remote 1 E d=0
-- remote 2 E d=0
-- remote 3 WX d=0
abbrev pub progress_used_27_means : RvConfig
progress_used_27_means = record {
  home = part 2 (value.Node 3 ∷ value.Nowhere ∷ value.Nowhere ∷ value.Set 7 ∷ value.Int 0 ∷ []);
  remotes =
      part 5 (value.Int 0 ∷ []) ∷
      part 6 (value.Int 0 ∷ []) ∷
      part 6 (value.Int 0 ∷ []) ∷
      part 4 (value.Int 0 ∷ []) ∷
      [];
}

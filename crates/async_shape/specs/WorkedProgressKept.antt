-- The last free slot of a waiting home is kept for a request that it can use.
use Rattle.std.specs.Prelude.{[], ◌∷◌, Some, None}
use Rattle.proto_model.specs.declared.numbered.Value.TheVariants as value
use Rattle.controller_table.specs.Rows.{guard_id}
use Rattle.controller_table.specs.declared.rows.Place.TheVariants.{Comm, Trans}
use Rattle.ordered_links.specs.declared.packet.Packet.TheVariants as packet
use Rattle.ordered_links.specs.Lists.{no_packets}
use Rattle.async_shape.specs.Config.{Config}
use Rattle.async_shape.specs.declared.config.HomePlace.TheVariants.{Waits}

-- home I1/0>0 o=#0 j=#1 d=0 held[] owed[1:gr]
-- remote 0 V d=0 slot[] up[] down[?inv]
-- remote 1 R* d=0 slot[] up[] down[]
-- remote 2 I d=0 slot[] up[] down[]
abbrev pub progress_kept_11 : Config
progress_kept_11 = record {
  home = record {
    place = Waits (record { by = (guard_id 3 0); on = 0; sent = value.Unit });
    vars = value.Node 0 ∷ value.Node 1 ∷ value.Int 0 ∷ [];
    owed = None ∷ Some 1 ∷ None ∷ [];
  };
  held = [];
  remotes =
      record { place = Comm 3; vars = value.Int 0 ∷ []; slot = None } ∷
      record { place = Trans (guard_id 1 0); vars = value.Int 0 ∷ []; slot = None } ∷
      record { place = Comm 0; vars = value.Int 0 ∷ []; slot = None } ∷
      [];
  links =
      record { up = []; down = packet.Request 3 value.Unit ∷ [] } ∷
      no_packets ∷
      no_packets ∷
      [];
}

-- home I1/0>0 o=#0 j=#1 d=0 held[] owed[1:gr]
-- remote 0 V d=0 slot[] up[] down[?inv]
-- remote 1 R* d=0 slot[] up[] down[]
-- remote 2 R d=0 slot[] up[] down[]
abbrev pub progress_kept_12 : Config
progress_kept_12 = record {
  home = record {
    place = Waits (record { by = (guard_id 3 0); on = 0; sent = value.Unit });
    vars = value.Node 0 ∷ value.Node 1 ∷ value.Int 0 ∷ [];
    owed = None ∷ Some 1 ∷ None ∷ [];
  };
  held = [];
  remotes =
      record { place = Comm 3; vars = value.Int 0 ∷ []; slot = None } ∷
      record { place = Trans (guard_id 1 0); vars = value.Int 0 ∷ []; slot = None } ∷
      record { place = Comm 1; vars = value.Int 0 ∷ []; slot = None } ∷
      [];
  links =
      record { up = []; down = packet.Request 3 value.Unit ∷ [] } ∷
      no_packets ∷
      no_packets ∷
      [];
}

-- home I1/0>0 o=#0 j=#1 d=0 held[] owed[1:gr]
-- remote 0 V d=0 slot[] up[] down[?inv]
-- remote 1 R* d=0 slot[] up[] down[]
-- remote 2 R* d=0 slot[] up[?req] down[]
abbrev pub progress_kept_13 : Config
progress_kept_13 = record {
  home = record {
    place = Waits (record { by = (guard_id 3 0); on = 0; sent = value.Unit });
    vars = value.Node 0 ∷ value.Node 1 ∷ value.Int 0 ∷ [];
    owed = None ∷ Some 1 ∷ None ∷ [];
  };
  held = [];
  remotes =
      record { place = Comm 3; vars = value.Int 0 ∷ []; slot = None } ∷
      record { place = Trans (guard_id 1 0); vars = value.Int 0 ∷ []; slot = None } ∷
      record { place = Trans (guard_id 1 0); vars = value.Int 0 ∷ []; slot = None } ∷
      [];
  links =
      record { up = []; down = packet.Request 3 value.Unit ∷ [] } ∷
      no_packets ∷
      record { up = packet.Request 0 value.Unit ∷ []; down = [] } ∷
      [];
}

-- home I1/0>0 o=#0 j=#1 d=0 held[] owed[1:gr]
-- remote 0 V d=0 slot[] up[] down[?inv]
-- remote 1 R* d=0 slot[] up[] down[]
-- remote 2 R* d=0 slot[] up[] down[-]
abbrev pub progress_kept_14 : Config
progress_kept_14 = record {
  home = record {
    place = Waits (record { by = (guard_id 3 0); on = 0; sent = value.Unit });
    vars = value.Node 0 ∷ value.Node 1 ∷ value.Int 0 ∷ [];
    owed = None ∷ Some 1 ∷ None ∷ [];
  };
  held = [];
  remotes =
      record { place = Comm 3; vars = value.Int 0 ∷ []; slot = None } ∷
      record { place = Trans (guard_id 1 0); vars = value.Int 0 ∷ []; slot = None } ∷
      record { place = Trans (guard_id 1 0); vars = value.Int 0 ∷ []; slot = None } ∷
      [];
  links =
      record { up = []; down = packet.Request 3 value.Unit ∷ [] } ∷
      no_packets ∷
      record { up = []; down = packet.Nack ∷ [] } ∷
      [];
}

-- A request of the home is answered by its reply.
use Rattle.std.specs.Prelude.{[], ◌∷◌, Some, None}
use Rattle.proto_model.specs.declared.numbered.Value.TheVariants as value
use Rattle.controller_table.specs.Rows.{guard_id}
use Rattle.controller_table.specs.declared.rows.Place.TheVariants.{Comm, Trans, Due}
use Rattle.ordered_links.specs.declared.packet.Packet.TheVariants as packet
use Rattle.ordered_links.specs.Lists.{no_packets}
use Rattle.async_shape.specs.Config.{Config}
use Rattle.async_shape.specs.declared.config.HomePlace.TheVariants.{Idle, Waits}

-- home I1/0>0 o=#0 j=#1 d=0 held[] owed[1:gr]
-- remote 0 D! d=0 slot[] up[] down[]
-- remote 1 R* d=0 slot[] up[] down[]
abbrev pub down_pair_13 : Config
down_pair_13 = record {
  home = record {
    place = Waits (record { by = (guard_id 3 0); on = 0; sent = value.Unit });
    vars = value.Node 0 ∷ value.Node 1 ∷ value.Int 0 ∷ [];
    owed = None ∷ Some 1 ∷ [];
  };
  held = [];
  remotes =
      record { place = Due (guard_id 5 0); vars = value.Int 0 ∷ []; slot = None } ∷
      record { place = Trans (guard_id 1 0); vars = value.Int 0 ∷ []; slot = None } ∷
      [];
  links =
      no_packets ∷
      no_packets ∷
      [];
}

-- home I1/0>0 o=#0 j=#1 d=0 held[] owed[1:gr]
-- remote 0 I d=0 slot[] up[=id(0)] down[]
-- remote 1 R* d=0 slot[] up[] down[]
abbrev pub down_pair_14 : Config
down_pair_14 = record {
  home = record {
    place = Waits (record { by = (guard_id 3 0); on = 0; sent = value.Unit });
    vars = value.Node 0 ∷ value.Node 1 ∷ value.Int 0 ∷ [];
    owed = None ∷ Some 1 ∷ [];
  };
  held = [];
  remotes =
      record { place = Comm 0; vars = value.Int 0 ∷ []; slot = None } ∷
      record { place = Trans (guard_id 1 0); vars = value.Int 0 ∷ []; slot = None } ∷
      [];
  links =
      record { up = packet.Reply 4 (value.Int 0) ∷ []; down = [] } ∷
      no_packets ∷
      [];
}

-- home G o=#0 j=#1 d=0 held[] owed[1:gr]
-- remote 0 I d=0 slot[] up[] down[]
-- remote 1 R* d=0 slot[] up[] down[]
abbrev pub down_pair_15 : Config
down_pair_15 = record {
  home = record {
    place = Idle 1;
    vars = value.Node 0 ∷ value.Node 1 ∷ value.Int 0 ∷ [];
    owed = None ∷ Some 1 ∷ [];
  };
  held = [];
  remotes =
      record { place = Comm 0; vars = value.Int 0 ∷ []; slot = None } ∷
      record { place = Trans (guard_id 1 0); vars = value.Int 0 ∷ []; slot = None } ∷
      [];
  links =
      no_packets ∷
      no_packets ∷
      [];
}

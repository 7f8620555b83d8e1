-- Three remotes read, a fourth wants to write, and the home asks a reader while two others give
-- the line up.
use Rattle.std.specs.Prelude.{[], ◌∷◌, Some, None}
use Rattle.proto_model.specs.declared.numbered.Value.TheVariants as value
use Rattle.controller_table.specs.Rows.{guard_id}
use Rattle.controller_table.specs.declared.rows.Place.TheVariants.{Comm, Trans}
use Rattle.ordered_links.specs.declared.packet.Packet.TheVariants as packet
use Rattle.ordered_links.specs.Lists.{no_packets}
use Rattle.async_shape.specs.Config.{Config}
use Rattle.async_shape.specs.declared.config.HomePlace.TheVariants.{Idle, Waits}

-- home U j=#2 o=none v=none s={0,1,2} d=0 held[] owed[]
-- remote 0 S d=0 slot[] up[] down[]
-- remote 1 S d=0 slot[] up[] down[]
-- remote 2 S d=0 slot[] up[] down[]
-- remote 3 I d=0 slot[] up[] down[]
abbrev pub progress_used_18 : Config
progress_used_18 = record {
  home = record {
    place = Idle 0;
    vars = value.Node 2 ∷ value.Nowhere ∷ value.Nowhere ∷ value.Set 7 ∷ value.Int 0 ∷ [];
    owed = None ∷ None ∷ None ∷ None ∷ [];
  };
  held = [];
  remotes =
      record { place = Comm 5; vars = value.Int 0 ∷ []; slot = None } ∷
      record { place = Comm 5; vars = value.Int 0 ∷ []; slot = None } ∷
      record { place = Comm 5; vars = value.Int 0 ∷ []; slot = None } ∷
      record { place = Comm 0; vars = value.Int 0 ∷ []; slot = None } ∷
      [];
  links =
      no_packets ∷
      no_packets ∷
      no_packets ∷
      no_packets ∷
      [];
}

-- home U j=#2 o=none v=none s={0,1,2} d=0 held[] owed[]
-- remote 0 S d=0 slot[] up[] down[]
-- remote 1 S d=0 slot[] up[] down[]
-- remote 2 S d=0 slot[] up[] down[]
-- remote 3 RX d=0 slot[] up[] down[]
abbrev pub progress_used_19 : Config
progress_used_19 = record {
  home = record {
    place = Idle 0;
    vars = value.Node 2 ∷ value.Nowhere ∷ value.Nowhere ∷ value.Set 7 ∷ value.Int 0 ∷ [];
    owed = None ∷ None ∷ None ∷ None ∷ [];
  };
  held = [];
  remotes =
      record { place = Comm 5; vars = value.Int 0 ∷ []; slot = None } ∷
      record { place = Comm 5; vars = value.Int 0 ∷ []; slot = None } ∷
      record { place = Comm 5; vars = value.Int 0 ∷ []; slot = None } ∷
      record { place = Comm 3; vars = value.Int 0 ∷ []; slot = None } ∷
      [];
  links =
      no_packets ∷
      no_packets ∷
      no_packets ∷
      no_packets ∷
      [];
}

-- home U j=#2 o=none v=none s={0,1,2} d=0 held[] owed[]
-- remote 0 S d=0 slot[] up[] down[]
-- remote 1 S d=0 slot[] up[] down[]
-- remote 2 S d=0 slot[] up[] down[]
-- remote 3 RX* d=0 slot[] up[?rx] down[]
abbrev pub progress_used_20 : Config
progress_used_20 = record {
  home = record {
    place = Idle 0;
    vars = value.Node 2 ∷ value.Nowhere ∷ value.Nowhere ∷ value.Set 7 ∷ value.Int 0 ∷ [];
    owed = None ∷ None ∷ None ∷ None ∷ [];
  };
  held = [];
  remotes =
      record { place = Comm 5; vars = value.Int 0 ∷ []; slot = None } ∷
      record { place = Comm 5; vars = value.Int 0 ∷ []; slot = None } ∷
      record { place = Comm 5; vars = value.Int 0 ∷ []; slot = None } ∷
      record { place = Trans (guard_id 3 0); vars = value.Int 0 ∷ []; slot = None } ∷
      [];
  links =
      no_packets ∷
      no_packets ∷
      no_packets ∷
      record { up = packet.Request 1 value.Unit ∷ []; down = [] } ∷
      [];
}

-- home U j=#2 o=none v=none s={0,1,2} d=0 held[3:rx] owed[]
-- remote 0 S d=0 slot[] up[] down[]
-- remote 1 S d=0 slot[] up[] down[]
-- remote 2 S d=0 slot[] up[] down[]
-- remote 3 RX* d=0 slot[] up[] down[]
abbrev pub progress_used_21 : Config
progress_used_21 = record {
  home = record {
    place = Idle 0;
    vars = value.Node 2 ∷ value.Nowhere ∷ value.Nowhere ∷ value.Set 7 ∷ value.Int 0 ∷ [];
    owed = None ∷ None ∷ None ∷ None ∷ [];
  };
  held = record { from = 3; message = 1; value = value.Unit } ∷ [];
  remotes =
      record { place = Comm 5; vars = value.Int 0 ∷ []; slot = None } ∷
      record { place = Comm 5; vars = value.Int 0 ∷ []; slot = None } ∷
      record { place = Comm 5; vars = value.Int 0 ∷ []; slot = None } ∷
      record { place = Trans (guard_id 3 0); vars = value.Int 0 ∷ []; slot = None } ∷
      [];
  links =
      no_packets ∷
      no_packets ∷
      no_packets ∷
      no_packets ∷
      [];
}

-- home INV j=#3 o=none v=none s={0,1,2} d=0 held[] owed[3:gx]
-- remote 0 S d=0 slot[] up[] down[]
-- remote 1 S d=0 slot[] up[] down[]
-- remote 2 S d=0 slot[] up[] down[]
-- remote 3 RX* d=0 slot[] up[] down[]
abbrev pub progress_used_22 : Config
progress_used_22 = record {
  home = record {
    place = Idle 2;
    vars = value.Node 3 ∷ value.Nowhere ∷ value.Nowhere ∷ value.Set 7 ∷ value.Int 0 ∷ [];
    owed = None ∷ None ∷ None ∷ Some 3 ∷ [];
  };
  held = [];
  remotes =
      record { place = Comm 5; vars = value.Int 0 ∷ []; slot = None } ∷
      record { place = Comm 5; vars = value.Int 0 ∷ []; slot = None } ∷
      record { place = Comm 5; vars = value.Int 0 ∷ []; slot = None } ∷
      record { place = Trans (guard_id 3 0); vars = value.Int 0 ∷ []; slot = None } ∷
      [];
  links =
      no_packets ∷
      no_packets ∷
      no_packets ∷
      no_packets ∷
      [];
}

-- home INV/0>0 j=#3 o=none v=none s={0,1,2} d=0 held[] owed[3:gx]
-- remote 0 S d=0 slot[] up[] down[?inv]
-- remote 1 S d=0 slot[] up[] down[]
-- remote 2 S d=0 slot[] up[] down[]
-- remote 3 RX* d=0 slot[] up[] down[]
abbrev pub progress_used_23 : Config
progress_used_23 = record {
  home = record {
    place = Waits (record { by = (guard_id 2 0); on = 0; sent = value.Unit });
    vars = value.Node 3 ∷ value.Nowhere ∷ value.Nowhere ∷ value.Set 7 ∷ value.Int 0 ∷ [];
    owed = None ∷ None ∷ None ∷ Some 3 ∷ [];
  };
  held = [];
  remotes =
      record { place = Comm 5; vars = value.Int 0 ∷ []; slot = None } ∷
      record { place = Comm 5; vars = value.Int 0 ∷ []; slot = None } ∷
      record { place = Comm 5; vars = value.Int 0 ∷ []; slot = None } ∷
      record { place = Trans (guard_id 3 0); vars = value.Int 0 ∷ []; slot = None } ∷
      [];
  links =
      record { up = []; down = packet.Request 6 value.Unit ∷ [] } ∷
      no_packets ∷
      no_packets ∷
      no_packets ∷
      [];
}

-- home INV/0>0 j=#3 o=none v=none s={0,1,2} d=0 held[] owed[3:gx]
-- remote 0 S d=0 slot[] up[] down[?inv]
-- remote 1 E d=0 slot[] up[] down[]
-- remote 2 S d=0 slot[] up[] down[]
-- remote 3 RX* d=0 slot[] up[] down[]
abbrev pub progress_used_24 : Config
progress_used_24 = record {
  home = record {
    place = Waits (record { by = (guard_id 2 0); on = 0; sent = value.Unit });
    vars = value.Node 3 ∷ value.Nowhere ∷ value.Nowhere ∷ value.Set 7 ∷ value.Int 0 ∷ [];
    owed = None ∷ None ∷ None ∷ Some 3 ∷ [];
  };
  held = [];
  remotes =
      record { place = Comm 5; vars = value.Int 0 ∷ []; slot = None } ∷
      record { place = Comm 6; vars = value.Int 0 ∷ []; slot = None } ∷
      record { place = Comm 5; vars = value.Int 0 ∷ []; slot = None } ∷
      record { place = Trans (guard_id 3 0); vars = value.Int 0 ∷ []; slot = None } ∷
      [];
  links =
      record { up = []; down = packet.Request 6 value.Unit ∷ [] } ∷
      no_packets ∷
      no_packets ∷
      no_packets ∷
      [];
}

-- home INV/0>0 j=#3 o=none v=none s={0,1,2} d=0 held[] owed[3:gx]
-- remote 0 S d=0 slot[] up[] down[?inv]
-- remote 1 E* d=0 slot[] up[?ev] down[]
-- remote 2 S d=0 slot[] up[] down[]
-- remote 3 RX* d=0 slot[] up[] down[]
abbrev pub progress_used_25 : Config
progress_used_25 = record {
  home = record {
    place = Waits (record { by = (guard_id 2 0); on = 0; sent = value.Unit });
    vars = value.Node 3 ∷ value.Nowhere ∷ value.Nowhere ∷ value.Set 7 ∷ value.Int 0 ∷ [];
    owed = None ∷ None ∷ None ∷ Some 3 ∷ [];
  };
  held = [];
  remotes =
      record { place = Comm 5; vars = value.Int 0 ∷ []; slot = None } ∷
      record { place = Trans (guard_id 6 0); vars = value.Int 0 ∷ []; slot = None } ∷
      record { place = Comm 5; vars = value.Int 0 ∷ []; slot = None } ∷
      record { place = Trans (guard_id 3 0); vars = value.Int 0 ∷ []; slot = None } ∷
      [];
  links =
      record { up = []; down = packet.Request 6 value.Unit ∷ [] } ∷
      record { up = packet.Request 4 value.Unit ∷ []; down = [] } ∷
      no_packets ∷
      no_packets ∷
      [];
}

-- home INV/0>0 j=#3 o=none v=none s={0,1,2} d=0 held[1:ev] owed[3:gx]
-- remote 0 S d=0 slot[] up[] down[?inv]
-- remote 1 E* d=0 slot[] up[] down[]
-- remote 2 S d=0 slot[] up[] down[]
-- remote 3 RX* d=0 slot[] up[] down[]
abbrev pub progress_used_26 : Config
progress_used_26 = record {
  home = record {
    place = Waits (record { by = (guard_id 2 0); on = 0; sent = value.Unit });
    vars = value.Node 3 ∷ value.Nowhere ∷ value.Nowhere ∷ value.Set 7 ∷ value.Int 0 ∷ [];
    owed = None ∷ None ∷ None ∷ Some 3 ∷ [];
  };
  held = record { from = 1; message = 4; value = value.Unit } ∷ [];
  remotes =
      record { place = Comm 5; vars = value.Int 0 ∷ []; slot = None } ∷
      record { place = Trans (guard_id 6 0); vars = value.Int 0 ∷ []; slot = None } ∷
      record { place = Comm 5; vars = value.Int 0 ∷ []; slot = None } ∷
      record { place = Trans (guard_id 3 0); vars = value.Int 0 ∷ []; slot = None } ∷
      [];
  links =
      record { up = []; down = packet.Request 6 value.Unit ∷ [] } ∷
      no_packets ∷
      no_packets ∷
      no_packets ∷
      [];
}

-- home INV/0>0 j=#3 o=none v=none s={0,1,2} d=0 held[1:ev] owed[3:gx]
-- remote 0 S d=0 slot[] up[] down[?inv]
-- remote 1 E* d=0 slot[] up[] down[]
-- remote 2 E d=0 slot[] up[] down[]
-- remote 3 RX* d=0 slot[] up[] down[]
abbrev pub progress_used_27 : Config
progress_used_27 = record {
  home = record {
    place = Waits (record { by = (guard_id 2 0); on = 0; sent = value.Unit });
    vars = value.Node 3 ∷ value.Nowhere ∷ value.Nowhere ∷ value.Set 7 ∷ value.Int 0 ∷ [];
    owed = None ∷ None ∷ None ∷ Some 3 ∷ [];
  };
  held = record { from = 1; message = 4; value = value.Unit } ∷ [];
  remotes =
      record { place = Comm 5; vars = value.Int 0 ∷ []; slot = None } ∷
      record { place = Trans (guard_id 6 0); vars = value.Int 0 ∷ []; slot = None } ∷
      record { place = Comm 6; vars = value.Int 0 ∷ []; slot = None } ∷
      record { place = Trans (guard_id 3 0); vars = value.Int 0 ∷ []; slot = None } ∷
      [];
  links =
      record { up = []; down = packet.Request 6 value.Unit ∷ [] } ∷
      no_packets ∷
      no_packets ∷
      no_packets ∷
      [];
}

-- home INV/0>0 j=#3 o=none v=none s={0,1,2} d=0 held[1:ev] owed[3:gx]
-- remote 0 S d=0 slot[] up[] down[?inv]
-- remote 1 E* d=0 slot[] up[] down[]
-- remote 2 E* d=0 slot[] up[?ev] down[]
-- remote 3 RX* d=0 slot[] up[] down[]
abbrev pub progress_used_28 : Config
progress_used_28 = record {
  home = record {
    place = Waits (record { by = (guard_id 2 0); on = 0; sent = value.Unit });
    vars = value.Node 3 ∷ value.Nowhere ∷ value.Nowhere ∷ value.Set 7 ∷ value.Int 0 ∷ [];
    owed = None ∷ None ∷ None ∷ Some 3 ∷ [];
  };
  held = record { from = 1; message = 4; value = value.Unit } ∷ [];
  remotes =
      record { place = Comm 5; vars = value.Int 0 ∷ []; slot = None } ∷
      record { place = Trans (guard_id 6 0); vars = value.Int 0 ∷ []; slot = None } ∷
      record { place = Trans (guard_id 6 0); vars = value.Int 0 ∷ []; slot = None } ∷
      record { place = Trans (guard_id 3 0); vars = value.Int 0 ∷ []; slot = None } ∷
      [];
  links =
      record { up = []; down = packet.Request 6 value.Unit ∷ [] } ∷
      no_packets ∷
      record { up = packet.Request 4 value.Unit ∷ []; down = [] } ∷
      no_packets ∷
      [];
}

-- home INV/0>0 j=#3 o=none v=none s={0,1,2} d=0 held[1:ev] owed[3:gx]
-- remote 0 S d=0 slot[] up[] down[?inv]
-- remote 1 E* d=0 slot[] up[] down[]
-- remote 2 E* d=0 slot[] up[] down[-]
-- remote 3 RX* d=0 slot[] up[] down[]
abbrev pub progress_used_29 : Config
progress_used_29 = record {
  home = record {
    place = Waits (record { by = (guard_id 2 0); on = 0; sent = value.Unit });
    vars = value.Node 3 ∷ value.Nowhere ∷ value.Nowhere ∷ value.Set 7 ∷ value.Int 0 ∷ [];
    owed = None ∷ None ∷ None ∷ Some 3 ∷ [];
  };
  held = record { from = 1; message = 4; value = value.Unit } ∷ [];
  remotes =
      record { place = Comm 5; vars = value.Int 0 ∷ []; slot = None } ∷
      record { place = Trans (guard_id 6 0); vars = value.Int 0 ∷ []; slot = None } ∷
      record { place = Trans (guard_id 6 0); vars = value.Int 0 ∷ []; slot = None } ∷
      record { place = Trans (guard_id 3 0); vars = value.Int 0 ∷ []; slot = None } ∷
      [];
  links =
      record { up = []; down = packet.Request 6 value.Unit ∷ [] } ∷
      no_packets ∷
      record { up = []; down = packet.Nack ∷ [] } ∷
      no_packets ∷
      [];
}

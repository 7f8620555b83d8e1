-- A remote gets the line, another one wants it, and the home's request to the owner crosses the
-- owner's own.
use Rattle.std.specs.Prelude.{[], ◌∷◌, Some, None}
use Rattle.proto_model.specs.declared.numbered.Value.TheVariants as value
use Rattle.controller_table.specs.Rows.{guard_id}
use Rattle.controller_table.specs.declared.rows.Place.TheVariants.{Comm, Trans}
use Rattle.ordered_links.specs.declared.packet.Packet.TheVariants as packet
use Rattle.ordered_links.specs.Lists.{no_packets}
use Rattle.async_shape.specs.Config.{Config}
use Rattle.async_shape.specs.declared.config.HomePlace.TheVariants.{Idle, Waits}

-- home F o=none j=none d=0 held[] owed[]
-- remote 0 I d=0 slot[] up[] down[]
-- remote 1 I d=0 slot[] up[] down[]
abbrev pub crossing_0 : Config
crossing_0 = record {
  home = record {
    place = Idle 0;
    vars = value.Nowhere ∷ value.Nowhere ∷ value.Int 0 ∷ [];
    owed = None ∷ None ∷ [];
  };
  held = [];
  remotes =
      record { place = Comm 0; vars = value.Int 0 ∷ []; slot = None } ∷
      record { place = Comm 0; vars = value.Int 0 ∷ []; slot = None } ∷
      [];
  links =
      no_packets ∷
      no_packets ∷
      [];
}

-- home F o=none j=none d=0 held[] owed[]
-- remote 0 R d=0 slot[] up[] down[]
-- remote 1 I d=0 slot[] up[] down[]
abbrev pub crossing_1 : Config
crossing_1 = record {
  home = record {
    place = Idle 0;
    vars = value.Nowhere ∷ value.Nowhere ∷ value.Int 0 ∷ [];
    owed = None ∷ None ∷ [];
  };
  held = [];
  remotes =
      record { place = Comm 1; vars = value.Int 0 ∷ []; slot = None } ∷
      record { place = Comm 0; vars = value.Int 0 ∷ []; slot = None } ∷
      [];
  links =
      no_packets ∷
      no_packets ∷
      [];
}

-- home F o=none j=none d=0 held[] owed[]
-- remote 0 R* d=0 slot[] up[?req] down[]
-- remote 1 I d=0 slot[] up[] down[]
abbrev pub crossing_2 : Config
crossing_2 = record {
  home = record {
    place = Idle 0;
    vars = value.Nowhere ∷ value.Nowhere ∷ value.Int 0 ∷ [];
    owed = None ∷ None ∷ [];
  };
  held = [];
  remotes =
      record { place = Trans (guard_id 1 0); vars = value.Int 0 ∷ []; slot = None } ∷
      record { place = Comm 0; vars = value.Int 0 ∷ []; slot = None } ∷
      [];
  links =
      record { up = packet.Request 0 value.Unit ∷ []; down = [] } ∷
      no_packets ∷
      [];
}

-- home F o=none j=none d=0 held[0:req] owed[]
-- remote 0 R* d=0 slot[] up[] down[]
-- remote 1 I d=0 slot[] up[] down[]
abbrev pub crossing_3 : Config
crossing_3 = record {
  home = record {
    place = Idle 0;
    vars = value.Nowhere ∷ value.Nowhere ∷ value.Int 0 ∷ [];
    owed = None ∷ None ∷ [];
  };
  held = record { from = 0; message = 0; value = value.Unit } ∷ [];
  remotes =
      record { place = Trans (guard_id 1 0); vars = value.Int 0 ∷ []; slot = None } ∷
      record { place = Comm 0; vars = value.Int 0 ∷ []; slot = None } ∷
      [];
  links =
      no_packets ∷
      no_packets ∷
      [];
}

-- home G o=none j=#0 d=0 held[] owed[0:gr]
-- remote 0 R* d=0 slot[] up[] down[]
-- remote 1 I d=0 slot[] up[] down[]
abbrev pub crossing_4 : Config
crossing_4 = record {
  home = record {
    place = Idle 1;
    vars = value.Nowhere ∷ value.Node 0 ∷ value.Int 0 ∷ [];
    owed = Some 1 ∷ None ∷ [];
  };
  held = [];
  remotes =
      record { place = Trans (guard_id 1 0); vars = value.Int 0 ∷ []; slot = None } ∷
      record { place = Comm 0; vars = value.Int 0 ∷ []; slot = None } ∷
      [];
  links =
      no_packets ∷
      no_packets ∷
      [];
}

-- home E o=#0 j=#0 d=0 held[] owed[]
-- remote 0 R* d=0 slot[] up[] down[=gr(0)]
-- remote 1 I d=0 slot[] up[] down[]
abbrev pub crossing_5 : Config
crossing_5 = record {
  home = record {
    place = Idle 2;
    vars = value.Node 0 ∷ value.Node 0 ∷ value.Int 0 ∷ [];
    owed = None ∷ None ∷ [];
  };
  held = [];
  remotes =
      record { place = Trans (guard_id 1 0); vars = value.Int 0 ∷ []; slot = None } ∷
      record { place = Comm 0; vars = value.Int 0 ∷ []; slot = None } ∷
      [];
  links =
      record { up = []; down = packet.Reply 1 (value.Int 0) ∷ [] } ∷
      no_packets ∷
      [];
}

-- home E o=#0 j=#0 d=0 held[] owed[]
-- remote 0 V d=0 slot[] up[] down[]
-- remote 1 I d=0 slot[] up[] down[]
abbrev pub crossing_6 : Config
crossing_6 = record {
  home = record {
    place = Idle 2;
    vars = value.Node 0 ∷ value.Node 0 ∷ value.Int 0 ∷ [];
    owed = None ∷ None ∷ [];
  };
  held = [];
  remotes =
      record { place = Comm 3; vars = value.Int 0 ∷ []; slot = None } ∷
      record { place = Comm 0; vars = value.Int 0 ∷ []; slot = None } ∷
      [];
  links =
      no_packets ∷
      no_packets ∷
      [];
}

-- home E o=#0 j=#0 d=0 held[] owed[]
-- remote 0 V d=0 slot[] up[] down[]
-- remote 1 R d=0 slot[] up[] down[]
abbrev pub crossing_7 : Config
crossing_7 = record {
  home = record {
    place = Idle 2;
    vars = value.Node 0 ∷ value.Node 0 ∷ value.Int 0 ∷ [];
    owed = None ∷ None ∷ [];
  };
  held = [];
  remotes =
      record { place = Comm 3; vars = value.Int 0 ∷ []; slot = None } ∷
      record { place = Comm 1; vars = value.Int 0 ∷ []; slot = None } ∷
      [];
  links =
      no_packets ∷
      no_packets ∷
      [];
}

-- home E o=#0 j=#0 d=0 held[] owed[]
-- remote 0 V d=0 slot[] up[] down[]
-- remote 1 R* d=0 slot[] up[?req] down[]
abbrev pub crossing_8 : Config
crossing_8 = record {
  home = record {
    place = Idle 2;
    vars = value.Node 0 ∷ value.Node 0 ∷ value.Int 0 ∷ [];
    owed = None ∷ None ∷ [];
  };
  held = [];
  remotes =
      record { place = Comm 3; vars = value.Int 0 ∷ []; slot = None } ∷
      record { place = Trans (guard_id 1 0); vars = value.Int 0 ∷ []; slot = None } ∷
      [];
  links =
      no_packets ∷
      record { up = packet.Request 0 value.Unit ∷ []; down = [] } ∷
      [];
}

-- home E o=#0 j=#0 d=0 held[1:req] owed[]
-- remote 0 V d=0 slot[] up[] down[]
-- remote 1 R* d=0 slot[] up[] down[]
abbrev pub crossing_9 : Config
crossing_9 = record {
  home = record {
    place = Idle 2;
    vars = value.Node 0 ∷ value.Node 0 ∷ value.Int 0 ∷ [];
    owed = None ∷ None ∷ [];
  };
  held = record { from = 1; message = 0; value = value.Unit } ∷ [];
  remotes =
      record { place = Comm 3; vars = value.Int 0 ∷ []; slot = None } ∷
      record { place = Trans (guard_id 1 0); vars = value.Int 0 ∷ []; slot = None } ∷
      [];
  links =
      no_packets ∷
      no_packets ∷
      [];
}

-- home I1 o=#0 j=#1 d=0 held[] owed[1:gr]
-- remote 0 V d=0 slot[] up[] down[]
-- remote 1 R* d=0 slot[] up[] down[]
abbrev pub crossing_10 : Config
crossing_10 = record {
  home = record {
    place = Idle 3;
    vars = value.Node 0 ∷ value.Node 1 ∷ value.Int 0 ∷ [];
    owed = None ∷ Some 1 ∷ [];
  };
  held = [];
  remotes =
      record { place = Comm 3; vars = value.Int 0 ∷ []; slot = None } ∷
      record { place = Trans (guard_id 1 0); vars = value.Int 0 ∷ []; slot = None } ∷
      [];
  links =
      no_packets ∷
      no_packets ∷
      [];
}

-- home I1/0>0 o=#0 j=#1 d=0 held[] owed[1:gr]
-- remote 0 V d=0 slot[] up[] down[?inv]
-- remote 1 R* d=0 slot[] up[] down[]
abbrev pub crossing_11 : Config
crossing_11 = record {
  home = record {
    place = Waits (record { by = (guard_id 3 0); on = 0; sent = value.Unit });
    vars = value.Node 0 ∷ value.Node 1 ∷ value.Int 0 ∷ [];
    owed = None ∷ Some 1 ∷ [];
  };
  held = [];
  remotes =
      record { place = Comm 3; vars = value.Int 0 ∷ []; slot = None } ∷
      record { place = Trans (guard_id 1 0); vars = value.Int 0 ∷ []; slot = None } ∷
      [];
  links =
      record { up = []; down = packet.Request 3 value.Unit ∷ [] } ∷
      no_packets ∷
      [];
}

-- home I1/0>0 o=#0 j=#1 d=0 held[] owed[1:gr]
-- remote 0 L d=0 slot[] up[] down[?inv]
-- remote 1 R* d=0 slot[] up[] down[]
abbrev pub crossing_12 : Config
crossing_12 = record {
  home = record {
    place = Waits (record { by = (guard_id 3 0); on = 0; sent = value.Unit });
    vars = value.Node 0 ∷ value.Node 1 ∷ value.Int 0 ∷ [];
    owed = None ∷ Some 1 ∷ [];
  };
  held = [];
  remotes =
      record { place = Comm 4; vars = value.Int 0 ∷ []; slot = None } ∷
      record { place = Trans (guard_id 1 0); vars = value.Int 0 ∷ []; slot = None } ∷
      [];
  links =
      record { up = []; down = packet.Request 3 value.Unit ∷ [] } ∷
      no_packets ∷
      [];
}

-- home I1/0>0 o=#0 j=#1 d=0 held[] owed[1:gr]
-- remote 0 L* d=0 slot[] up[?lr(0)] down[?inv]
-- remote 1 R* d=0 slot[] up[] down[]
abbrev pub crossing_13 : Config
crossing_13 = record {
  home = record {
    place = Waits (record { by = (guard_id 3 0); on = 0; sent = value.Unit });
    vars = value.Node 0 ∷ value.Node 1 ∷ value.Int 0 ∷ [];
    owed = None ∷ Some 1 ∷ [];
  };
  held = [];
  remotes =
      record { place = Trans (guard_id 4 0); vars = value.Int 0 ∷ []; slot = None } ∷
      record { place = Trans (guard_id 1 0); vars = value.Int 0 ∷ []; slot = None } ∷
      [];
  links =
      record { up = packet.Request 2 (value.Int 0) ∷ []; down = packet.Request 3 value.Unit ∷ [] } ∷
      no_packets ∷
      [];
}

-- home I1/0>0 o=#0 j=#1 d=0 held[] owed[1:gr]
-- remote 0 L* d=0 slot[] up[?lr(0)] down[]
-- remote 1 R* d=0 slot[] up[] down[]
abbrev pub crossing_14 : Config
crossing_14 = record {
  home = record {
    place = Waits (record { by = (guard_id 3 0); on = 0; sent = value.Unit });
    vars = value.Node 0 ∷ value.Node 1 ∷ value.Int 0 ∷ [];
    owed = None ∷ Some 1 ∷ [];
  };
  held = [];
  remotes =
      record { place = Trans (guard_id 4 0); vars = value.Int 0 ∷ []; slot = None } ∷
      record { place = Trans (guard_id 1 0); vars = value.Int 0 ∷ []; slot = None } ∷
      [];
  links =
      record { up = packet.Request 2 (value.Int 0) ∷ []; down = [] } ∷
      no_packets ∷
      [];
}

-- home I1 o=#0 j=#1 d=0 held[0:lr(0)] owed[1:gr]
-- remote 0 L* d=0 slot[] up[] down[]
-- remote 1 R* d=0 slot[] up[] down[]
abbrev pub crossing_15 : Config
crossing_15 = record {
  home = record {
    place = Idle 3;
    vars = value.Node 0 ∷ value.Node 1 ∷ value.Int 0 ∷ [];
    owed = None ∷ Some 1 ∷ [];
  };
  held = record { from = 0; message = 2; value = value.Int 0 } ∷ [];
  remotes =
      record { place = Trans (guard_id 4 0); vars = value.Int 0 ∷ []; slot = None } ∷
      record { place = Trans (guard_id 1 0); vars = value.Int 0 ∷ []; slot = None } ∷
      [];
  links =
      no_packets ∷
      no_packets ∷
      [];
}

-- home G o=#0 j=#1 d=0 held[] owed[1:gr]
-- remote 0 L* d=0 slot[] up[] down[+]
-- remote 1 R* d=0 slot[] up[] down[]
abbrev pub crossing_16 : Config
crossing_16 = record {
  home = record {
    place = Idle 1;
    vars = value.Node 0 ∷ value.Node 1 ∷ value.Int 0 ∷ [];
    owed = None ∷ Some 1 ∷ [];
  };
  held = [];
  remotes =
      record { place = Trans (guard_id 4 0); vars = value.Int 0 ∷ []; slot = None } ∷
      record { place = Trans (guard_id 1 0); vars = value.Int 0 ∷ []; slot = None } ∷
      [];
  links =
      record { up = []; down = packet.Ack ∷ [] } ∷
      no_packets ∷
      [];
}

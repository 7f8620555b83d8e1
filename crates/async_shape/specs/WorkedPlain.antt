-- A grant to the one remote in mode plain: each of the two requests has its ack.
use Rattle.std.specs.Prelude.{[], ◌∷◌, Some, None}
use Rattle.proto_model.specs.declared.numbered.Value.TheVariants as value
use Rattle.controller_table.specs.Rows.{guard_id}
use Rattle.controller_table.specs.declared.rows.Place.TheVariants.{Comm, Trans}
use Rattle.ordered_links.specs.declared.packet.Packet.TheVariants as packet
use Rattle.ordered_links.specs.Lists.{no_packets}
use Rattle.async_shape.specs.Config.{Config}
use Rattle.async_shape.specs.declared.config.HomePlace.TheVariants.{Idle, Waits}

-- home F o=none j=none d=0 held[] owed[]
-- remote 0 I d=0 slot[] up[] down[]
abbrev pub plain_0 : Config
plain_0 = record {
  home = record {
    place = Idle 0;
    vars = value.Nowhere ∷ value.Nowhere ∷ value.Int 0 ∷ [];
    owed = None ∷ [];
  };
  held = [];
  remotes =
      record { place = Comm 0; vars = value.Int 0 ∷ []; slot = None } ∷
      [];
  links =
      no_packets ∷
      [];
}

-- home F o=none j=none d=0 held[] owed[]
-- remote 0 R d=0 slot[] up[] down[]
abbrev pub plain_1 : Config
plain_1 = record {
  home = record {
    place = Idle 0;
    vars = value.Nowhere ∷ value.Nowhere ∷ value.Int 0 ∷ [];
    owed = None ∷ [];
  };
  held = [];
  remotes =
      record { place = Comm 1; vars = value.Int 0 ∷ []; slot = None } ∷
      [];
  links =
      no_packets ∷
      [];
}

-- home F o=none j=none d=0 held[] owed[]
-- remote 0 R* d=0 slot[] up[?req] down[]
abbrev pub plain_2 : Config
plain_2 = record {
  home = record {
    place = Idle 0;
    vars = value.Nowhere ∷ value.Nowhere ∷ value.Int 0 ∷ [];
    owed = None ∷ [];
  };
  held = [];
  remotes =
      record { place = Trans (guard_id 1 0); vars = value.Int 0 ∷ []; slot = None } ∷
      [];
  links =
      record { up = packet.Request 0 value.Unit ∷ []; down = [] } ∷
      [];
}

-- home F o=none j=none d=0 held[0:req] owed[]
-- remote 0 R* d=0 slot[] up[] down[]
abbrev pub plain_3 : Config
plain_3 = record {
  home = record {
    place = Idle 0;
    vars = value.Nowhere ∷ value.Nowhere ∷ value.Int 0 ∷ [];
    owed = None ∷ [];
  };
  held = record { from = 0; message = 0; value = value.Unit } ∷ [];
  remotes =
      record { place = Trans (guard_id 1 0); vars = value.Int 0 ∷ []; slot = None } ∷
      [];
  links =
      no_packets ∷
      [];
}

-- home G o=none j=#0 d=0 held[] owed[]
-- remote 0 R* d=0 slot[] up[] down[+]
abbrev pub plain_4 : Config
plain_4 = record {
  home = record {
    place = Idle 1;
    vars = value.Nowhere ∷ value.Node 0 ∷ value.Int 0 ∷ [];
    owed = None ∷ [];
  };
  held = [];
  remotes =
      record { place = Trans (guard_id 1 0); vars = value.Int 0 ∷ []; slot = None } ∷
      [];
  links =
      record { up = []; down = packet.Ack ∷ [] } ∷
      [];
}

-- home G/0>0 o=none j=#0 d=0 held[] owed[]
-- remote 0 R* d=0 slot[] up[] down[+,?gr(0)]
abbrev pub plain_5 : Config
plain_5 = record {
  home = record {
    place = Waits (record { by = (guard_id 1 0); on = 0; sent = value.Int 0 });
    vars = value.Nowhere ∷ value.Node 0 ∷ value.Int 0 ∷ [];
    owed = None ∷ [];
  };
  held = [];
  remotes =
      record { place = Trans (guard_id 1 0); vars = value.Int 0 ∷ []; slot = None } ∷
      [];
  links =
      record { up = []; down = packet.Ack ∷ packet.Request 1 (value.Int 0) ∷ [] } ∷
      [];
}

-- home G/0>0 o=none j=#0 d=0 held[] owed[]
-- remote 0 W d=0 slot[] up[] down[?gr(0)]
abbrev pub plain_6 : Config
plain_6 = record {
  home = record {
    place = Waits (record { by = (guard_id 1 0); on = 0; sent = value.Int 0 });
    vars = value.Nowhere ∷ value.Node 0 ∷ value.Int 0 ∷ [];
    owed = None ∷ [];
  };
  held = [];
  remotes =
      record { place = Comm 2; vars = value.Int 0 ∷ []; slot = None } ∷
      [];
  links =
      record { up = []; down = packet.Request 1 (value.Int 0) ∷ [] } ∷
      [];
}

-- home G/0>0 o=none j=#0 d=0 held[] owed[]
-- remote 0 W d=0 slot[gr(0)] up[] down[]
abbrev pub plain_7 : Config
plain_7 = record {
  home = record {
    place = Waits (record { by = (guard_id 1 0); on = 0; sent = value.Int 0 });
    vars = value.Nowhere ∷ value.Node 0 ∷ value.Int 0 ∷ [];
    owed = None ∷ [];
  };
  held = [];
  remotes =
      record {
        place = Comm 2;
        vars = value.Int 0 ∷ [];
        slot = Some (record { message = 1; value = value.Int 0 });
      } ∷
      [];
  links =
      no_packets ∷
      [];
}

-- home G/0>0 o=none j=#0 d=0 held[] owed[]
-- remote 0 V d=0 slot[] up[+] down[]
abbrev pub plain_8 : Config
plain_8 = record {
  home = record {
    place = Waits (record { by = (guard_id 1 0); on = 0; sent = value.Int 0 });
    vars = value.Nowhere ∷ value.Node 0 ∷ value.Int 0 ∷ [];
    owed = None ∷ [];
  };
  held = [];
  remotes =
      record { place = Comm 3; vars = value.Int 0 ∷ []; slot = None } ∷
      [];
  links =
      record { up = packet.Ack ∷ []; down = [] } ∷
      [];
}

-- home E o=#0 j=#0 d=0 held[] owed[]
-- remote 0 V d=0 slot[] up[] down[]
abbrev pub plain_9 : Config
plain_9 = record {
  home = record {
    place = Idle 2;
    vars = value.Node 0 ∷ value.Node 0 ∷ value.Int 0 ∷ [];
    owed = None ∷ [];
  };
  held = [];
  remotes =
      record { place = Comm 3; vars = value.Int 0 ∷ []; slot = None } ∷
      [];
  links =
      no_packets ∷
      [];
}

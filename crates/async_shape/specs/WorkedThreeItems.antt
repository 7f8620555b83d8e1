-- A down link with three items: a request that crossed, an ack and a request.
use Rattle.std.specs.Prelude.{[], ◌∷◌, Some, None}
use Rattle.proto_model.specs.declared.numbered.Value.TheVariants as value
use Rattle.controller_table.specs.Rows.{guard_id}
use Rattle.controller_table.specs.declared.rows.Place.TheVariants.{Comm, Trans}
use Rattle.ordered_links.specs.declared.packet.Packet.TheVariants as packet
use Rattle.ordered_links.specs.Lists.{no_packets}
use Rattle.async_shape.specs.Config.{Config}
use Rattle.async_shape.specs.declared.config.HomePlace.TheVariants.{Idle, Waits}

-- home H j=none held[] owed[]
-- remote 0 P slot[] up[] down[]
abbrev pub three_items_0 : Config
three_items_0 = record {
  home = record {
    place = Idle 0;
    vars = value.Nowhere ∷ [];
    owed = None ∷ [];
  };
  held = [];
  remotes =
      record { place = Comm 0; vars = []; slot = None } ∷
      [];
  links =
      no_packets ∷
      [];
}

-- home H/0>0 j=none held[] owed[]
-- remote 0 P slot[] up[] down[?a]
abbrev pub three_items_1 : Config
three_items_1 = record {
  home = record {
    place = Waits (record { by = (guard_id 0 0); on = 0; sent = value.Unit });
    vars = value.Nowhere ∷ [];
    owed = None ∷ [];
  };
  held = [];
  remotes =
      record { place = Comm 0; vars = []; slot = None } ∷
      [];
  links =
      record { up = []; down = packet.Request 0 value.Unit ∷ [] } ∷
      [];
}

-- home H/0>0 j=none held[] owed[]
-- remote 0 Q slot[] up[] down[?a]
abbrev pub three_items_2 : Config
three_items_2 = record {
  home = record {
    place = Waits (record { by = (guard_id 0 0); on = 0; sent = value.Unit });
    vars = value.Nowhere ∷ [];
    owed = None ∷ [];
  };
  held = [];
  remotes =
      record { place = Comm 1; vars = []; slot = None } ∷
      [];
  links =
      record { up = []; down = packet.Request 0 value.Unit ∷ [] } ∷
      [];
}

-- home H/0>0 j=none held[] owed[]
-- remote 0 Q* slot[] up[?b] down[?a]
abbrev pub three_items_3 : Config
three_items_3 = record {
  home = record {
    place = Waits (record { by = (guard_id 0 0); on = 0; sent = value.Unit });
    vars = value.Nowhere ∷ [];
    owed = None ∷ [];
  };
  held = [];
  remotes =
      record { place = Trans (guard_id 1 0); vars = []; slot = None } ∷
      [];
  links =
      record { up = packet.Request 1 value.Unit ∷ []; down = packet.Request 0 value.Unit ∷ [] } ∷
      [];
}

-- home H j=none held[0:b] owed[]
-- remote 0 Q* slot[] up[] down[?a]
abbrev pub three_items_4 : Config
three_items_4 = record {
  home = record {
    place = Idle 0;
    vars = value.Nowhere ∷ [];
    owed = None ∷ [];
  };
  held = record { from = 0; message = 1; value = value.Unit } ∷ [];
  remotes =
      record { place = Trans (guard_id 1 0); vars = []; slot = None } ∷
      [];
  links =
      record { up = []; down = packet.Request 0 value.Unit ∷ [] } ∷
      [];
}

-- home H j=#0 held[] owed[]
-- remote 0 Q* slot[] up[] down[?a,+]
abbrev pub three_items_5 : Config
three_items_5 = record {
  home = record {
    place = Idle 0;
    vars = value.Node 0 ∷ [];
    owed = None ∷ [];
  };
  held = [];
  remotes =
      record { place = Trans (guard_id 1 0); vars = []; slot = None } ∷
      [];
  links =
      record { up = []; down = packet.Request 0 value.Unit ∷ packet.Ack ∷ [] } ∷
      [];
}

-- home H/0>0 j=#0 held[] owed[]
-- remote 0 Q* slot[] up[] down[?a,+,?a]
abbrev pub three_items_6 : Config
three_items_6 = record {
  home = record {
    place = Waits (record { by = (guard_id 0 0); on = 0; sent = value.Unit });
    vars = value.Node 0 ∷ [];
    owed = None ∷ [];
  };
  held = [];
  remotes =
      record { place = Trans (guard_id 1 0); vars = []; slot = None } ∷
      [];
  links =
      record {
        up = [];
        down = packet.Request 0 value.Unit ∷ packet.Ack ∷ packet.Request 0 value.Unit ∷ [];
      } ∷
      [];
}

-- home H/0>0 j=#0 held[] owed[]
-- remote 0 Q* slot[] up[] down[+,?a]
abbrev pub three_items_7 : Config
three_items_7 = record {
  home = record {
    place = Waits (record { by = (guard_id 0 0); on = 0; sent = value.Unit });
    vars = value.Node 0 ∷ [];
    owed = None ∷ [];
  };
  held = [];
  remotes =
      record { place = Trans (guard_id 1 0); vars = []; slot = None } ∷
      [];
  links =
      record { up = []; down = packet.Ack ∷ packet.Request 0 value.Unit ∷ [] } ∷
      [];
}

-- home H/0>0 j=#0 held[] owed[]
-- remote 0 P slot[] up[] down[?a]
abbrev pub three_items_8 : Config
three_items_8 = record {
  home = record {
    place = Waits (record { by = (guard_id 0 0); on = 0; sent = value.Unit });
    vars = value.Node 0 ∷ [];
    owed = None ∷ [];
  };
  held = [];
  remotes =
      record { place = Comm 0; vars = []; slot = None } ∷
      [];
  links =
      record { up = []; down = packet.Request 0 value.Unit ∷ [] } ∷
      [];
}

-- home H/0>0 j=#0 held[] owed[]
-- remote 0 P slot[a] up[] down[]
abbrev pub three_items_9 : Config
three_items_9 = record {
  home = record {
    place = Waits (record { by = (guard_id 0 0); on = 0; sent = value.Unit });
    vars = value.Node 0 ∷ [];
    owed = None ∷ [];
  };
  held = [];
  remotes =
      record {
        place = Comm 0;
        vars = [];
        slot = Some (record { message = 0; value = value.Unit });
      } ∷
      [];
  links =
      no_packets ∷
      [];
}

-- home H/0>0 j=#0 held[] owed[]
-- remote 0 P slot[] up[+] down[]
abbrev pub three_items_10 : Config
three_items_10 = record {
  home = record {
    place = Waits (record { by = (guard_id 0 0); on = 0; sent = value.Unit });
    vars = value.Node 0 ∷ [];
    owed = None ∷ [];
  };
  held = [];
  remotes =
      record { place = Comm 0; vars = []; slot = None } ∷
      [];
  links =
      record { up = packet.Ack ∷ []; down = [] } ∷
      [];
}

-- home H j=#0 held[] owed[]
-- remote 0 P slot[] up[] down[]
abbrev pub three_items_11 : Config
three_items_11 = record {
  home = record {
    place = Idle 0;
    vars = value.Node 0 ∷ [];
    owed = None ∷ [];
  };
  held = [];
  remotes =
      record { place = Comm 0; vars = []; slot = None } ∷
      [];
  links =
      no_packets ∷
      [];
}

-- An idle home is full of requests that it can no longer use.
use Rattle.std.specs.Prelude.{[], ◌∷◌, None}
use Rattle.proto_model.specs.declared.numbered.Value.TheVariants as value
use Rattle.controller_table.specs.Rows.{guard_id}
use Rattle.controller_table.specs.declared.rows.Place.TheVariants.{Comm, Trans}
use Rattle.ordered_links.specs.declared.packet.Packet.TheVariants as packet
use Rattle.ordered_links.specs.Lists.{no_packets}
use Rattle.async_shape.specs.Config.{Config}
use Rattle.async_shape.specs.declared.config.HomePlace.TheVariants.{Idle}

-- home A j=none held[] owed[]
-- remote 0 R slot[] up[] down[]
-- remote 1 R slot[] up[] down[]
-- remote 2 R slot[] up[] down[]
abbrev pub displacement_0 : Config
displacement_0 = record {
  home = record {
    place = Idle 0;
    vars = value.Nowhere ∷ [];
    owed = None ∷ None ∷ None ∷ [];
  };
  held = [];
  remotes =
      record { place = Comm 0; vars = []; slot = None } ∷
      record { place = Comm 0; vars = []; slot = None } ∷
      record { place = Comm 0; vars = []; slot = None } ∷
      [];
  links =
      no_packets ∷
      no_packets ∷
      no_packets ∷
      [];
}

-- home A j=none held[] owed[]
-- remote 0 SA slot[] up[] down[]
-- remote 1 R slot[] up[] down[]
-- remote 2 R slot[] up[] down[]
abbrev pub displacement_1 : Config
displacement_1 = record {
  home = record {
    place = Idle 0;
    vars = value.Nowhere ∷ [];
    owed = None ∷ None ∷ None ∷ [];
  };
  held = [];
  remotes =
      record { place = Comm 1; vars = []; slot = None } ∷
      record { place = Comm 0; vars = []; slot = None } ∷
      record { place = Comm 0; vars = []; slot = None } ∷
      [];
  links =
      no_packets ∷
      no_packets ∷
      no_packets ∷
      [];
}

-- home A j=none held[] owed[]
-- remote 0 SA* slot[] up[?a] down[]
-- remote 1 R slot[] up[] down[]
-- remote 2 R slot[] up[] down[]
abbrev pub displacement_2 : Config
displacement_2 = record {
  home = record {
    place = Idle 0;
    vars = value.Nowhere ∷ [];
    owed = None ∷ None ∷ None ∷ [];
  };
  held = [];
  remotes =
      record { place = Trans (guard_id 1 0); vars = []; slot = None } ∷
      record { place = Comm 0; vars = []; slot = None } ∷
      record { place = Comm 0; vars = []; slot = None } ∷
      [];
  links =
      record { up = packet.Request 0 value.Unit ∷ []; down = [] } ∷
      no_packets ∷
      no_packets ∷
      [];
}

-- home A j=none held[0:a] owed[]
-- remote 0 SA* slot[] up[] down[]
-- remote 1 R slot[] up[] down[]
-- remote 2 R slot[] up[] down[]
abbrev pub displacement_3 : Config
displacement_3 = record {
  home = record {
    place = Idle 0;
    vars = value.Nowhere ∷ [];
    owed = None ∷ None ∷ None ∷ [];
  };
  held = record { from = 0; message = 0; value = value.Unit } ∷ [];
  remotes =
      record { place = Trans (guard_id 1 0); vars = []; slot = None } ∷
      record { place = Comm 0; vars = []; slot = None } ∷
      record { place = Comm 0; vars = []; slot = None } ∷
      [];
  links =
      no_packets ∷
      no_packets ∷
      no_packets ∷
      [];
}

-- home A j=none held[0:a] owed[]
-- remote 0 SA* slot[] up[] down[]
-- remote 1 SA slot[] up[] down[]
-- remote 2 R slot[] up[] down[]
abbrev pub displacement_4 : Config
displacement_4 = record {
  home = record {
    place = Idle 0;
    vars = value.Nowhere ∷ [];
    owed = None ∷ None ∷ None ∷ [];
  };
  held = record { from = 0; message = 0; value = value.Unit } ∷ [];
  remotes =
      record { place = Trans (guard_id 1 0); vars = []; slot = None } ∷
      record { place = Comm 1; vars = []; slot = None } ∷
      record { place = Comm 0; vars = []; slot = None } ∷
      [];
  links =
      no_packets ∷
      no_packets ∷
      no_packets ∷
      [];
}

-- home A j=none held[0:a] owed[]
-- remote 0 SA* slot[] up[] down[]
-- remote 1 SA* slot[] up[?a] down[]
-- remote 2 R slot[] up[] down[]
abbrev pub displacement_5 : Config
displacement_5 = record {
  home = record {
    place = Idle 0;
    vars = value.Nowhere ∷ [];
    owed = None ∷ None ∷ None ∷ [];
  };
  held = record { from = 0; message = 0; value = value.Unit } ∷ [];
  remotes =
      record { place = Trans (guard_id 1 0); vars = []; slot = None } ∷
      record { place = Trans (guard_id 1 0); vars = []; slot = None } ∷
      record { place = Comm 0; vars = []; slot = None } ∷
      [];
  links =
      no_packets ∷
      record { up = packet.Request 0 value.Unit ∷ []; down = [] } ∷
      no_packets ∷
      [];
}

-- home A j=none held[0:a,1:a] owed[]
-- remote 0 SA* slot[] up[] down[]
-- remote 1 SA* slot[] up[] down[]
-- remote 2 R slot[] up[] down[]
abbrev pub displacement_6 : Config
displacement_6 = record {
  home = record {
    place = Idle 0;
    vars = value.Nowhere ∷ [];
    owed = None ∷ None ∷ None ∷ [];
  };
  held =
      record { from = 0; message = 0; value = value.Unit } ∷
      record { from = 1; message = 0; value = value.Unit } ∷
      [];
  remotes =
      record { place = Trans (guard_id 1 0); vars = []; slot = None } ∷
      record { place = Trans (guard_id 1 0); vars = []; slot = None } ∷
      record { place = Comm 0; vars = []; slot = None } ∷
      [];
  links =
      no_packets ∷
      no_packets ∷
      no_packets ∷
      [];
}

-- home B j=none held[0:a,1:a] owed[]
-- remote 0 SA* slot[] up[] down[]
-- remote 1 SA* slot[] up[] down[]
-- remote 2 R slot[] up[] down[]
abbrev pub displacement_7 : Config
displacement_7 = record {
  home = record {
    place = Idle 1;
    vars = value.Nowhere ∷ [];
    owed = None ∷ None ∷ None ∷ [];
  };
  held =
      record { from = 0; message = 0; value = value.Unit } ∷
      record { from = 1; message = 0; value = value.Unit } ∷
      [];
  remotes =
      record { place = Trans (guard_id 1 0); vars = []; slot = None } ∷
      record { place = Trans (guard_id 1 0); vars = []; slot = None } ∷
      record { place = Comm 0; vars = []; slot = None } ∷
      [];
  links =
      no_packets ∷
      no_packets ∷
      no_packets ∷
      [];
}

-- home B j=none held[0:a,1:a] owed[]
-- remote 0 SA* slot[] up[] down[]
-- remote 1 SA* slot[] up[] down[]
-- remote 2 SB slot[] up[] down[]
abbrev pub displacement_8 : Config
displacement_8 = record {
  home = record {
    place = Idle 1;
    vars = value.Nowhere ∷ [];
    owed = None ∷ None ∷ None ∷ [];
  };
  held =
      record { from = 0; message = 0; value = value.Unit } ∷
      record { from = 1; message = 0; value = value.Unit } ∷
      [];
  remotes =
      record { place = Trans (guard_id 1 0); vars = []; slot = None } ∷
      record { place = Trans (guard_id 1 0); vars = []; slot = None } ∷
      record { place = Comm 2; vars = []; slot = None } ∷
      [];
  links =
      no_packets ∷
      no_packets ∷
      no_packets ∷
      [];
}

-- home B j=none held[0:a,1:a] owed[]
-- remote 0 SA* slot[] up[] down[]
-- remote 1 SA* slot[] up[] down[]
-- remote 2 SB* slot[] up[?b] down[]
abbrev pub displacement_9 : Config
displacement_9 = record {
  home = record {
    place = Idle 1;
    vars = value.Nowhere ∷ [];
    owed = None ∷ None ∷ None ∷ [];
  };
  held =
      record { from = 0; message = 0; value = value.Unit } ∷
      record { from = 1; message = 0; value = value.Unit } ∷
      [];
  remotes =
      record { place = Trans (guard_id 1 0); vars = []; slot = None } ∷
      record { place = Trans (guard_id 1 0); vars = []; slot = None } ∷
      record { place = Trans (guard_id 2 0); vars = []; slot = None } ∷
      [];
  links =
      no_packets ∷
      no_packets ∷
      record { up = packet.Request 1 value.Unit ∷ []; down = [] } ∷
      [];
}

-- home B j=none held[0:a,2:b] owed[]
-- remote 0 SA* slot[] up[] down[]
-- remote 1 SA* slot[] up[] down[-]
-- remote 2 SB* slot[] up[] down[]
abbrev pub displacement_10 : Config
displacement_10 = record {
  home = record {
    place = Idle 1;
    vars = value.Nowhere ∷ [];
    owed = None ∷ None ∷ None ∷ [];
  };
  held =
      record { from = 0; message = 0; value = value.Unit } ∷
      record { from = 2; message = 1; value = value.Unit } ∷
      [];
  remotes =
      record { place = Trans (guard_id 1 0); vars = []; slot = None } ∷
      record { place = Trans (guard_id 1 0); vars = []; slot = None } ∷
      record { place = Trans (guard_id 2 0); vars = []; slot = None } ∷
      [];
  links =
      no_packets ∷
      record { up = []; down = packet.Nack ∷ [] } ∷
      no_packets ∷
      [];
}

-- home A j=#2 held[0:a] owed[]
-- remote 0 SA* slot[] up[] down[]
-- remote 1 SA* slot[] up[] down[-]
-- remote 2 SB* slot[] up[] down[+]
abbrev pub displacement_11 : Config
displacement_11 = record {
  home = record {
    place = Idle 0;
    vars = value.Node 2 ∷ [];
    owed = None ∷ None ∷ None ∷ [];
  };
  held = record { from = 0; message = 0; value = value.Unit } ∷ [];
  remotes =
      record { place = Trans (guard_id 1 0); vars = []; slot = None } ∷
      record { place = Trans (guard_id 1 0); vars = []; slot = None } ∷
      record { place = Trans (guard_id 2 0); vars = []; slot = None } ∷
      [];
  links =
      no_packets ∷
      record { up = []; down = packet.Nack ∷ [] } ∷
      record { up = []; down = packet.Ack ∷ [] } ∷
      [];
}

-- The home holds a request that it can't use, of the remote that it would ask.
use Rattle.std.specs.Prelude.{[], ◌∷◌, Some, None}
use Rattle.proto_model.specs.declared.numbered.Value.TheVariants as value
use Rattle.controller_table.specs.Rows.{guard_id}
use Rattle.controller_table.specs.declared.rows.Place.TheVariants.{Comm, Trans}
use Rattle.ordered_links.specs.declared.packet.Packet.TheVariants as packet
use Rattle.ordered_links.specs.Lists.{no_packets}
use Rattle.async_shape.specs.Config.{Config}
use Rattle.async_shape.specs.declared.config.HomePlace.TheVariants.{Idle, Waits}

-- home H j=none held[] owed[]
-- remote 0 Q slot[] up[] down[]
-- remote 1 Q slot[] up[] down[]
abbrev pub held_of_target_0 : Config
held_of_target_0 = record {
  home = record {
    place = Idle 0;
    vars = value.Nowhere ∷ [];
    owed = None ∷ None ∷ [];
  };
  held = [];
  remotes =
      record { place = Comm 0; vars = []; slot = None } ∷
      record { place = Comm 0; vars = []; slot = None } ∷
      [];
  links =
      no_packets ∷
      no_packets ∷
      [];
}

-- home H j=none held[] owed[]
-- remote 0 Q* slot[] up[?b] down[]
-- remote 1 Q slot[] up[] down[]
abbrev pub held_of_target_1 : Config
held_of_target_1 = record {
  home = record {
    place = Idle 0;
    vars = value.Nowhere ∷ [];
    owed = None ∷ None ∷ [];
  };
  held = [];
  remotes =
      record { place = Trans (guard_id 0 0); vars = []; slot = None } ∷
      record { place = Comm 0; vars = []; slot = None } ∷
      [];
  links =
      record { up = packet.Request 1 value.Unit ∷ []; down = [] } ∷
      no_packets ∷
      [];
}

-- home H j=none held[0:b] owed[]
-- remote 0 Q* slot[] up[] down[]
-- remote 1 Q slot[] up[] down[]
abbrev pub held_of_target_2 : Config
held_of_target_2 = record {
  home = record {
    place = Idle 0;
    vars = value.Nowhere ∷ [];
    owed = None ∷ None ∷ [];
  };
  held = record { from = 0; message = 1; value = value.Unit } ∷ [];
  remotes =
      record { place = Trans (guard_id 0 0); vars = []; slot = None } ∷
      record { place = Comm 0; vars = []; slot = None } ∷
      [];
  links =
      no_packets ∷
      no_packets ∷
      [];
}

-- home H j=none held[] owed[]
-- remote 0 Q* slot[] up[] down[-]
-- remote 1 Q slot[] up[] down[]
abbrev pub held_of_target_4 : Config
held_of_target_4 = record {
  home = record {
    place = Idle 0;
    vars = value.Nowhere ∷ [];
    owed = None ∷ None ∷ [];
  };
  held = [];
  remotes =
      record { place = Trans (guard_id 0 0); vars = []; slot = None } ∷
      record { place = Comm 0; vars = []; slot = None } ∷
      [];
  links =
      record { up = []; down = packet.Nack ∷ [] } ∷
      no_packets ∷
      [];
}

-- home H/0>0 j=none held[] owed[]
-- remote 0 Q* slot[] up[] down[-,?a]
-- remote 1 Q slot[] up[] down[]
abbrev pub held_of_target_5 : Config
held_of_target_5 = record {
  home = record {
    place = Waits (record { by = (guard_id 0 0); on = 0; sent = value.Unit });
    vars = value.Nowhere ∷ [];
    owed = None ∷ None ∷ [];
  };
  held = [];
  remotes =
      record { place = Trans (guard_id 0 0); vars = []; slot = None } ∷
      record { place = Comm 0; vars = []; slot = None } ∷
      [];
  links =
      record { up = []; down = packet.Nack ∷ packet.Request 0 value.Unit ∷ [] } ∷
      no_packets ∷
      [];
}

-- home H/0>0 j=none held[] owed[]
-- remote 0 Q slot[] up[] down[?a]
-- remote 1 Q slot[] up[] down[]
abbrev pub held_of_target_6 : Config
held_of_target_6 = record {
  home = record {
    place = Waits (record { by = (guard_id 0 0); on = 0; sent = value.Unit });
    vars = value.Nowhere ∷ [];
    owed = None ∷ None ∷ [];
  };
  held = [];
  remotes =
      record { place = Comm 0; vars = []; slot = None } ∷
      record { place = Comm 0; vars = []; slot = None } ∷
      [];
  links =
      record { up = []; down = packet.Request 0 value.Unit ∷ [] } ∷
      no_packets ∷
      [];
}

-- home H/0>0 j=none held[] owed[]
-- remote 0 Q slot[a] up[] down[]
-- remote 1 Q slot[] up[] down[]
abbrev pub held_of_target_7 : Config
held_of_target_7 = record {
  home = record {
    place = Waits (record { by = (guard_id 0 0); on = 0; sent = value.Unit });
    vars = value.Nowhere ∷ [];
    owed = None ∷ None ∷ [];
  };
  held = [];
  remotes =
      record {
        place = Comm 0;
        vars = [];
        slot = Some (record { message = 0; value = value.Unit });
      } ∷
      record { place = Comm 0; vars = []; slot = None } ∷
      [];
  links =
      no_packets ∷
      no_packets ∷
      [];
}

-- home H/0>0 j=none held[] owed[]
-- remote 0 Q* slot[] up[?b] down[]
-- remote 1 Q slot[] up[] down[]
abbrev pub held_of_target_8 : Config
held_of_target_8 = record {
  home = record {
    place = Waits (record { by = (guard_id 0 0); on = 0; sent = value.Unit });
    vars = value.Nowhere ∷ [];
    owed = None ∷ None ∷ [];
  };
  held = [];
  remotes =
      record { place = Trans (guard_id 0 0); vars = []; slot = None } ∷
      record { place = Comm 0; vars = []; slot = None } ∷
      [];
  links =
      record { up = packet.Request 1 value.Unit ∷ []; down = [] } ∷
      no_packets ∷
      [];
}

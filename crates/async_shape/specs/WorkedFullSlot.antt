-- The home's request is in the slot of a remote that turns active.
use Rattle.std.specs.Prelude.{[], ◌∷◌, Some, None}
use Rattle.proto_model.specs.declared.numbered.Value.TheVariants as value
use Rattle.controller_table.specs.Rows.{guard_id}
use Rattle.controller_table.specs.declared.rows.Place.TheVariants.{Comm, Trans}
use Rattle.ordered_links.specs.Lists.{no_packets}
use Rattle.async_shape.specs.Config.{Config}
use Rattle.async_shape.specs.declared.config.HomePlace.TheVariants.{Waits}

-- home I1/0>0 o=#0 j=#1 d=0 held[] owed[1:gr]
-- remote 0 V d=0 slot[inv] up[] down[]
-- remote 1 R* d=0 slot[] up[] down[]
abbrev pub full_slot_12 : Config
full_slot_12 = record {
  home = record {
    place = Waits (record { by = (guard_id 3 0); on = 0; sent = value.Unit });
    vars = value.Node 0 ∷ value.Node 1 ∷ value.Int 0 ∷ [];
    owed = None ∷ Some 1 ∷ [];
  };
  held = [];
  remotes =
      record {
        place = Comm 3;
        vars = value.Int 0 ∷ [];
        slot = Some (record { message = 3; value = value.Unit });
      } ∷
      record { place = Trans (guard_id 1 0); vars = value.Int 0 ∷ []; slot = None } ∷
      [];
  links =
      no_packets ∷
      no_packets ∷
      [];
}

-- home I1/0>0 o=#0 j=#1 d=0 held[] owed[1:gr]
-- remote 0 L d=0 slot[inv] up[] down[]
-- remote 1 R* d=0 slot[] up[] down[]
abbrev pub full_slot_13 : Config
full_slot_13 = record {
  home = record {
    place = Waits (record { by = (guard_id 3 0); on = 0; sent = value.Unit });
    vars = value.Node 0 ∷ value.Node 1 ∷ value.Int 0 ∷ [];
    owed = None ∷ Some 1 ∷ [];
  };
  held = [];
  remotes =
      record {
        place = Comm 4;
        vars = value.Int 0 ∷ [];
        slot = Some (record { message = 3; value = value.Unit });
      } ∷
      record { place = Trans (guard_id 1 0); vars = value.Int 0 ∷ []; slot = None } ∷
      [];
  links =
      no_packets ∷
      no_packets ∷
      [];
}

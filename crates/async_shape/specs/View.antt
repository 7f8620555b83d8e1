-- The view of one remote: all that concerns what is under way between it and the home.
use Rattle.std.specs.Prelude.{ℕ, ◌==◌, if◌then◌else◌, List, [], Option, None, slice_index_or}
use Rattle.std.specs.Option.{option_map}
use Rattle.proto_model.specs.Numbered.{NumberedProtocol}
use Rattle.controller_table.specs.declared.rows.Place.TheVariants.{Comm}
use Rattle.slot_reserve.specs.Requests.{first_of}
use Rattle.slot_reserve.specs.declared.held.Held.{Held}
use Rattle.ordered_links.specs.Lists.{links_at}
use Rattle.ordered_links.specs.declared.packet.Packet.{Packet}
use Rattle.async_shape.specs.Guards.{request_by}
use Rattle.async_shape.specs.Config.{Config, owed_to}
use Rattle.async_shape.specs.declared.config.HomeState.{HomeState}
use Rattle.async_shape.specs.declared.config.HomePlace.{HomePlace}
use Rattle.async_shape.specs.declared.config.HomePlace.TheVariants.{Idle, Waits}
use Rattle.async_shape.specs.declared.config.RemoteState.{RemoteState}
use Rattle.async_shape.specs.declared.config.Request.{Request}

-- the remote, its two links, and what the home holds of it, owes to it and waits for
pub record View : Type 0 where
  pub remote : RemoteState
  -- the request that the home waits for this remote to answer; none where it doesn't wait on it
  pub awaited : Option Request
  pub up : List Packet
  pub down : List Packet
  -- the request of this remote that the home holds
  pub held : Option Request
  -- the message that the home owes to it
  pub owed : Option ℕ

-- The request that the home waits for remote j to answer: that of the guard by which it waits. The
-- shape says that this guard is an output.
abbrev pub awaited_at : NumberedProtocol → HomeState → HomePlace → ℕ → Option Request
awaited_at protocol home (Idle state) j = None
awaited_at protocol home (Waits waiting) j =
    if waiting.on == j
    then request_by protocol.messages protocol.home home.vars waiting.by
    else None

-- a held request without its sender
abbrev pub held_request : Held → Request
held_request held = record { message = held.message; value = held.value }

-- what stands for a remote past the last one
abbrev pub nobody : RemoteState
nobody = record { place = Comm 0; vars = []; slot = None }

-- the view of remote j
abbrev pub view_at : NumberedProtocol → Config → ℕ → View
view_at protocol c j = record {
  remote = slice_index_or c.remotes j nobody;
  awaited = awaited_at protocol c.home c.home.place j;
  up = (links_at c.links j).up;
  down = (links_at c.links j).down;
  held = option_map held_request (first_of j c.held);
  owed = owed_to c.home j;
}

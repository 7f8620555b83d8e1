-- What a step leaves at the process that makes it, and the packet, at most one, that it puts on a
-- link.
use Rattle.std.specs.Prelude.{ℕ, List, Option, Some, None, slice_set}
use Rattle.proto_model.specs.declared.rendezvous.Part.{Part}
use Rattle.controller_table.specs.declared.rows.Place.TheVariants.{Comm}
use Rattle.slot_reserve.specs.declared.held.Held.{Held}
use Rattle.ordered_links.specs.Link.{Link}
use Rattle.ordered_links.specs.declared.packet.Packet.{Packet}
use Rattle.async_shape.specs.declared.config.HomeState.{HomeState}
use Rattle.async_shape.specs.declared.config.HomePlace.{HomePlace}
use Rattle.async_shape.specs.declared.config.HomePlace.TheVariants.{Idle, Waits}
use Rattle.async_shape.specs.declared.config.RemoteState.{RemoteState}

-- a packet, put at the end of a link
pub record Put : Type 0 where
  pub on : Link
  pub packet : Packet

-- this packet is put on this link
abbrev pub put_on : Link → Packet → Option Put
put_on link what = Some (record { on = link; packet = what })

-- what a step leaves at the home
pub record HomeOutcome : Type 0 where
  pub home : HomeState
  pub held : List Held
  pub put : Option Put
  -- the sender of the held request that made room for another one, where one did
  pub displaced_from : Option ℕ

-- what a step leaves at the home that displaces no request
abbrev pub at_home : HomeState → List Held → Option Put → HomeOutcome
at_home home held put = record { home = home; held = held; put = put; displaced_from = None }

-- what a step leaves at a remote
pub record RemoteOutcome : Type 0 where
  pub remote : RemoteState
  pub put : Option Put

-- the remote so, and this put
abbrev pub at_remote : RemoteState → Option Put → RemoteOutcome
at_remote remote put = record { remote = remote; put = put }

-- ---- the home

-- the state in which the home is idle; none while it waits
abbrev pub home_idle_state : HomePlace → Option ℕ
home_idle_state (Idle state) = Some state
home_idle_state (Waits waiting) = None

-- the home idle where this part stands
abbrev pub home_at : HomeState → Part → HomeState
home_at home p = record { place = Idle p.state; vars = p.vars; owed = home.owed }

-- the home, where it owes this message to remote j, or owes it none
abbrev pub owing : ℕ → Option ℕ → HomeState → HomeState
owing j debt home =
    record { place = home.place; vars = home.vars; owed = slice_set home.owed j debt }

-- ---- a remote

-- the remote idle where this part stands
abbrev pub remote_at : RemoteState → Part → RemoteState
remote_at remote p = record { place = Comm p.state; vars = p.vars; slot = remote.slot }

-- the remote with an empty slot
abbrev pub without_slot : RemoteState → RemoteState
without_slot remote = record { place = remote.place; vars = remote.vars; slot = None }

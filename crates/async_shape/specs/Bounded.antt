-- What is bounded in each configuration of a run, and what can arrive there.
use Rattle.std.specs.Prelude.{◌≡◌, ℕ, ◌+◌, ◌<◌, ◌≤◌, Bool, true, false, ◌&&◌, ◌==◌, if◌then◌else◌}
use Rattle.std.specs.Prelude.{List, length, is_some, is_none}
use Rattle.std.specs.Option.{option_map_or}
use Rattle.proto_model.specs.declared.numbered.Value.{Value}
use Rattle.proto_model.specs.declared.numbered.Body.{Body}
use Rattle.controller_table.specs.declared.rows.GuardId.{GuardId}
use Rattle.controller_table.specs.declared.rows.Place.{Place}
use Rattle.controller_table.specs.declared.rows.Place.TheVariants.{Comm, Trans, Due}
use Rattle.ordered_links.specs.Link.{Up, Down}
use Rattle.ordered_links.specs.Lists.{packets_on}
use Rattle.ordered_links.specs.Packets.{is_request}
use Rattle.ordered_links.specs.declared.packet.Packet.{Packet}
use Rattle.ordered_links.specs.declared.packet.Packet.TheVariants as packet
use Rattle.async_shape.specs.Setting.{Setting}
use Rattle.async_shape.specs.Config.{Config, count_of}
use Rattle.async_shape.specs.Guards.{after_ack, after_reply}
use Rattle.async_shape.specs.Requests.{is_waiting}
use Rattle.async_shape.specs.View.{view_at}
use Rattle.async_shape.specs.Next.{arriving}
use Rattle.async_shape.specs.declared.config.HomePlace.{HomePlace}
use Rattle.async_shape.specs.declared.config.HomePlace.TheVariants.{Idle, Waits}
use Rattle.async_shape.specs.declared.config.HomeState.{HomeState}
use Rattle.async_shape.specs.declared.config.RemoteState.{RemoteState}

-- A process that waits by this guard goes on where this packet arrives: a request and a nack need
-- no guard, and an ack and a reply find the guards that they complete.
abbrev pub goes_on : Body → List Value → GuardId → ℕ → Packet → Bool
goes_on body vars g partner (packet.Request m v) = true
goes_on body vars g partner packet.Ack = is_some (after_ack body vars g partner)
goes_on body vars g partner packet.Nack = true
goes_on body vars g partner (packet.Reply p v) = is_some (after_reply body vars g partner v)

-- The home expects this packet of remote j: where it waits on j, one with which it goes on; else a
-- request.
abbrev pub home_expects : Body → HomeState → ℕ → HomePlace → Packet → Bool
home_expects body home j (Idle state) arrived = is_request arrived
home_expects body home j (Waits waiting) arrived =
    if waiting.on == j
    then goes_on body home.vars waiting.by waiting.on arrived
    else is_request arrived

-- The remote expects this packet of the home: where it is idle, a request, for its empty slot;
-- where it waits, a packet with which it goes on; where it is due to reply, none.
abbrev pub remote_expects : Body → RemoteState → Place → Packet → Bool
remote_expects body remote (Comm state) arrived = is_request arrived && is_none remote.slot
remote_expects body remote (Trans g) arrived = goes_on body remote.vars g 0 arrived
remote_expects body remote (Due g) arrived = false

module _ (setting : Setting) (c : Config) where
  -- The links between the home and remote j, which stands so, are bounded, and what is first on
  -- them is expected where it arrives.
  pub record AreBoundedLinks (j : ℕ) (remote : RemoteState) : Type 0 where
    pub up : length (packets_on (Up j) c.links) ≤ 2
    pub down : length (packets_on (Down j) c.links) ≤ 3
    -- what is first on the up link is expected by the home, and on the down link by the remote
    pub to_home :
        option_map_or (home_expects setting.protocol.home c.home j c.home.place)
        (arriving c (Up j)) true ≡ true
    pub to_remote :
        option_map_or (remote_expects setting.protocol.remote remote remote.place)
        (arriving c (Down j)) true ≡ true

  -- At most k requests are held, and at most k - 1 while the home waits. At most 2 packets are on
  -- an up link and at most 3 on a down link, and what arrives next is expected where it arrives; so
  -- a request that arrives at an idle remote finds an empty slot.
  pub record IsBounded : Type 0 where
    pub held : length c.held ≤ setting.slots
    pub held_waiting : is_waiting c.home.place ≡ true → length c.held + 1 ≤ setting.slots
    pub links :
        (j : ℕ) → j < count_of c → AreBoundedLinks j (view_at setting.protocol c j).remote

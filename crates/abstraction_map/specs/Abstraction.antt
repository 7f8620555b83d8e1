-- The rendezvous configuration that an asynchronous one stands for. A process whose request was
-- granted stands behind its guard, though it doesn't know yet; where the reply is under way, it
-- stands behind the guard that takes the reply too.
use Rattle.std.specs.Prelude.{ℕ, Bool, true, false, List, [], ◌∷◌, is_some, map, unwrap_or}
use Rattle.std.specs.List.{range_with_len}
use Rattle.proto_model.specs.Numbered.{NumberedProtocol}
use Rattle.proto_model.specs.Guards.{part}
use Rattle.proto_model.specs.declared.numbered.Value.{Value}
use Rattle.proto_model.specs.declared.numbered.Body.{Body}
use Rattle.proto_model.specs.declared.rendezvous.Part.{Part}
use Rattle.proto_model.specs.declared.rendezvous.RvConfig.{RvConfig}
use Rattle.controller_table.specs.declared.rows.GuardId.{GuardId}
use Rattle.controller_table.specs.declared.rows.Place.{Place}
use Rattle.controller_table.specs.declared.rows.Place.TheVariants.{Comm, Trans, Due}
use Rattle.ordered_links.specs.declared.packet.Packet.{Packet}
use Rattle.ordered_links.specs.declared.packet.Packet.TheVariants as packet
use Rattle.async_shape.specs.Config.{Config, count_of}
use Rattle.async_shape.specs.Guards.{after_ack, after_reply}
use Rattle.async_shape.specs.View.{View, view_at}
use Rattle.async_shape.specs.declared.config.HomePlace.{HomePlace}
use Rattle.async_shape.specs.declared.config.HomePlace.TheVariants.{Idle, Waits}

-- ---- what became of a request

-- What became of the request by which a process waits: it was not granted, or not yet; it was
-- granted; or it was, and its reply with this value is under way.
pub data Fate : Type 0 where
  NotGranted : Fate
  Granted : Fate
  Replied : Value → Fate

-- the request was granted, or not
abbrev pub granted_if : Bool → Fate
granted_if true = Granted
granted_if false = NotGranted

-- The fate by the packets on the link to the process, and by whether it was granted otherwise. A
-- reply on the link decides; else an ack does, or that it was granted otherwise.
abbrev pub fate_in : List Packet → Bool → Fate
fate_in [] granted = granted_if granted
fate_in (packet.Request m v ∷ packets) granted = fate_in packets granted
fate_in (packet.Ack ∷ packets) granted = fate_in packets true
fate_in (packet.Nack ∷ packets) granted = fate_in packets granted
fate_in (packet.Reply p v ∷ packets) granted = Replied v

-- the remote is due to send a reply
abbrev pub is_due : Place → Bool
is_due (Comm state) = false
is_due (Trans g) = false
is_due (Due g) = true

-- What became of the request by which a remote waits: its fate by the packets on its down link. It
-- was granted too where the home owes the remote a message.
abbrev pub remote_fate : View → Fate
remote_fate v = fate_in v.down (is_some v.owed)

-- What became of the home's request, by the view of the remote on which the home waits: its fate by
-- the packets on the remote's up link. It was granted too where the remote is due.
abbrev pub awaited_fate : View → Fate
awaited_fate v = fate_in v.up (is_due v.remote.place)

-- What became of the home's request, where the home stands in this place: while it waits, its fate
-- by the view of the remote on which it waits. An idle home has made no request, so none was
-- granted.
abbrev pub home_fate : (ℕ → View) → HomePlace → Fate
home_fate view_of (Idle state) = NotGranted
home_fate view_of (Waits waiting) = awaited_fate (view_of waiting.on)

-- ---- where a process stands

-- Where a process stands that waits by this guard: in the state that it left; behind the guard; or
-- behind the guard and the only guard of the next state. Without such guards it stands in the state
-- that it left.
abbrev pub waiting_part : Body → List Value → GuardId → ℕ → Fate → Part
waiting_part body vars g partner NotGranted = part g.state vars
waiting_part body vars g partner Granted =
    unwrap_or (after_ack body vars g partner) (part g.state vars)
waiting_part body vars g partner (Replied v) =
    unwrap_or (after_reply body vars g partner v) (part g.state vars)

-- A remote that is idle stands as it is, and one that is due in its active state. One that waits
-- stands by the fate of its request.
abbrev pub remote_part : Body → List Value → Fate → Place → Part
remote_part body vars fate (Comm state) = part state vars
remote_part body vars fate (Due g) = part g.state vars
remote_part body vars fate (Trans g) = waiting_part body vars g 0 fate

-- A home that is idle stands as it is. One that waits stands by the fate of its request.
abbrev pub home_part : Body → List Value → Fate → HomePlace → Part
home_part body vars fate (Idle state) = part state vars
home_part body vars fate (Waits waiting) = waiting_part body vars waiting.by waiting.on fate

-- where the remote with this view stands
abbrev pub part_in_view : Body → View → Part
part_in_view body v = remote_part body v.remote.vars (remote_fate v) v.remote.place

-- the rendezvous configuration for which a configuration stands
abbrev pub abstraction : NumberedProtocol → Config → RvConfig
abstraction protocol c =
    let view_of = view_at protocol c in
    record {
      home = home_part protocol.home c.home.vars (home_fate view_of c.home.place) c.home.place;
      remotes = map (λ j. part_in_view protocol.remote (view_of j)) (range_with_len 0 (count_of c));
    }

-- What each kind of step at a remote does: where the remote stands after it, and what it puts on a
-- link. None where the step is not enabled, but for the range of the remote's number and for an
-- empty link, which `Next` looks at. Whatever a definition does not name stays.
use Rattle.std.specs.Prelude.{ℕ, Option, Some, None}
use Rattle.std.specs.Option.{option_map, option_map_or, option_and_then}
use Rattle.proto_model.specs.Guards.{part, guards_of, after_guard}
use Rattle.proto_model.specs.RendezvousNext.{tau_part, given}
use Rattle.proto_model.specs.declared.numbered.Body.{Body}
use Rattle.proto_model.specs.declared.numbered.Value.{Value}
use Rattle.proto_model.specs.declared.numbered.Value.TheVariants as value
use Rattle.proto_model.specs.declared.numbered.Rule.{Rule}
use Rattle.proto_model.specs.declared.rendezvous.Part.{Part}
use Rattle.controller_table.specs.Rows.{guard_id}
use Rattle.controller_table.specs.declared.rows.GuardId.{GuardId}
use Rattle.controller_table.specs.declared.rows.Place.{Place}
use Rattle.controller_table.specs.declared.rows.Place.TheVariants.{Comm, Trans, Due}
use Rattle.ordered_links.specs.Link.{Up}
use Rattle.ordered_links.specs.declared.packet.Packet.{Packet}
use Rattle.ordered_links.specs.declared.packet.Packet.TheVariants as packet
use Rattle.async_shape.specs.Setting.{Setting, reply_to}
use Rattle.async_shape.specs.Guards.{Chosen, guard_by, active_guard, answering_guard, idle_state}
use Rattle.async_shape.specs.Guards.{after_ack, after_reply}
use Rattle.async_shape.specs.Outcome.{RemoteOutcome, at_remote, put_on, remote_at, without_slot}
use Rattle.async_shape.specs.declared.config.RemoteState.{RemoteState}
use Rattle.async_shape.specs.declared.config.Request.{Request}

-- ---- a local step

-- RemoteTau(j, g): the remote is idle and g is an open local step, which it completes.
unfoldable pub remote_tau : Setting → RemoteState → ℕ → Option RemoteOutcome
remote_tau setting remote g =
    option_and_then (λ state.
    option_map (λ p. at_remote (remote_at remote p) None)
    (tau_part setting.protocol.remote (part state remote.vars) g))
    (idle_state remote.place)

-- ---- a request is sent

-- Remote j has emptied its slot and sent the request, and waits by this guard.
abbrev pub remote_requested : ℕ → RemoteState → GuardId → ℕ × Value → RemoteOutcome
remote_requested j remote g message =
    let put = put_on (Up j) (packet.Request message.0 message.1) in
    at_remote (record { place = Trans g; vars = remote.vars; slot = None }) put

-- of remote j, which stands so
module _ (setting : Setting) (j : ℕ) (remote : RemoteState) where
  -- Remote j sends by this guard of the state; none where the guard is no output.
  abbrev pub remote_sent_by : ℕ → Chosen → Option RemoteOutcome
  remote_sent_by state output =
      option_map (remote_requested j remote (guard_id state output.number))
      (given setting.protocol.messages remote.vars output.rule.kind)

  -- RemoteSend(j): the remote is idle in an active state.
  unfoldable pub remote_send : Option RemoteOutcome
  remote_send =
      option_and_then (λ state.
      option_and_then (remote_sent_by state)
      (active_guard (guards_of setting.protocol.remote state)))
      (idle_state remote.place)

-- ---- the request in the slot is answered

-- Remote j has completed the guard by which it answers, and stands so now: it acks, or it is due to
-- send the reply by the one guard of the next state where the message has one.
abbrev pub answered : ℕ → Part → Option ℕ → RemoteOutcome
answered j p None =
    let put = put_on (Up j) packet.Ack in
    at_remote (record { place = Comm p.state; vars = p.vars; slot = None }) put
answered j p (Some reply) =
    at_remote (record { place = Due (guard_id p.state 0); vars = p.vars; slot = None }) None

module _ (setting : Setting) (j : ℕ) (remote : RemoteState) where
  -- Remote j answers by this guard, its first open input of the request's message; without one it
  -- nacks.
  abbrev pub answered_by : Request → Option Chosen → RemoteOutcome
  answered_by request (Some input) =
      let rule = input.rule in
      let now = after_guard setting.protocol.remote remote.vars rule rule.next 0 request.value in
      answered j now (reply_to setting request.message)
  answered_by request None = at_remote (without_slot remote) (put_on (Up j) packet.Nack)

  -- Remote j answers, where its state has no output; an active state answers nothing.
  abbrev pub answered_in : Request → Option Chosen → Option RemoteOutcome
  answered_in request None =
      Some (answered_by request (answering_guard setting.protocol.remote remote))
  answered_in request (Some output) = None

  -- RemoteAnswer(j): the remote is idle in a passive state and its slot is full. The slot is
  -- emptied.
  unfoldable pub remote_answer : Option RemoteOutcome
  remote_answer =
      option_and_then (λ state. option_and_then (λ request.
      answered_in request (active_guard (guards_of setting.protocol.remote state)))
      remote.slot) (idle_state remote.place)

  -- ---- the reply that is due is sent

  -- The remote has sent the reply and completed the guard.
  abbrev pub replied : Rule → ℕ × Value → RemoteOutcome
  replied rule message =
      let now = after_guard setting.protocol.remote remote.vars rule rule.next 0 value.Unit in
      at_remote (remote_at remote now) (put_on (Up j) (packet.Reply message.0 message.1))

  -- The remote sends the reply by the guard that its place names, where it is due; none where it
  -- isn't, and where the place names no output.
  abbrev pub replied_at : Place → Option RemoteOutcome
  replied_at (Comm state) = None
  replied_at (Trans g) = None
  replied_at (Due g) =
      option_and_then (λ rule.
      option_map (replied rule) (given setting.protocol.messages remote.vars rule.kind))
      (guard_by setting.protocol.remote g)

  -- RemoteReply(j): the remote is due by a guard.
  unfoldable pub remote_reply : Option RemoteOutcome
  remote_reply = replied_at remote.place

-- ---- a packet arrives at the remote

-- The remote is idle: a request goes to its slot. Any other packet changes nothing.
abbrev pub down_idle : RemoteState → Packet → RemoteState
down_idle remote (packet.Request m v) = record {
  place = remote.place;
  vars = remote.vars;
  slot = Some (record { message = m; value = v });
}
down_idle remote packet.Ack = remote
down_idle remote packet.Nack = remote
down_idle remote (packet.Reply p v) = remote

-- The remote waits by this guard. A request crosses the remote's own and is dropped. An ack
-- completes the guard, a nack brings the remote back, and a reply completes the guard and then the
-- only guard of the next state. Where an ack or a reply finds no such guard, the remote stays
-- waiting.
abbrev pub down_waiting : Body → RemoteState → GuardId → Packet → RemoteState
down_waiting body remote g (packet.Request m v) = remote
down_waiting body remote g packet.Ack =
    option_map_or (remote_at remote) (after_ack body remote.vars g 0) remote
down_waiting body remote g packet.Nack = remote_at remote (part g.state remote.vars)
down_waiting body remote g (packet.Reply p v) =
    option_map_or (remote_at remote) (after_reply body remote.vars g 0 v) remote

-- the remote after the packet has arrived, by its place; one that is due does not change
abbrev pub down_at : Body → RemoteState → Place → Packet → RemoteState
down_at body remote (Comm state) arrived = down_idle remote arrived
down_at body remote (Trans g) arrived = down_waiting body remote g arrived
down_at body remote (Due g) arrived = remote

-- Down(j): this packet arrives at the remote.
unfoldable pub down : Setting → RemoteState → Packet → RemoteOutcome
down setting remote arrived =
    at_remote (down_at setting.protocol.remote remote remote.place arrived) None

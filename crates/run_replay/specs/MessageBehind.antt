-- The message that is given in the event behind a step, as it is at hand where the controllers
-- stand, without the rendezvous configuration.
use Rattle.std.specs.Prelude.{ℕ, Option, None, slice_get}
use Rattle.std.specs.Option.{option_map, option_and_then}
use Rattle.proto_model.specs.Numbered.{NumberedProtocol}
use Rattle.proto_model.specs.Guards.{part}
use Rattle.proto_model.specs.declared.numbered.Value.{Value}
use Rattle.rendezvous_meaning.specs.GivenMessage.{given_by}
use Rattle.controller_table.specs.declared.rows.Place.{Place}
use Rattle.controller_table.specs.declared.rows.Place.TheVariants.{Comm, Trans, Due}
use Rattle.slot_reserve.specs.Requests.{first_of}
use Rattle.slot_reserve.specs.declared.held.Held.{Held}
use Rattle.async_shape.specs.Config.{Config}
use Rattle.async_shape.specs.Outcome.{home_idle_state}
use Rattle.async_shape.specs.declared.config.RemoteState.{RemoteState}
use Rattle.async_shape.specs.declared.config.Request.{Request}
use Rattle.async_shape.specs.declared.step.Step.{Step}
use Rattle.async_shape.specs.declared.step.Step.TheVariants as step

-- the message of a held request, and its value
abbrev pub held_message : Held → ℕ × Value
held_message request = (request.message, request.value)

-- the message of a request in a slot, and its value
abbrev pub slot_message : Request → ℕ × Value
slot_message request = (request.message, request.value)

-- the message that a remote is due to send and its value, by the guard that its place names
abbrev pub due_message : NumberedProtocol → RemoteState → Place → Option (ℕ × Value)
due_message protocol remote (Comm state) = None
due_message protocol remote (Trans g) = None
due_message protocol remote (Due g) =
    given_by protocol.messages protocol.remote (part g.state remote.vars) g.guard

module _ (protocol : NumberedProtocol) (c : Config) where
  -- the message that an idle home gives by this guard, and its value
  abbrev pub home_message : ℕ → Option (ℕ × Value)
  home_message g =
      option_and_then (λ state. given_by protocol.messages protocol.home (part state c.home.vars) g)
      (home_idle_state c.home.place)

  -- the message that is given in the event behind the step, and its value: what the held request
  -- says, or the one in the slot; what the home pays; or what the remote is due to send
  abbrev pub message_behind : Step → Option (ℕ × Value)
  message_behind (step.HomeTau g) = None
  message_behind (step.HomeTake j) = option_map held_message (first_of j c.held)
  message_behind (step.HomeSend g j) = home_message g
  message_behind (step.HomeDrop j) = None
  message_behind (step.RemoteTau j g) = None
  message_behind (step.RemoteSend j) = None
  message_behind (step.RemoteAnswer j) =
      option_and_then (λ remote. option_map slot_message remote.slot) (slice_get c.remotes j)
  message_behind (step.RemoteReply j) =
      option_and_then (λ remote. due_message protocol remote remote.place) (slice_get c.remotes j)
  message_behind (step.Up j) = None
  message_behind (step.Down j) = None

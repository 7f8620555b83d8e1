-- The message that is given in an event, with its value, and how a trace tells of it.
use Rattle.std.specs.Prelude.{ℕ, List, [], ◌++◌, Option, None, slice_get, codes}
use Rattle.std.specs.Option.{option_map_or, option_and_then}
use Rattle.proto_model.specs.Tokens.{Text}
use Rattle.proto_model.specs.Numbered.{NumberedProtocol}
use Rattle.proto_model.specs.Guards.{guard_at}
use Rattle.proto_model.specs.RendezvousNext.{given}
use Rattle.proto_model.specs.Texts.{message_text, event_text}
use Rattle.proto_model.specs.declared.numbered.Value.{Value}
use Rattle.proto_model.specs.declared.numbered.MessageInfo.{MessageInfo}
use Rattle.proto_model.specs.declared.numbered.Body.{Body}
use Rattle.proto_model.specs.declared.rendezvous.Part.{Part}
use Rattle.proto_model.specs.declared.rendezvous.RvConfig.{RvConfig}
use Rattle.proto_model.specs.declared.rendezvous.Event.{Event}
use Rattle.proto_model.specs.declared.rendezvous.Event.TheVariants as event

-- the message that a process gives by this guard, and its value
abbrev pub given_by : List MessageInfo → Body → Part → ℕ → Option (ℕ × Value)
given_by messages body part g =
    option_and_then (λ rule. given messages part.vars rule.kind) (guard_at body part.state g)

-- the message that is given in the event, and its value; none in a local step
abbrev pub given_in : NumberedProtocol → RvConfig → Event → Option (ℕ × Value)
given_in protocol config (event.TauHome g) = None
given_in protocol config (event.TauRemote j g) = None
given_in protocol config (event.Up j h r) =
    option_and_then (λ remote. given_by protocol.messages protocol.remote remote r)
    (slice_get config.remotes j)
given_in protocol config (event.Down j h r) =
    given_by protocol.messages protocol.home config.home h

-- the message with this number, and its value
abbrev pub message_by_number : List MessageInfo → ℕ → Value → Text
message_by_number messages m v =
    option_map_or (λ info. message_text info v) (slice_get messages m) []

-- a space and the message with its value, where one is given
abbrev pub given_text : List MessageInfo → Option (ℕ × Value) → Text
given_text messages message =
    option_map_or (λ m. codes " " ++ message_by_number messages m.0 m.1) message []

-- the event, and the message that is given in it where it takes place in this configuration
abbrev pub event_told : NumberedProtocol → RvConfig → Event → Text
event_told protocol config e =
    event_text e ++ given_text protocol.messages (given_in protocol config e)

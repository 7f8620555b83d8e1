-- The configuration that an event leads to, computed: none where the event does not take place.
use Rattle.std.specs.Prelude.{ℕ, Bool, true, false, ◌&&◌, ◌==◌, if◌then◌else◌, List, Option, Some}
use Rattle.std.specs.Prelude.{None, slice_get, slice_set}
use Rattle.std.specs.Option.{option_map, option_map_or, option_and_then}
use Rattle.proto_model.specs.Numbered.{NumberedProtocol}
use Rattle.proto_model.specs.Values.{is_open, may_meet, sends}
use Rattle.proto_model.specs.ValueTypes.{message_in, message_out}
use Rattle.proto_model.specs.Guards.{guard_at, after_guard}
use Rattle.proto_model.specs.declared.numbered.Value.{Value}
use Rattle.proto_model.specs.declared.numbered.Value.TheVariants as value
use Rattle.proto_model.specs.declared.numbered.RuleKind.{RuleKind}
use Rattle.proto_model.specs.declared.numbered.RuleKind.TheVariants as action
use Rattle.proto_model.specs.declared.numbered.Rule.{Rule}
use Rattle.proto_model.specs.declared.numbered.MessageInfo.{MessageInfo}
use Rattle.proto_model.specs.declared.numbered.Body.{Body}
use Rattle.proto_model.specs.declared.rendezvous.Part.{Part}
use Rattle.proto_model.specs.declared.rendezvous.RvConfig.{RvConfig}
use Rattle.proto_model.specs.declared.rendezvous.Event.{Event}
use Rattle.proto_model.specs.declared.rendezvous.Event.TheVariants as event

-- the guard is a local step
abbrev pub is_tau : RuleKind → Bool
is_tau action.Tau = true
is_tau (action.Input p m bound) = false
is_tau (action.Output p m sent) = false

-- the process after its local step by this guard
abbrev pub part_after_tau : Body → Part → Rule → Option Part
part_after_tau body part rule =
    if is_tau rule.kind
    && is_open part.vars rule then Some
    (after_guard body part.vars rule rule.next 0 value.Unit) else None

-- the process after its local step by its guard g; none where guard g is no open local step
abbrev pub tau_part : Body → Part → ℕ → Option Part
tau_part body part g = option_and_then (part_after_tau body part) (guard_at body part.state g)

-- the message at its place, with the value, that an output gives
abbrev pub given : List MessageInfo → List Value → RuleKind → Option (ℕ × Value)
given messages vars kind =
    option_and_then
    (λ place. option_map (λ m. (place, sends vars kind m.carries)) (slice_get messages place))
    (message_out kind)

-- the guard is an open input of the message
abbrev pub accepts : List Value → Rule → ℕ → Bool
accepts vars rule place =
    option_map_or (λ m. m == place) (message_in rule.kind) false && is_open vars rule

-- the home and remote j after they moved together
abbrev pub Parts : Type 0
Parts = Part × Part

module _ (protocol : NumberedProtocol) (home remote : Part) (j : ℕ) where
  -- The home and remote j after the remote gave this message, with its value, by the output and the
  -- home took it by the input. None where the input is not open or is of another message, or j is
  -- no target of it.
  abbrev pub up_given : Rule → Rule → ℕ × Value → Option Parts
  up_given output input message =
      if accepts home.vars input message.0 && may_meet home.vars input.kind j
      then Some (
        after_guard protocol.home home.vars input input.next j message.1,
        after_guard protocol.remote remote.vars output output.next 0 value.Unit,
      )
      else None

  -- the same with the message that the output gives; none where it gives none
  abbrev pub up_by : Rule → Rule → Option Parts
  up_by output input =
      option_and_then (up_given output input) (given protocol.messages remote.vars output.kind)

  -- remote j by its guard r and the home by its guard h
  abbrev pub up_parts : ℕ → ℕ → Option Parts
  up_parts h r =
      option_and_then
      (λ output. option_and_then (up_by output) (guard_at protocol.home home.state h))
      (guard_at protocol.remote remote.state r)

  -- The home and remote j after the home gave this message, with its value, by the output and the
  -- remote took it by the input. None where the input is not open or is of another message.
  abbrev pub down_given : Rule → Rule → ℕ × Value → Option Parts
  down_given output input message =
      if accepts remote.vars input message.0
      then Some (
        after_guard protocol.home home.vars output output.next j value.Unit,
        after_guard protocol.remote remote.vars input input.next 0 message.1,
      )
      else None

  -- The same with the message that the output gives. None where the output is not open or gives
  -- none, or j is no target of it.
  abbrev pub down_by : Rule → Rule → Option Parts
  down_by output input =
      if is_open home.vars output && may_meet home.vars output.kind j
      then option_and_then (down_given output input) (given protocol.messages home.vars output.kind)
      else None

  -- the home by its guard h and remote j by its guard r
  abbrev pub down_parts : ℕ → ℕ → Option Parts
  down_parts h r =
      option_and_then
      (λ output. option_and_then (down_by output) (guard_at protocol.remote remote.state r))
      (guard_at protocol.home home.state h)

-- the configuration in which the home and remote j stand so
abbrev pub with_parts : RvConfig → ℕ → Parts → RvConfig
with_parts config j parts = record { home = parts.0; remotes = slice_set config.remotes j parts.1 }

-- the configuration that the event leads to
abbrev pub rv_next : NumberedProtocol → RvConfig → Event → Option RvConfig
rv_next protocol config (event.TauHome g) =
    option_map (λ home. record { home = home; remotes = config.remotes })
    (tau_part protocol.home config.home g)
rv_next protocol config (event.TauRemote j g) =
    option_and_then
    (λ remote.
    option_map (λ part. with_parts config j (config.home, part))
    (tau_part protocol.remote remote g))
    (slice_get config.remotes j)
rv_next protocol config (event.Up j h r) =
    option_and_then
    (λ remote. option_map (with_parts config j) (up_parts protocol config.home remote j h r))
    (slice_get config.remotes j)
rv_next protocol config (event.Down j h r) =
    option_and_then
    (λ remote. option_map (with_parts config j) (down_parts protocol config.home remote j h r))
    (slice_get config.remotes j)

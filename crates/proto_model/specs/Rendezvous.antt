-- The rendezvous meaning of a numbered protocol: the home and n remotes, each in a state with its
-- variables. In an event one process takes a local step, or the home and a remote move together:
-- one gives a message by an output, the other takes it in by an input. There is no buffer, and no
-- message is ever in transit.
use Rattle.std.specs.Prelude.{◌≡◌, ℕ, ◌<◌, ◌≤◌, true, List, length, Some, slice_get}
use Rattle.std.specs.Prelude.{slice_set, replicate}
use Rattle.std.specs.List.{AllByRecursion}
use Rattle.proto_model.specs.Numbered.{NumberedProtocol}
use Rattle.proto_model.specs.Values.{is_open, may_meet, sends, first_values}
use Rattle.proto_model.specs.Guards.{guard_at, after_guard}
use Rattle.proto_model.specs.ValueTypes.{AreOfKinds, message_in, message_out}
use Rattle.proto_model.specs.declared.numbered.Value.TheVariants as value
use Rattle.proto_model.specs.declared.numbered.RuleKind.TheVariants as action
use Rattle.proto_model.specs.declared.numbered.Rule.{Rule}
use Rattle.proto_model.specs.declared.numbered.MessageInfo.{MessageInfo}
use Rattle.proto_model.specs.declared.numbered.Body.{Body}
use Rattle.proto_model.specs.declared.rendezvous.Part.{Part}
use Rattle.proto_model.specs.declared.rendezvous.RvConfig.{RvConfig}
use Rattle.proto_model.specs.declared.rendezvous.Event.{Event}
use Rattle.proto_model.specs.declared.rendezvous.Event.TheVariants as event

-- a process at the start: in its start state, with its first values
abbrev pub start_part : Body → Part
start_part body = record { state = body.start; vars = first_values body.vars }

-- the home and n remotes at the start
abbrev pub rv_start : NumberedProtocol → ℕ → RvConfig
rv_start protocol n = record {
  home = start_part protocol.home;
  remotes = replicate n (start_part protocol.remote);
}

-- guard g of the process is a local step, and it is open
pub record TakesTau (body : Body) (part : Part) (g : ℕ) (rule : Rule) : Type 0 where
  pub there : guard_at body part.state g ≡ Some rule
  pub tau : rule.kind ≡ action.Tau
  pub passes : is_open part.vars rule ≡ true

-- the home takes its local step g; the remotes are as they were
pub record TauHomeStep (protocol : NumberedProtocol) (old : RvConfig) (g : ℕ)
    (new : RvConfig) : Type 0 where
  pub rule : Rule
  pub takes : TakesTau protocol.home old.home g rule
  pub home : new.home ≡ after_guard protocol.home old.home.vars rule rule.next 0 value.Unit
  pub remotes : new.remotes ≡ old.remotes

-- remote j takes its local step g; the home and the other remotes are as they were
pub record TauRemoteStep (protocol : NumberedProtocol) (old : RvConfig) (j g : ℕ)
    (new : RvConfig) : Type 0 where
  pub remote : Part
  pub rule : Rule
  pub there : slice_get old.remotes j ≡ Some remote
  pub takes : TakesTau protocol.remote remote g rule
  pub home : new.home ≡ old.home
  pub remotes : new.remotes
      ≡ slice_set old.remotes j
      (after_guard protocol.remote remote.vars rule rule.next 0 value.Unit)

-- The one guard is an output and the other an input of the same message.
pub record Meets (messages : List MessageInfo) (output input : Rule)
    (message : MessageInfo) : Type 0 where
  pub place : ℕ
  pub sent : message_out output.kind ≡ Some place
  pub received : message_in input.kind ≡ Some place
  pub there : slice_get messages place ≡ Some message

-- Remote j and the home move together: guard r of the remote is an output and guard h of the home
-- an open input of the same message, of which j is a target. Both guards are completed, h with the
-- value that r sends; the other remotes are as they were.
pub record UpStep (protocol : NumberedProtocol) (old : RvConfig) (j h r : ℕ)
    (new : RvConfig) : Type 0 where
  pub remote : Part
  pub output : Rule
  pub input : Rule
  pub message : MessageInfo
  pub there : slice_get old.remotes j ≡ Some remote
  pub gives : guard_at protocol.remote remote.state r ≡ Some output
  pub takes : guard_at protocol.home old.home.state h ≡ Some input
  pub meets : Meets protocol.messages output input message
  pub passes : is_open old.home.vars input ≡ true
  pub target : may_meet old.home.vars input.kind j ≡ true
  pub home : new.home
      ≡ after_guard protocol.home old.home.vars input input.next j
      (sends remote.vars output.kind message.carries)
  pub remotes : new.remotes
      ≡ slice_set old.remotes j
      (after_guard protocol.remote remote.vars output output.next 0 value.Unit)

-- The home and remote j move together: guard h of the home is an open output of which j is a
-- target, and guard r of the remote an open input of the same message. Both guards are completed, r
-- with the value that h sends; the other remotes are as they were.
pub record DownStep (protocol : NumberedProtocol) (old : RvConfig) (j h r : ℕ)
    (new : RvConfig) : Type 0 where
  pub remote : Part
  pub output : Rule
  pub input : Rule
  pub message : MessageInfo
  pub there : slice_get old.remotes j ≡ Some remote
  pub gives : guard_at protocol.home old.home.state h ≡ Some output
  pub takes : guard_at protocol.remote remote.state r ≡ Some input
  pub meets : Meets protocol.messages output input message
  pub output_passes : is_open old.home.vars output ≡ true
  pub target : may_meet old.home.vars output.kind j ≡ true
  pub input_passes : is_open remote.vars input ≡ true
  pub home : new.home ≡ after_guard protocol.home old.home.vars output output.next j value.Unit
  pub remotes : new.remotes
      ≡ slice_set old.remotes j
      (after_guard protocol.remote remote.vars input input.next 0
      (sends old.home.vars output.kind message.carries))

-- the event leads from the old configuration to the new one
abbrev pub RvStep : NumberedProtocol → RvConfig → Event → RvConfig → Type 0
RvStep protocol old (event.TauHome g) new = TauHomeStep protocol old g new
RvStep protocol old (event.TauRemote j g) new = TauRemoteStep protocol old j g new
RvStep protocol old (event.Up j h r) new = UpStep protocol old j h r new
RvStep protocol old (event.Down j h r) new = DownStep protocol old j h r new

-- The process stands in one of the body's states, and its variables are as many as the body's, each
-- of its type.
pub record IsPartOf (body : Body) (part : Part) : Type 0 where
  pub state : part.state < length body.states
  pub vars : AreOfKinds body.vars part.vars

-- a configuration of the protocol with 1 to 64 remotes
pub record IsConfigOf (protocol : NumberedProtocol) (config : RvConfig) : Type 0 where
  pub home : IsPartOf protocol.home config.home
  pub remotes : AllByRecursion (IsPartOf protocol.remote) config.remotes
  pub some_remotes : 1 ≤ length config.remotes
  pub few_remotes : length config.remotes ≤ 64

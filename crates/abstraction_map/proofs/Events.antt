-- Events: a rendezvous step between two abstractions, by the guards that are completed and by where
-- the home and the remote stood and stand.
use Rattle.std.proofs.Common.{◌≡◌, ◌≢◌, ℕ, ◌<◌, true, List, Some, slice_get, slice_set, sym}
use Rattle.std.proofs.Common.{ap, ap₂, subst, ◌∙◌}
use Rattle.std.specs.Option.{option_map}
use Rattle.rv_base.proofs.Lists.{some_map, some_and_then}
use Rattle.proto_model.specs.Numbered.{NumberedProtocol}
use Rattle.proto_model.specs.Guards.{guard_at, after_guard}
use Rattle.proto_model.specs.Values.{is_open, may_meet, sends}
use Rattle.proto_model.specs.ValueTypes.{message_in, message_out}
use Rattle.proto_model.specs.Rendezvous.{TakesTau, TauHomeStep, TauRemoteStep, Meets, UpStep}
use Rattle.proto_model.specs.Rendezvous.{DownStep}
use Rattle.proto_model.specs.RendezvousNext.{given}
use Rattle.proto_model.specs.declared.numbered.Value.{Value}
use Rattle.proto_model.specs.declared.numbered.Value.TheVariants as value
use Rattle.proto_model.specs.declared.numbered.MessageInfo.{MessageInfo}
use Rattle.proto_model.specs.declared.numbered.Rule.{Rule}
use Rattle.proto_model.specs.declared.numbered.Body.{Body}
use Rattle.proto_model.specs.declared.rendezvous.Part.{Part}
use Rattle.async_shape.specs.Config.{Config, count_of}
use Rattle.async_shape.proofs.GuardsFound.{IsLocalStep}
use Rattle.abstraction_map.specs.Abstraction.{abstraction}
use Rattle.abstraction_map.proofs.ByCase.{home_stands, remote_stands}
use Rattle.abstraction_map.proofs.Frames.{parts_of, parts-at, parts-same, parts-set}

-- ---- who stood and stands where

-- The home stood here and stands there, and each remote stands where it stood.
pub record HomeMoved (protocol : NumberedProtocol) (c d : Config) (home home_after : Part) : Type 0
  where
    pub count : count_of d ≡ count_of c
    pub home_was : home_stands protocol c ≡ home
    pub home_is : home_stands protocol d ≡ home_after
    pub others : (q : ℕ) → remote_stands protocol d q ≡ remote_stands protocol c q

-- The home and remote j stood here and stand there, and each other remote stands where it stood.
pub record BothMoved (protocol : NumberedProtocol) (c d : Config) (j : ℕ)
    (home remote home_after remote_after : Part) : Type 0 where
  pub within : j < count_of c
  pub count : count_of d ≡ count_of c
  pub home_was : home_stands protocol c ≡ home
  pub home_is : home_stands protocol d ≡ home_after
  pub remote_was : remote_stands protocol c j ≡ remote
  pub remote_is : remote_stands protocol d j ≡ remote_after
  pub others : (q : ℕ) → q ≢ j → remote_stands protocol d q ≡ remote_stands protocol c q

module _ (protocol : NumberedProtocol) (c d : Config) (j : ℕ)
    (home remote home_after remote_after : Part)
    (both : BothMoved protocol c d j home remote home_after remote_after) where
  -- the abstraction has the part of the remote
  remote-there : slice_get (abstraction protocol c).remotes j ≡ Some remote
  remote-there =
      parts-at (count_of c) (remote_stands protocol c) j both.within
      ∙ ap (λ (p : Part). Some p) both.remote_was

  -- only the part of this remote changes
  remotes-moved : (abstraction protocol d).remotes
      ≡ slice_set (abstraction protocol c).remotes j remote_after
  remotes-moved =
      ap (λ (n : ℕ). parts_of n (remote_stands protocol d)) both.count
      ∙ parts-set (count_of c) (remote_stands protocol c) (remote_stands protocol d) j both.within
      both.others
      ∙ ap (slice_set (abstraction protocol c).remotes j) both.remote_is

-- ---- local steps

-- a local step takes the tau in the rendezvous meaning too
takes-tau : (body : Body) (p : Part) (g : ℕ) (after : Part)
    → (step : IsLocalStep body p.state p.vars g after) → TakesTau body p g step.rule
takes-tau body p g after step =
    record { there = step.there; tau = step.tau; passes = step.passes }

-- The home completes a local step.
pub TauHome-is : (protocol : NumberedProtocol) (c d : Config) (g : ℕ) (home home_after : Part)
    → HomeMoved protocol c d home home_after
    → IsLocalStep protocol.home home.state home.vars g home_after
    → TauHomeStep protocol (abstraction protocol c) g (abstraction protocol d)
TauHome-is protocol c d g home home_after moved step = record {
  rule = step.rule;
  takes =
      subst (λ (p : Part). TakesTau protocol.home p g step.rule) (sym moved.home_was)
      (takes-tau protocol.home home g home_after step);
  home =
      moved.home_is ∙ step.outcome
      ∙ ap
      (λ (p : Part). after_guard protocol.home p.vars step.rule step.rule.next 0 value.Unit)
      (sym moved.home_was);
  remotes =
      ap (λ (n : ℕ). parts_of n (remote_stands protocol d)) moved.count
      ∙ parts-same (count_of c) (remote_stands protocol c) (remote_stands protocol d) moved.others;
}

-- Remote j completes a local step, and the home stands where it stood.
pub TauRemote-is : (protocol : NumberedProtocol) (c d : Config) (j g : ℕ)
    (home remote remote_after : Part)
    → BothMoved protocol c d j home remote home remote_after
    → IsLocalStep protocol.remote remote.state remote.vars g remote_after
    → TauRemoteStep protocol (abstraction protocol c) j g (abstraction protocol d)
TauRemote-is protocol c d j g home remote remote_after both step = record {
  remote = remote;
  rule = step.rule;
  there = remote-there protocol c d j home remote home remote_after both;
  takes = takes-tau protocol.remote remote g remote_after step;
  home = both.home_is ∙ sym both.home_was;
  remotes =
      remotes-moved protocol c d j home remote home remote_after both
      ∙ ap (slice_set (abstraction protocol c).remotes j) step.outcome;
}

-- ---- a message is given and taken

-- The output gives this message, and the input takes it.
meets-given : (messages : List MessageInfo) (vars : List Value) (output input : Rule)
    (message : ℕ × Value) → given messages vars output.kind ≡ Some message
    → message_in input.kind ≡ Some message.0
    → (info : MessageInfo) × Meets messages output input info
    × (sends vars output.kind info.carries ≡ message.1)
meets-given messages vars output input message gives takes =
    let send : ℕ → MessageInfo → ℕ × Value =
    λ place info. (place, sends vars output.kind info.carries) in
    let by =
    some_and_then (λ place. option_map (send place) (slice_get messages place))
    (message_out output.kind) message gives in
    let of = some_map (send by.0) (slice_get messages by.0) message by.2 in
    let place : message.0 ≡ by.0 = sym (ap (λ (pair : ℕ × Value). pair.0) of.2) in (
      of.0,
      record {
        place = by.0;
        sent = by.1;
        received = takes ∙ ap (λ (m : ℕ). Some m) place;
        there = of.1;
      },
      ap (λ (pair : ℕ × Value). pair.1) of.2,
    )

-- Remote j gives this message by its guard r, and the home takes it by its guard h.
pub Up-is : (protocol : NumberedProtocol) (c d : Config) (j h r : ℕ) (home remote : Part)
    (output input : Rule) (message : ℕ × Value)
    → BothMoved protocol c d j home remote
    (after_guard protocol.home home.vars input input.next j message.1)
    (after_guard protocol.remote remote.vars output output.next 0 value.Unit)
    → guard_at protocol.remote remote.state r ≡ Some output
    → given protocol.messages remote.vars output.kind ≡ Some message
    → guard_at protocol.home home.state h ≡ Some input
    → message_in input.kind ≡ Some message.0 → is_open home.vars input ≡ true
    → may_meet home.vars input.kind j ≡ true
    → UpStep protocol (abstraction protocol c) j h r (abstraction protocol d)
Up-is protocol c d j h r home remote output input message both there gives input_there takes passes
    target =
    let meets = meets-given protocol.messages remote.vars output input message gives takes in
    let home_after = after_guard protocol.home home.vars input input.next j message.1 in
    let remote_after =
    after_guard protocol.remote remote.vars output output.next 0 value.Unit in
    let was = sym both.home_was in
    record {
      remote = remote;
      output = output;
      input = input;
      message = meets.0;
      there = remote-there protocol c d j home remote home_after remote_after both;
      gives = there;
      takes = subst (λ (p : Part). guard_at protocol.home p.state h ≡ Some input) was input_there;
      meets = meets.1;
      passes = subst (λ (p : Part). is_open p.vars input ≡ true) was passes;
      target = subst (λ (p : Part). may_meet p.vars input.kind j ≡ true) was target;
      home =
          both.home_is
          ∙ ap₂ (λ (p : Part) (v : Value). after_guard protocol.home p.vars input input.next j v)
          was (sym meets.2);
      remotes = remotes-moved protocol c d j home remote home_after remote_after both;
    }

-- The home gives remote j this message by its guard h, and j takes it by its guard r.
pub Down-is : (protocol : NumberedProtocol) (c d : Config) (j h r : ℕ) (home remote : Part)
    (output input : Rule) (message : ℕ × Value)
    → BothMoved protocol c d j home remote
    (after_guard protocol.home home.vars output output.next j value.Unit)
    (after_guard protocol.remote remote.vars input input.next 0 message.1)
    → guard_at protocol.home home.state h ≡ Some output → is_open home.vars output ≡ true
    → may_meet home.vars output.kind j ≡ true
    → given protocol.messages home.vars output.kind ≡ Some message
    → guard_at protocol.remote remote.state r ≡ Some input
    → message_in input.kind ≡ Some message.0 → is_open remote.vars input ≡ true
    → DownStep protocol (abstraction protocol c) j h r (abstraction protocol d)
Down-is protocol c d j h r home remote output input message both there passes target gives
    input_there takes input_passes =
    let meets = meets-given protocol.messages home.vars output input message gives takes in
    let home_after = after_guard protocol.home home.vars output output.next j value.Unit in
    let remote_after =
    after_guard protocol.remote remote.vars input input.next 0 message.1 in
    let was = sym both.home_was in
    record {
      remote = remote;
      output = output;
      input = input;
      message = meets.0;
      there = remote-there protocol c d j home remote home_after remote_after both;
      gives = subst (λ (p : Part). guard_at protocol.home p.state h ≡ Some output) was there;
      takes = input_there;
      meets = meets.1;
      output_passes = subst (λ (p : Part). is_open p.vars output ≡ true) was passes;
      target = subst (λ (p : Part). may_meet p.vars output.kind j ≡ true) was target;
      input_passes = input_passes;
      home =
          both.home_is
          ∙ ap
          (λ (p : Part). after_guard protocol.home p.vars output output.next j value.Unit) was;
      remotes =
          remotes-moved protocol c d j home remote home_after remote_after both
          ∙ ap
          (λ (v : Value).
          slice_set (abstraction protocol c).remotes j
          (after_guard protocol.remote remote.vars input input.next 0 v))
          (sym meets.2
          ∙ ap (λ (p : Part). sends p.vars output.kind meets.0.carries) was);
    }

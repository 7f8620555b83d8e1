-- A step leads from a configuration of a proper protocol to one of it: states stay in range, and
-- variables as many as they were and of their types.
use Rattle.std.proofs.Common.{◌≡◌, ℕ, ◌<◌, ◌≤◌, List, length, set, Some, slice_get, length-set}
use Rattle.std.proofs.Common.{lit<, refl, sym, ap, subst, ◌∙◌, arith}
use Rattle.std.specs.List.{AllByRecursion}
use Rattle.std.proofs.lemmas.List.{length-replicate}
use Rattle.std.proofs.lemmas.Option.{slice_get_within}
use Rattle.proto_model.specs.Numbered.{NumberedProtocol}
use Rattle.proto_model.specs.Proper.{IsProperCarry, IsProperRule, IsProperState, IsProperBody}
use Rattle.proto_model.specs.Proper.{IsProper}
use Rattle.proto_model.specs.Values.{sends}
use Rattle.proto_model.specs.ValueTypes.{IsCarried, IsCarriedBy, IsReceived, message_in}
use Rattle.proto_model.specs.ValueTypes.{message_out, Offers, IsTyped}
use Rattle.proto_model.specs.Guards.{guard_at, after_guard}
use Rattle.proto_model.specs.Rendezvous.{start_part, rv_start, Meets, RvStep, IsPartOf, IsConfigOf}
use Rattle.proto_model.specs.declared.numbered.Side.{Side}
use Rattle.proto_model.specs.declared.numbered.Side.TheVariants as side
use Rattle.proto_model.specs.declared.numbered.Value.{Value}
use Rattle.proto_model.specs.declared.numbered.Value.TheVariants as value
use Rattle.proto_model.specs.declared.numbered.RuleKind.{RuleKind}
use Rattle.proto_model.specs.declared.numbered.RuleKind.TheVariants as action
use Rattle.proto_model.specs.declared.numbered.Rule.{Rule}
use Rattle.proto_model.specs.declared.numbered.StateInfo.{StateInfo}
use Rattle.proto_model.specs.declared.numbered.MessageInfo.{MessageInfo}
use Rattle.proto_model.specs.declared.numbered.Body.{Body}
use Rattle.proto_model.specs.declared.rendezvous.Part.{Part}
use Rattle.proto_model.specs.declared.rendezvous.RvConfig.{RvConfig}
use Rattle.proto_model.specs.declared.rendezvous.Event.{Event}
use Rattle.proto_model.specs.declared.rendezvous.Event.TheVariants as event
use Rattle.rv_base.proofs.Lists.{AllByRecursion-at, AllByRecursion-set}
use Rattle.rv_base.proofs.Lists.{AllByRecursion-replicate, some_and_then}
use Rattle.proto_model.proofs.TypedRules.{AreOfKinds-first, AreOfKinds-completed, IsCarried-send}

-- the start

IsPartOf-start : (s : Side) (messages : List MessageInfo) (body : Body)
    → IsProperBody s messages body → IsPartOf body (start_part body)
IsPartOf-start s messages body proper =
    record { state = proper.start; vars = AreOfKinds-first body.vars proper.vars }

pub IsConfigOf-start : (protocol : NumberedProtocol) (n : ℕ) → IsProper protocol → 1 ≤ n → n ≤ 64
    → IsConfigOf protocol (rv_start protocol n)
IsConfigOf-start protocol n proper some few =
    let count = length-replicate n (start_part protocol.remote) in
    record {
      home = IsPartOf-start side.Home protocol.messages protocol.home proper.home;
      remotes = AllByRecursion-replicate (IsPartOf protocol.remote) n (start_part protocol.remote)
          (IsPartOf-start side.Remote protocol.messages protocol.remote proper.remote);
      some_remotes = omega arith;
      few_remotes = omega arith;
    }

-- a rule of a process

-- a rule of a proper body is proper
pub IsProperRule-at : (s : Side) (messages : List MessageInfo) (body : Body) (part : Part) (g : ℕ)
    (rule : Rule)
    → IsProperBody s messages body → guard_at body part.state g ≡ Some rule
    → IsProperRule s messages body.vars (length body.states) rule
IsProperRule-at s messages body part g rule proper at =
    let state =
    some_and_then (λ (state : StateInfo). slice_get state.rules g)
    (slice_get body.states part.state) rule at in
    let proper_state =
    AllByRecursion-at
    (IsProperState s messages body.vars (length body.states)) body.states part.state state.0
    proper.states state.1 in
    AllByRecursion-at
    (IsProperRule s messages body.vars (length body.states)) state.0.rules g rule proper_state.rules
    state.2

-- a rule of a process that stands in a proper body is read under its condition
pub IsTyped-at : (s : Side) (messages : List MessageInfo) (body : Body) (part : Part) (g : ℕ)
    (rule : Rule)
    → AllByRecursion (λ m. IsProperCarry m.carries) messages → IsProperBody s messages body
    → IsPartOf body part → guard_at body part.state g ≡ Some rule
    → IsTyped messages body.vars part.vars rule
IsTyped-at s messages body part g rule carries proper stands at = record {
  side = s;
  states = length body.states;
  proper_carries = carries;
  proper_infos = proper.vars;
  proper_rule = IsProperRule-at s messages body part g rule proper at;
  kinds = stands.vars;
}

-- a process that completes a rule still stands in the body
pub IsPartOf-after_guard : (s : Side) (messages : List MessageInfo) (body : Body) (part : Part)
    (g : ℕ) (rule : Rule) (j : ℕ) (v : Value)
    → AllByRecursion (λ m. IsProperCarry m.carries) messages → IsProperBody s messages body
    → IsPartOf body part → guard_at body part.state g ≡ Some rule → j < 64
    → IsReceived messages rule.kind v
    → IsPartOf body (after_guard body part.vars rule rule.next j v)
IsPartOf-after_guard s messages body part g rule j v carries proper stands at below received =
    record {
      state = (IsProperRule-at s messages body part g rule proper at).next;
      vars = AreOfKinds-completed messages body.vars part.vars rule j v
          (IsTyped-at s messages body part g rule carries proper stands at) below received;
    }

-- what is taken in

pub IsReceived-tau : (messages : List MessageInfo) (kind : RuleKind) (v : Value) → kind ≡ action.Tau
    → IsReceived messages kind v
IsReceived-tau messages kind v e = subst (λ (k : RuleKind). IsReceived messages k v) (sym e) tt

pub IsReceived-out : (messages : List MessageInfo) (kind : RuleKind) (place : ℕ) (v : Value)
    → message_out kind ≡ Some place → IsReceived messages kind v
IsReceived-out messages action.Tau place v e = absurd (cc)
IsReceived-out messages (action.Input p m bound) place v e = absurd (cc)
IsReceived-out messages (action.Output p m sent) place v e = tt

pub IsReceived-in : (messages : List MessageInfo) (kind : RuleKind) (place : ℕ) (v : Value)
    → message_in kind ≡ Some place → IsCarriedBy messages place v → IsReceived messages kind v
IsReceived-in messages action.Tau place v e is = absurd (cc)
IsReceived-in messages (action.Output p m sent) place v e is = absurd (cc)
IsReceived-in messages (action.Input p m bound) place v e is =
    let same : place ≡ m = cc in subst (λ (n : ℕ). IsCarriedBy messages n v) same is

-- a value of the type of a message that is there
pub IsCarriedBy-there : (messages : List MessageInfo) (place : ℕ) (message : MessageInfo)
    (v : Value)
    → slice_get messages place ≡ Some message → IsCarried message.carries v
    → IsCarriedBy messages place v
IsCarriedBy-there messages place message v there is = λ info at.
    let same : message ≡ info = cc in
    subst (λ (m : MessageInfo). IsCarried m.carries v) same is

-- what the one process gives is of the type of the message that the other takes in
IsReceived-sent : (messages : List MessageInfo) (body : Body) (part : Part) (output input : Rule)
    (message : MessageInfo)
    → IsTyped messages body.vars part.vars output → Meets messages output input message
    → IsReceived messages input.kind (sends part.vars output.kind message.carries)
IsReceived-sent messages body part output input message typed meets =
    let offers : Offers messages output message.carries =
    record {
      place = meets.place;
      message = message;
      out = meets.sent;
      there = meets.there;
      same = refl;
    } in
    let v = sends part.vars output.kind message.carries in
    IsReceived-in messages input.kind meets.place v meets.received
    (IsCarriedBy-there messages meets.place message v meets.there
    (IsCarried-send messages body.vars part.vars output message.carries typed offers))

-- the configuration after a move

-- the home and remote j stand anew
IsConfigOf-moved : (protocol : NumberedProtocol) (old new : RvConfig) (j : ℕ) (home remote : Part)
    → IsConfigOf protocol old → IsPartOf protocol.home home → IsPartOf protocol.remote remote
    → new.home ≡ home → new.remotes ≡ set old.remotes j remote → IsConfigOf protocol new
IsConfigOf-moved protocol old new j home remote config home_stands remote_stands home_is remotes_is
    =
    let count = ap length remotes_is ∙ length-set old.remotes j remote in
    record {
      home = subst (IsPartOf protocol.home) (sym home_is) home_stands;
      remotes = subst (AllByRecursion (IsPartOf protocol.remote)) (sym remotes_is)
          (AllByRecursion-set (IsPartOf protocol.remote) old.remotes j remote config.remotes
          remote_stands);
      some_remotes = omega (arith, config.some_remotes);
      few_remotes = omega (arith, config.few_remotes);
    }

-- a remote that is there is below 64
remote_below : (protocol : NumberedProtocol) (config : RvConfig) (j : ℕ) (remote : Part)
    → IsConfigOf protocol config → slice_get config.remotes j ≡ Some remote → j < 64
remote_below protocol config j remote stands at =
    omega (arith, slice_get_within config.remotes j remote at, stands.few_remotes)

-- a step leads to a configuration of the protocol
pub IsConfigOf-step : (protocol : NumberedProtocol) (old : RvConfig) (what : Event) (new : RvConfig)
    → IsProper protocol → IsConfigOf protocol old → RvStep protocol old what new
    → IsConfigOf protocol new
IsConfigOf-step protocol old (event.TauHome g) new proper config step =
    let stands =
    IsPartOf-after_guard side.Home protocol.messages protocol.home old.home g step.rule 0 value.Unit
    proper.messages proper.home config.home step.takes.there
    (lit< tt) (IsReceived-tau protocol.messages step.rule.kind value.Unit step.takes.tau) in
    let count = ap length step.remotes in
    record {
      home = subst (IsPartOf protocol.home) (sym step.home) stands;
      remotes = subst (AllByRecursion (IsPartOf protocol.remote)) (sym step.remotes) config.remotes;
      some_remotes = omega (arith, config.some_remotes);
      few_remotes = omega (arith, config.few_remotes);
    }
IsConfigOf-step protocol old (event.TauRemote j g) new proper config step =
    let remote =
    AllByRecursion-at
    (IsPartOf protocol.remote) old.remotes j step.remote config.remotes step.there in
    let stands =
    IsPartOf-after_guard side.Remote protocol.messages protocol.remote step.remote g step.rule 0
    value.Unit proper.messages proper.remote remote step.takes.there
    (lit< tt) (IsReceived-tau protocol.messages step.rule.kind value.Unit step.takes.tau) in
    IsConfigOf-moved protocol old new j old.home
    (after_guard protocol.remote step.remote.vars step.rule step.rule.next 0 value.Unit) config
    config.home stands step.home step.remotes
IsConfigOf-step protocol old (event.Up j h r) new proper config step =
    let remote =
    AllByRecursion-at
    (IsPartOf protocol.remote) old.remotes j step.remote config.remotes step.there in
    let v = sends step.remote.vars step.output.kind step.message.carries in
    let gives =
    IsTyped-at side.Remote protocol.messages protocol.remote step.remote r step.output
    proper.messages proper.remote remote step.gives in
    let home_stands =
    IsPartOf-after_guard side.Home protocol.messages protocol.home old.home h step.input j v
    proper.messages proper.home config.home step.takes
    (remote_below protocol old j step.remote config step.there)
    (IsReceived-sent protocol.messages protocol.remote step.remote step.output step.input
    step.message gives step.meets) in
    let remote_stands =
    IsPartOf-after_guard side.Remote protocol.messages protocol.remote step.remote r step.output 0
    value.Unit proper.messages proper.remote remote step.gives
    (lit< tt)
    (IsReceived-out protocol.messages step.output.kind step.meets.place value.Unit
    step.meets.sent) in
    IsConfigOf-moved protocol old new j
    (after_guard protocol.home old.home.vars step.input step.input.next j v)
    (after_guard protocol.remote step.remote.vars step.output step.output.next 0 value.Unit) config
    home_stands remote_stands step.home step.remotes
IsConfigOf-step protocol old (event.Down j h r) new proper config step =
    let remote =
    AllByRecursion-at
    (IsPartOf protocol.remote) old.remotes j step.remote config.remotes step.there in
    let v = sends old.home.vars step.output.kind step.message.carries in
    let gives =
    IsTyped-at side.Home protocol.messages protocol.home old.home h step.output proper.messages
    proper.home config.home step.gives in
    let home_stands =
    IsPartOf-after_guard side.Home protocol.messages protocol.home old.home h step.output j
    value.Unit proper.messages proper.home config.home step.gives
    (remote_below protocol old j step.remote config step.there)
    (IsReceived-out protocol.messages step.output.kind step.meets.place value.Unit
    step.meets.sent) in
    let remote_stands =
    IsPartOf-after_guard side.Remote protocol.messages protocol.remote step.remote r step.input 0 v
    proper.messages proper.remote remote step.takes
    (lit< tt)
    (IsReceived-sent protocol.messages protocol.home old.home step.output step.input step.message
    gives step.meets) in
    IsConfigOf-moved protocol old new j
    (after_guard protocol.home old.home.vars step.output step.output.next j value.Unit)
    (after_guard protocol.remote step.remote.vars step.input step.input.next 0 v) config home_stands
    remote_stands step.home step.remotes

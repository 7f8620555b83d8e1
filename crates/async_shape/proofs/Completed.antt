-- Where a process stands after it has completed a guard, alone or with an ack or a reply: in range,
-- and with each variable of its type.
use Rattle.std.proofs.Common.{◌≡◌, ℕ, ◌<◌, Bool, true, List, length, Option, Some, None}
use Rattle.std.proofs.Common.{refl, sym, ap, ◌∙◌, if◌then◌else◌}
use Rattle.std.specs.Option.{option_map, option_and_then}
use Rattle.std.proofs.lemmas.Bool.{eqb-true, eq-eqb}
use Rattle.rv_base.proofs.Lists.{some_map, some_and_then}
use Rattle.proto_model.specs.Numbered.{NumberedProtocol}
use Rattle.proto_model.specs.Proper.{IsProper, is_output_kind}
use Rattle.proto_model.specs.Guards.{guards_of, guard_at, only_of, after_guard}
use Rattle.proto_model.specs.ValueTypes.{AreOfKinds, IsCarriedBy, IsReceived, message_out}
use Rattle.proto_model.specs.RendezvousNext.{given}
use Rattle.proto_model.specs.declared.numbered.Value.{Value}
use Rattle.proto_model.specs.declared.numbered.Value.TheVariants as value
use Rattle.proto_model.specs.declared.numbered.Rule.{Rule}
use Rattle.proto_model.specs.declared.numbered.MessageInfo.{MessageInfo}
use Rattle.proto_model.specs.declared.numbered.Body.{Body}
use Rattle.proto_model.specs.declared.rendezvous.Part.{Part}
use Rattle.proto_model.proofs.ProperFacts.{home_guard, remote_guard, home_guard-kinds}
use Rattle.proto_model.proofs.ProperFacts.{remote_guard-kinds, home_output-awaits}
use Rattle.proto_model.proofs.ProperFacts.{remote_output-awaits, message_out-output}
use Rattle.proto_model.proofs.ProperFacts.{input-received, output-received}
use Rattle.controller_table.specs.declared.rows.GuardId.{GuardId}
use Rattle.ordered_links.specs.declared.packet.Packet.TheVariants as packet
use Rattle.async_shape.specs.Setting.{Setting, reply_to}
use Rattle.async_shape.specs.Config.{Config, count_of}
use Rattle.async_shape.specs.Guards.{guard_by, request_of, request_by, after_second, after_ack}
use Rattle.async_shape.specs.Guards.{after_reply}
use Rattle.async_shape.specs.View.{awaited_at, view_at}
use Rattle.async_shape.specs.Phase.{is_reply, is_answer}
use Rattle.async_shape.specs.Shape.{IsWaitingHome}
use Rattle.async_shape.specs.declared.config.HomePlace.{HomePlace}
use Rattle.async_shape.specs.declared.config.HomePlace.TheVariants.{Waits}
use Rattle.async_shape.specs.declared.config.Waiting.{Waiting}
use Rattle.async_shape.specs.declared.config.Request.{Request}

-- A part of a process with this body: its state is there, and each variable is of its type.
pub record IsPart (body : Body) (p : Part) : Type 0 where
  pub within : p.state < length body.states
  pub kinds : AreOfKinds body.vars p.vars

-- ---- the request of a guard

-- The guard is there and gives the request's message and value.
pub record IsRequestBy (messages : List MessageInfo) (body : Body) (vars : List Value) (g : GuardId)
    (r : Request) : Type 0 where
  pub rule : Rule
  pub there : guard_by body g ≡ Some rule
  pub message : ℕ × Value
  pub gives : given messages vars rule.kind ≡ Some message
  pub request : r ≡ request_of message

-- a guard that gives a request is there, and gives a message
pub request_by-some : (messages : List MessageInfo) (body : Body) (vars : List Value) (g : GuardId)
    (r : Request) → request_by messages body vars g ≡ Some r
    → IsRequestBy messages body vars g r
request_by-some messages body vars g r e =
    let gives : Rule → Option (ℕ × Value) = λ rule. given messages vars rule.kind in
    let by = some_and_then (λ rule. option_map request_of (gives rule)) (guard_by body g) r e in
    let of = some_map request_of (gives by.0) r by.2 in
    record {
      rule = by.0;
      there = by.1;
      message = of.0;
      gives = of.1;
      request = sym of.2;
    }

-- The other way: the guard gives this message.
pub request_by-is : (messages : List MessageInfo) (body : Body) (vars : List Value) (g : GuardId)
    (rule : Rule) (message : ℕ × Value) → guard_by body g ≡ Some rule
    → given messages vars rule.kind ≡ Some message
    → request_by messages body vars g ≡ Some (request_of message)
request_by-is messages body vars g rule message there gives =
    let give : Rule → Option Request =
    λ r. option_map request_of (given messages vars r.kind) in
    ap (option_and_then give) there ∙ ap (option_map request_of) gives

-- A home that waits on j by a guard that is there waits for j to answer what the guard gives.
pub awaits-request : (setting : Setting) (c : Config) (j : ℕ) (waiting : Waiting)
    → c.home.place ≡ Waits waiting → waiting.on ≡ j
    → (is : IsWaitingHome setting.protocol setting.slots (count_of c) c.home c.held waiting)
    → (view_at setting.protocol c j).awaited ≡ Some (request_of (is.message, waiting.sent))
awaits-request setting c j waiting waits on is =
    let protocol = setting.protocol in
    ap (λ (place : HomePlace). awaited_at protocol c.home place j) waits
    ∙ ap
    (λ (b : Bool).
    if b then request_by protocol.messages protocol.home c.home.vars waiting.by else None)
    (eq-eqb waiting.on j on)
    ∙ request_by-is protocol.messages protocol.home c.home.vars waiting.by is.rule
    (is.message, waiting.sent) is.there is.sends

-- ---- answers

-- what a reply answers is the message whose reply it is
is_reply-some : (p : ℕ) (reply : Option ℕ) → is_reply p reply ≡ true → reply ≡ Some p
is_reply-some p None e = absurd (cc)
is_reply-some p (Some r) e = ap (λ (m : ℕ). Some m) (eqb-true r p e)

-- a reply answers a request only where its message is the one that the request's is paired with
pub is_answer-reply : (reply : Option ℕ) (p : ℕ) (v : Value)
    → is_answer reply (packet.Reply p v) ≡ true → reply ≡ Some p
is_answer-reply reply p v e = is_reply-some p reply e

-- an ack answers a request only where its message has no reply
pub is_answer-ack : (reply : Option ℕ) → is_answer reply packet.Ack ≡ true → reply ≡ None
is_answer-ack None e = refl
is_answer-ack (Some p) e = absurd (cc)

-- ---- the parts after an ack and after a reply

module _ (body : Body) (vars : List Value) (g : GuardId) (partner : ℕ) (rule : Rule)
    (there : guard_by body g ≡ Some rule) where
  -- after the guard alone
  abbrev pub first_part : Part
  first_part = after_guard body vars rule rule.next partner value.Unit

  -- after the guard and then the next one, with the value of a reply
  abbrev pub second_part : Rule → Value → Part
  second_part next v = after_guard body first_part.vars next next.next partner v

  -- the part after an ack is that after the guard
  pub after_ack-is : after_ack body vars g partner ≡ Some first_part
  after_ack-is =
      ap (option_map (λ (r : Rule). after_guard body vars r r.next partner value.Unit)) there

  -- the part after a reply is that after the guard and the only one behind it
  pub after_reply-is : (next : Rule) (v : Value) → only_of (guards_of body rule.next) ≡ Some next
      → after_reply body vars g partner v ≡ Some (second_part next v)
  after_reply-is next v only =
      ap (option_and_then (λ (first : Part). after_second body first partner v)) after_ack-is
      ∙ ap
      (option_map (λ (r : Rule). after_guard body first_part.vars r r.next partner v)) only

-- What is known of the part after an ack.
pub record IsAcked (body : Body) (vars : List Value) (g : GuardId) (partner : ℕ) : Type 0 where
  pub after : Part
  pub acked : after_ack body vars g partner ≡ Some after
  pub part : IsPart body after

-- What is known of the part after a reply with this value.
pub record IsReplied (body : Body) (vars : List Value) (g : GuardId) (partner : ℕ) (v : Value)
    : Type 0 where
  pub after : Part
  pub replied : after_reply body vars g partner v ≡ Some after
  pub part : IsPart body after

module _ (protocol : NumberedProtocol) (proper : IsProper protocol) where
  -- ---- the home

  -- after a guard of the home
  pub home_guard-part : (state g : ℕ) (rule : Rule) (vars : List Value) (partner : ℕ) (v : Value)
      → guard_at protocol.home state g ≡ Some rule → AreOfKinds protocol.home.vars vars
      → partner < 64 → IsReceived protocol.messages rule.kind v
      → IsPart protocol.home (after_guard protocol.home vars rule rule.next partner v)
  home_guard-part state g rule vars partner v there kinds below received = record {
    within = (home_guard protocol state g rule proper there).proper.next;
    kinds =
        home_guard-kinds protocol state g rule vars proper partner v there kinds below received;
  }

  -- after an ack to an output of the home
  pub home-acked : (g : GuardId) (rule : Rule) (vars : List Value) (partner : ℕ)
      → guard_by protocol.home g ≡ Some rule → is_output_kind rule.kind ≡ true
      → AreOfKinds protocol.home.vars vars → partner < 64
      → IsAcked protocol.home vars g partner
  home-acked g rule vars partner there output kinds below = record {
    after = after_guard protocol.home vars rule rule.next partner value.Unit;
    acked = after_ack-is protocol.home vars g partner rule there;
    part =
        home_guard-part g.state g.guard rule vars partner value.Unit there kinds below
        (output-received protocol.messages rule.kind value.Unit output);
  }

  -- ---- a remote

  -- after a guard of a remote
  pub remote_guard-part : (state g : ℕ) (rule : Rule) (vars : List Value) (partner : ℕ) (v : Value)
      → guard_at protocol.remote state g ≡ Some rule → AreOfKinds protocol.remote.vars vars
      → partner < 64 → IsReceived protocol.messages rule.kind v
      → IsPart protocol.remote (after_guard protocol.remote vars rule rule.next partner v)
  remote_guard-part state g rule vars partner v there kinds below received = record {
    within = (remote_guard protocol state g rule proper there).proper.next;
    kinds =
        remote_guard-kinds protocol state g rule vars proper partner v there kinds below received;
  }

  -- after an ack to an output of a remote
  pub remote-acked : (g : GuardId) (rule : Rule) (vars : List Value) (partner : ℕ)
      → guard_by protocol.remote g ≡ Some rule → is_output_kind rule.kind ≡ true
      → AreOfKinds protocol.remote.vars vars → partner < 64
      → IsAcked protocol.remote vars g partner
  remote-acked g rule vars partner there output kinds below = record {
    after = after_guard protocol.remote vars rule rule.next partner value.Unit;
    acked = after_ack-is protocol.remote vars g partner rule there;
    part =
        remote_guard-part g.state g.guard rule vars partner value.Unit there kinds below
        (output-received protocol.messages rule.kind value.Unit output);
  }

module _ (setting : Setting) (proper : IsProper setting.protocol) (g : GuardId) (rule : Rule)
    (m p : ℕ) (reply : reply_to setting m ≡ Some p) (v : Value)
    (typed : IsCarriedBy setting.protocol.messages p v) where
  -- after the reply p to an output of the home
  pub home-replied : (vars : List Value) (partner : ℕ)
      → guard_by setting.protocol.home g ≡ Some rule → message_out rule.kind ≡ Some m
      → AreOfKinds setting.protocol.home.vars vars → partner < 64
      → IsReplied setting.protocol.home vars g partner v
  home-replied vars partner there out kinds below =
      let body = setting.protocol.home in
      let messages = setting.protocol.messages in
      let awaits =
      home_output-awaits setting.protocol setting.mode g.state g.guard rule m p proper reply there
      out in
      let next = awaits.next in
      let first =
      home_guard-part setting.protocol proper g.state g.guard rule vars partner value.Unit there
      kinds below
      (output-received messages rule.kind value.Unit (message_out-output rule.kind m out)) in
      record {
        after = second_part body vars g partner rule there next v;
        replied = after_reply-is body vars g partner rule there next v awaits.one.only;
        part =
            home_guard-part setting.protocol proper rule.next 0 next
            (after_guard body vars rule rule.next partner value.Unit).vars partner v
            awaits.one.there first.kinds below
            (input-received messages next.kind p v awaits.free.input typed);
      }

  -- after the reply p to an output of a remote
  pub remote-replied : (vars : List Value) (partner : ℕ)
      → guard_by setting.protocol.remote g ≡ Some rule → message_out rule.kind ≡ Some m
      → AreOfKinds setting.protocol.remote.vars vars → partner < 64
      → IsReplied setting.protocol.remote vars g partner v
  remote-replied vars partner there out kinds below =
      let body = setting.protocol.remote in
      let messages = setting.protocol.messages in
      let awaits =
      remote_output-awaits setting.protocol setting.mode g.state g.guard rule m p proper reply there
      out in
      let next = awaits.next in
      let first =
      remote_guard-part setting.protocol proper g.state g.guard rule vars partner value.Unit there
      kinds below
      (output-received messages rule.kind value.Unit (message_out-output rule.kind m out)) in
      record {
        after = second_part body vars g partner rule there next v;
        replied = after_reply-is body vars g partner rule there next v awaits.one.only;
        part =
            remote_guard-part setting.protocol proper rule.next 0 next
            (after_guard body vars rule rule.next partner value.Unit).vars partner v
            awaits.one.there first.kinds below
            (input-received messages next.kind p v awaits.free.input typed);
      }

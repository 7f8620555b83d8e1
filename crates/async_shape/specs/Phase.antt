-- The phases of a remote: the ways in which something, or nothing, is under way between it and the
-- home.
use Rattle.std.specs.Prelude.{◌≡◌, ℕ, ◌<◌, Bool, true, false, ◌==◌, List, [], ◌∷◌, length}
use Rattle.std.specs.Prelude.{Option, Some, None, is_none}
use Rattle.std.specs.Option.{option_and_then}
use Rattle.std.specs.List.{AllByRecursion}
use Rattle.proto_model.specs.Numbered.{NumberedProtocol}
use Rattle.proto_model.specs.Proper.{is_output_kind}
use Rattle.proto_model.specs.Guards.{guards_of}
use Rattle.proto_model.specs.ValueTypes.{AreOfKinds, IsCarriedBy, message_out}
use Rattle.proto_model.specs.Pairs.{goes_down}
use Rattle.proto_model.specs.declared.numbered.Value.{Value}
use Rattle.proto_model.specs.declared.numbered.Rule.{Rule}
use Rattle.controller_table.specs.declared.rows.GuardId.{GuardId}
use Rattle.controller_table.specs.declared.rows.Place.{Place}
use Rattle.controller_table.specs.declared.rows.Place.TheVariants.{Comm, Trans, Due}
use Rattle.ordered_links.specs.declared.packet.Packet.{Packet}
use Rattle.ordered_links.specs.declared.packet.Packet.TheVariants as packet
use Rattle.async_shape.specs.Setting.{Setting, reply_to}
use Rattle.async_shape.specs.Guards.{guard_by, request_by}
use Rattle.async_shape.specs.View.{View}
use Rattle.async_shape.specs.declared.config.RemoteState.{RemoteState}
use Rattle.async_shape.specs.declared.config.Request.{Request}

-- R is the request that the home waits for the remote to answer; Q is the request of the guard by
-- which the remote waits. An old request is some request of the home, which is dropped when it
-- arrives; it may be missing.
pub data Phase : Type 0 where
  -- the remote is idle, and nothing is under way
  Resting : Phase
  -- the remote is idle, and R is on its way down
  RequestComes : (r : Request) → Phase
  -- the remote is idle, and R is in its slot
  RequestInSlot : (r : Request) → Phase
  -- the remote is idle, and its answer to R is on its way up
  AnswerGoes : (r : Request) (answer : Packet) → Phase
  -- the remote is due to send the reply to R
  ReplyIsDue : (r : Request) → Phase
  -- the remote waits, and Q is on its way up
  RequestGoes : (q : Request) → Phase
  -- the remote waits, Q is on its way up, and R on its way down
  RequestsCross : (q r : Request) → Phase
  -- the remote waits, Q is on its way up, and R has left the down link and the slot
  RequestCrossed : (q r : Request) → Phase
  -- the remote waits, and its answer to R and then Q are on their way up
  AnswerThenRequestGo : (q r : Request) (answer : Packet) → Phase
  -- the remote waits, and the home holds Q; an old request may come down
  RequestIsHeld : (q : Request) (old : Option Request) → Phase
  -- the remote waits, and behind an old request the answer to Q comes down, and then R where the
  -- home waits on the remote
  AnswerComes :
      (q : Request) (old : Option Request) (answer : Packet) (awaited : Option Request) → Phase
  -- the remote waits, and the home owes it this message, the reply to Q; an old request may come
  -- down
  ReplyIsOwed : (q : Request) (old : Option Request) (p : ℕ) → Phase

-- ---- what is under way

-- the packet of a request
abbrev pub as_packet : Request → Packet
as_packet r = packet.Request r.message r.value

-- the packet of a request that may be missing
abbrev pub packets_of : Option Request → List Packet
packets_of None = []
packets_of (Some r) = as_packet r ∷ []

-- the packets on a down link: an old request, if there is one; an answer; and a request, if there
-- is one
abbrev pub down_list : Option Request → Packet → Option Request → List Packet
down_list None answer None = answer ∷ []
down_list None answer (Some r) = answer ∷ as_packet r ∷ []
down_list (Some old) answer None = as_packet old ∷ answer ∷ []
down_list (Some old) answer (Some r) = as_packet old ∷ answer ∷ as_packet r ∷ []

-- what a phase says of what is under way; of the remote's place, of answers and of old requests it
-- speaks below
pub record Signs : Type 0 where
  pub awaited : Option Request
  pub up : List Packet
  pub down : List Packet
  pub slot : Option Request
  pub held : Option Request
  pub owed : Option ℕ

-- These packets are on the links, and the home waits for this request to be answered; nothing is in
-- the slot, held or owed.
abbrev pub on_links : Option Request → List Packet → List Packet → Signs
on_links awaited up down =
    record { awaited = awaited; up = up; down = down; slot = None; held = None; owed = None }

-- what each phase says of what is under way
abbrev pub signs_of : Phase → Signs
signs_of Resting = on_links None [] []
signs_of (RequestComes r) = on_links (Some r) [] (as_packet r ∷ [])
signs_of (RequestInSlot r) = record (on_links (Some r) [] []) { slot = Some r }
signs_of (AnswerGoes r answer) = on_links (Some r) (answer ∷ []) []
signs_of (ReplyIsDue r) = on_links (Some r) [] []
signs_of (RequestGoes q) = on_links None (as_packet q ∷ []) []
signs_of (RequestsCross q r) = on_links (Some r) (as_packet q ∷ []) (as_packet r ∷ [])
signs_of (RequestCrossed q r) = on_links (Some r) (as_packet q ∷ []) []
signs_of (AnswerThenRequestGo q r answer) = on_links (Some r) (answer ∷ as_packet q ∷ []) []
signs_of (RequestIsHeld q old) = record (on_links None [] (packets_of old)) { held = Some q }
signs_of (AnswerComes q old answer awaited) = on_links awaited [] (down_list old answer awaited)
signs_of (ReplyIsOwed q old p) = record (on_links None [] (packets_of old)) { owed = Some p }

-- the view has these signs
pub record Has (v : View) (signs : Signs) : Type 0 where
  pub awaited : v.awaited ≡ signs.awaited
  pub up : v.up ≡ signs.up
  pub down : v.down ≡ signs.down
  pub slot : v.remote.slot ≡ signs.slot
  pub held : v.held ≡ signs.held
  pub owed : v.owed ≡ signs.owed

-- ---- where the remote stands

-- the remote stands in a communication state
abbrev pub is_idle_place : Place → Bool
is_idle_place (Comm state) = true
is_idle_place (Trans g) = false
is_idle_place (Due g) = false

-- the message is this reply
abbrev pub is_reply : ℕ → Option ℕ → Bool
is_reply p None = false
is_reply p (Some r) = r == p

-- The packet answers a request whose message has this reply, or none: a nack; an ack, where there
-- is no reply; the reply, where there is one.
abbrev pub is_answer : Option ℕ → Packet → Bool
is_answer reply (packet.Request m v) = false
is_answer reply packet.Ack = is_none reply
is_answer reply packet.Nack = true
is_answer reply (packet.Reply p v) = is_reply p reply

-- the remote is idle
abbrev pub IsIdle : RemoteState → Type 0
IsIdle remote = is_idle_place remote.place ≡ true

module _ (protocol : NumberedProtocol) where
  -- the request of the guard by which a remote waits; none where it doesn't
  abbrev pub waits_at : List Value → Place → Option Request
  waits_at vars (Comm state) = None
  waits_at vars (Trans g) = request_by protocol.messages protocol.remote vars g
  waits_at vars (Due g) = None

  -- the remote waits by the guard whose request is q
  abbrev pub WaitsBy : Request → RemoteState → Type 0
  WaitsBy q remote = waits_at remote.vars remote.place ≡ Some q

  -- the message that a remote is due to send; none where it isn't
  abbrev pub due_at : Place → Option ℕ
  due_at (Comm state) = None
  due_at (Trans g) = None
  due_at (Due g) = option_and_then (λ rule. message_out rule.kind) (guard_by protocol.remote g)

  -- an old request, if there is one, is of a down message
  abbrev pub IsOld : Option Request → Type 0
  IsOld None = Unit {0}
  IsOld (Some r) = goes_down protocol r.message ≡ true

module _ (setting : Setting) where
  -- the packet answers the request
  abbrev pub IsAnswerTo : Request → Packet → Type 0
  IsAnswerTo r answer = is_answer (reply_to setting r.message) answer ≡ true

  -- what a phase says of the remote's place and variables, and of answers and old requests
  abbrev pub Fits : Phase → RemoteState → Type 0
  Fits Resting remote = IsIdle remote
  Fits (RequestComes r) remote = IsIdle remote
  Fits (RequestInSlot r) remote = IsIdle remote
  Fits (AnswerGoes r answer) remote = IsIdle remote × IsAnswerTo r answer
  Fits (ReplyIsDue r) remote =
      (p : ℕ) × (due_at setting.protocol remote.place ≡ Some p)
      × (reply_to setting r.message ≡ Some p)
  Fits (RequestGoes q) remote = WaitsBy setting.protocol q remote
  Fits (RequestsCross q r) remote = WaitsBy setting.protocol q remote
  Fits (RequestCrossed q r) remote = WaitsBy setting.protocol q remote
  Fits (AnswerThenRequestGo q r answer) remote =
      WaitsBy setting.protocol q remote × IsAnswerTo r answer
  Fits (RequestIsHeld q old) remote =
      WaitsBy setting.protocol q remote × IsOld setting.protocol old
  Fits (AnswerComes q old answer awaited) remote =
      WaitsBy setting.protocol q remote × IsOld setting.protocol old × IsAnswerTo q answer
  Fits (ReplyIsOwed q old p) remote =
      WaitsBy setting.protocol q remote × IsOld setting.protocol old
      × (reply_to setting q.message ≡ Some p)

  -- a phase whose signs the view has and which fits the remote
  pub record IsInPhase (v : View) : Type 0 where
    pub phase : Phase
    pub has : Has v (signs_of phase)
    pub fits : Fits phase v.remote

-- ---- ranges and types of one remote

module _ (protocol : NumberedProtocol) where
  -- the guard is the one guard of an active state
  abbrev pub IsActiveGuard : GuardId → Type 0
  IsActiveGuard g =
      (rule : Rule) × (guards_of protocol.remote g.state ≡ rule ∷ [])
      × (g.guard ≡ 0) × (is_output_kind rule.kind ≡ true)

  -- a place in range; a transient or due one names an output, which is the only guard of its state
  abbrev pub IsRemotePlace : Place → Type 0
  IsRemotePlace (Comm state) = state < length protocol.remote.states
  IsRemotePlace (Trans g) = IsActiveGuard g
  IsRemotePlace (Due g) = IsActiveGuard g

  -- a message of the protocol with a value of its type
  pub record IsTypedMessage (m : ℕ) (v : Value) : Type 0 where
    pub message : m < length protocol.messages
    pub value : IsCarriedBy protocol.messages m v

  -- the request in the slot, if there is one, is of a message of the protocol and has a value of
  -- its type
  abbrev pub IsTypedSlot : Option Request → Type 0
  IsTypedSlot None = Unit {0}
  IsTypedSlot (Some r) = IsTypedMessage r.message r.value

  -- a request or a reply is of a message of the protocol and has a value of its type
  abbrev pub IsTypedPacket : Packet → Type 0
  IsTypedPacket (packet.Request m v) = IsTypedMessage m v
  IsTypedPacket packet.Ack = Unit {0}
  IsTypedPacket packet.Nack = Unit {0}
  IsTypedPacket (packet.Reply p v) = IsTypedMessage p v

  -- a place in range; and each variable, and each value in the slot and on the links, of its type
  pub record IsTypedView (v : View) : Type 0 where
    pub place : IsRemotePlace v.remote.place
    pub vars : AreOfKinds protocol.remote.vars v.remote.vars
    pub slot : IsTypedSlot v.remote.slot
    pub up : AllByRecursion IsTypedPacket v.up
    pub down : AllByRecursion IsTypedPacket v.down

-- the case of a remote, by its view
pub record Case (setting : Setting) (v : View) : Type 0 where
  pub in_phase : IsInPhase setting v
  pub typed : IsTypedView setting.protocol v

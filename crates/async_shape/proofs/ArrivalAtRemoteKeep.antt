-- A packet that arrives at a remote keeps the shape.
use Rattle.std.proofs.Common.{◌≡◌, inl, inr, ℕ, ◌<◌, false, List, [], ◌∷◌}
use Rattle.std.proofs.Common.{drop, Option, Some, None, refl, sym, ap, subst, ◌∙◌, arith}
use Rattle.std.specs.Option.{option_map_or}
use Rattle.std.specs.List.{AllByRecursion}
use Rattle.proto_model.specs.Proper.{IsProper}
use Rattle.proto_model.specs.Guards.{part}
use Rattle.proto_model.specs.ValueTypes.{AreOfKinds}
use Rattle.proto_model.specs.declared.numbered.Value.{Value}
use Rattle.proto_model.specs.declared.rendezvous.Part.{Part}
use Rattle.proto_model.proofs.ProperFacts.{remote_guard, remote_guard-gives}
use Rattle.controller_table.specs.declared.rows.GuardId.{GuardId}
use Rattle.controller_table.specs.declared.rows.Place.{Place}
use Rattle.controller_table.specs.declared.rows.Place.TheVariants.{Trans}
use Rattle.ordered_links.specs.Link.{Down}
use Rattle.ordered_links.specs.Lists.{first_packet}
use Rattle.ordered_links.specs.declared.packet.Packet.{Packet}
use Rattle.ordered_links.specs.declared.packet.Packet.TheVariants as packet
use Rattle.async_shape.specs.Setting.{Setting, reply_to}
use Rattle.async_shape.specs.Config.{Config}
use Rattle.async_shape.specs.Guards.{request_of}
use Rattle.async_shape.specs.Outcome.{RemoteOutcome, at_remote, remote_at}
use Rattle.async_shape.specs.RemoteSteps.{down_idle, down_waiting, down}
use Rattle.async_shape.specs.Next.{StepOutcome, config_after, outcome}
use Rattle.async_shape.specs.View.{View, view_at}
use Rattle.async_shape.specs.Phase.{Resting, RequestComes, RequestInSlot, RequestCrossed}
use Rattle.async_shape.specs.Phase.{RequestIsHeld, AnswerComes, ReplyIsOwed, as_packet, packets_of}
use Rattle.async_shape.specs.Phase.{is_idle_place, waits_at, IsIdle, IsInPhase, IsActiveGuard}
use Rattle.async_shape.specs.Phase.{IsRemotePlace, IsTypedMessage, IsTypedSlot, IsTypedPacket, Case}
use Rattle.async_shape.specs.Shape.{IsShaped}
use Rattle.ordered_links.specs.Packets.{is_request}
use Rattle.async_shape.specs.declared.config.RemoteState.{RemoteState}
use Rattle.async_shape.specs.declared.config.Request.{Request}
use Rattle.async_shape.specs.declared.step.Step.TheVariants as step
use Rattle.async_shape.proofs.RemoteInversion.{ReachesIdle, down-by}
use Rattle.async_shape.proofs.StepInversion.{ArrivesDown, Down-outcome}
use Rattle.async_shape.proofs.Completed.{IsPart, IsAcked, IsReplied, IsRequestBy, request_by-some}
use Rattle.async_shape.proofs.Completed.{is_answer-reply, remote-acked, remote-replied}
use Rattle.async_shape.proofs.Places.{IsActiveGuard-rule}
use Rattle.async_shape.proofs.Phases.{IsIn, OldPhase, OldCrosses, OldHeld, OldAnswered}
use Rattle.async_shape.proofs.Phases.{OldOwed, due-phase, down_idle-phase, down_request-phase}
use Rattle.async_shape.proofs.Phases.{down_answer-phase, first-rest}
use Rattle.async_shape.proofs.RemoteMoves.{view_moved}
use Rattle.async_shape.proofs.RemoteStepsKeep.{KeepsCase, IsShaped-remote_step}

module _ (setting : Setting) (proper : IsProper setting.protocol) (j : ℕ) (v : View)
    (case : Case setting v) (arrived : Packet) (first : first_packet v.down ≡ Some arrived) where
  -- what is left on the down link
  abbrev rest : List Packet
  rest = drop 1 v.down

  -- the packet is the first of the link
  comes : v.down ≡ arrived ∷ drop 1 v.down
  comes = first-rest v.down arrived first

  -- the packet and what follows it are typed
  typed_down : AllByRecursion (IsTypedPacket setting.protocol) (arrived ∷ drop 1 v.down)
  typed_down = subst (AllByRecursion (IsTypedPacket setting.protocol)) comes case.typed.down

  -- the view where the remote stands so and the packet is gone
  abbrev left_view : RemoteState → View
  left_view remote = view_moved v remote None (Some (Down j))

  -- what is left at the remote keeps its case
  abbrev Keeps : RemoteOutcome → Type 0
  Keeps left = KeepsCase setting j v (Some (Down j)) left

  -- the shape is kept where the remote is in a phase again, and typed
  keeps_by : (remote : RemoteState) → IsInPhase setting (left_view remote)
      → IsRemotePlace setting.protocol remote.place
      → AreOfKinds setting.protocol.remote.vars remote.vars
      → IsTypedSlot setting.protocol remote.slot → Keeps (at_remote remote None)
  keeps_by remote in_phase place vars slot = record {
    put = tt;
    case = record {
      in_phase = in_phase;
      typed = record {
        place = place;
        vars = vars;
        slot = slot;
        up = case.typed.up;
        down = typed_down.1;
      };
    };
  }

  -- ---- the remote is idle

  -- a packet that comes to an idle remote keeps the shape
  idle_keeps : ReachesIdle setting v.remote arrived → Keeps (down setting v.remote arrived)
  idle_keeps is =
      let idle : IsIdle v.remote = ap is_idle_place is.idle in
      let gets = down_idle-phase setting v arrived rest case.in_phase idle comes in
      let r = gets.0 in
      let now : down setting v.remote arrived ≡ at_remote (down_idle v.remote (as_packet r)) None =
      is.outcome ∙ ap (λ (p : Packet). at_remote (down_idle v.remote p) None) gets.1 in
      let typed : IsTypedMessage setting.protocol r.message r.value =
      subst (IsTypedPacket setting.protocol) gets.1 typed_down.0 in
      subst Keeps (sym now)
      (keeps_by (down_idle v.remote (as_packet r))
      (record {
        phase = RequestInSlot r;
        has = record {
          awaited = gets.3.has.awaited;
          up = gets.3.has.up;
          down = gets.2;
          slot = refl;
          held = gets.3.has.held;
          owed = gets.3.has.owed;
        };
        fits = idle;
      })
      case.typed.place case.typed.vars typed)

  -- ---- the remote waits, and a request is dropped

  -- the phase where an old request is dropped
  dropped_phase : (old : Request) → OldPhase setting v old rest
      → IsInPhase setting (left_view v.remote)
  dropped_phase old (OldCrosses q none is) = record {
    phase = RequestCrossed q old;
    has = record {
      awaited = is.has.awaited;
      up = is.has.up;
      down = none;
      slot = is.has.slot;
      held = is.has.held;
      owed = is.has.owed;
    };
    fits = is.fits;
  }
  dropped_phase old (OldHeld q none is) = record {
    phase = RequestIsHeld q None;
    has = record {
      awaited = is.has.awaited;
      up = is.has.up;
      down = none;
      slot = is.has.slot;
      held = is.has.held;
      owed = is.has.owed;
    };
    fits = (is.fits.0, tt);
  }
  dropped_phase old (OldAnswered q answer awaited behind is) = record {
    phase = AnswerComes q None answer awaited;
    has = record {
      awaited = is.has.awaited;
      up = is.has.up;
      down = behind;
      slot = is.has.slot;
      held = is.has.held;
      owed = is.has.owed;
    };
    fits = (is.fits.0, tt, is.fits.2);
  }
  dropped_phase old (OldOwed q p none is) = record {
    phase = ReplyIsOwed q None p;
    has = record {
      awaited = is.has.awaited;
      up = is.has.up;
      down = none;
      slot = is.has.slot;
      held = is.has.held;
      owed = is.has.owed;
    };
    fits = (is.fits.0, tt, is.fits.2);
  }

  -- ---- the remote waits, and is answered

  -- the remote is idle again
  heard_phase : (remote : RemoteState) (answer : Packet) (q : Request) (awaited : Option Request)
      → IsIdle remote → remote.slot ≡ v.remote.slot → v.awaited ≡ awaited
      → drop 1 v.down ≡ packets_of awaited → IsIn setting v (AnswerComes q None answer v.awaited)
      → IsInPhase setting (left_view remote)
  heard_phase remote answer q None idle slot awaits behind is = record {
    phase = Resting;
    has = record {
      awaited = awaits;
      up = is.has.up;
      down = behind;
      slot = slot ∙ is.has.slot;
      held = is.has.held;
      owed = is.has.owed;
    };
    fits = idle;
  }
  heard_phase remote answer q (Some r) idle slot awaits behind is = record {
    phase = RequestComes r;
    has = record {
      awaited = awaits;
      up = is.has.up;
      down = behind;
      slot = slot ∙ is.has.slot;
      held = is.has.held;
      owed = is.has.owed;
    };
    fits = idle;
  }

  -- What is known of a remote that waits by this guard, and to which an answer comes down first.
  record Hears (g : GuardId) : Type 0 where
    q : Request
    behind : drop 1 v.down ≡ packets_of v.awaited
    is : IsIn setting v (AnswerComes q None arrived v.awaited)
    by : IsRequestBy setting.protocol.messages setting.protocol.remote v.remote.vars g q

  -- a remote that waits hears any packet but a request
  hears : (g : GuardId) → v.remote.place ≡ Trans g → is_request arrived ≡ false → Hears g
  hears g waits none =
      let gets = down_answer-phase setting v arrived rest case.in_phase none comes in
      let waits_by =
      subst (λ (place : Place). waits_at setting.protocol v.remote.vars place ≡ Some gets.0) waits
      gets.2.fits.0 in
      record {
        q = gets.0;
        behind = gets.1;
        is = gets.2;
        by = request_by-some setting.protocol.messages setting.protocol.remote v.remote.vars g
            gets.0 waits_by;
      }

  -- the remote stands there after it has heard the answer
  heard_keeps : (g : GuardId) (after : Part) → Hears g → IsPart setting.protocol.remote after
      → Keeps (at_remote (remote_at v.remote after) None)
  heard_keeps g after heard part =
      keeps_by (remote_at v.remote after)
      (heard_phase (remote_at v.remote after) arrived heard.q v.awaited refl refl refl heard.behind
      heard.is)
      part.within part.kinds case.typed.slot

  -- the guard by which the remote waits is an active one
  active_by : (g : GuardId) → v.remote.place ≡ Trans g → IsActiveGuard setting.protocol g
  active_by g waits = subst (IsRemotePlace setting.protocol) waits case.typed.place

-- a remote that waits, by the packet that arrives
module _ (setting : Setting) (proper : IsProper setting.protocol) (j : ℕ) (v : View)
    (case : Case setting v) (g : GuardId) (waits : v.remote.place ≡ Trans g) where
  -- the remote after an ack that arrives
  pub acked_remote : first_packet v.down ≡ Some packet.Ack
      → IsAcked setting.protocol.remote v.remote.vars g 0
  acked_remote first =
      let protocol = setting.protocol in
      let heard = hears setting proper j v case packet.Ack first g waits refl in
      let active = active_by setting proper j v case packet.Ack first g waits in
      let output = (IsActiveGuard-rule protocol g heard.by.rule active heard.by.there).1 in
      let below : 0 < 64 = omega arith in
      remote-acked protocol proper g heard.by.rule v.remote.vars 0 heard.by.there output
      case.typed.vars below

  -- the remote after a reply that arrives
  pub replied_remote : (p : ℕ) (w : Value) → first_packet v.down ≡ Some (packet.Reply p w)
      → IsReplied setting.protocol.remote v.remote.vars g 0 w
  replied_remote p w first =
      let protocol = setting.protocol in
      let arrived = packet.Reply p w in
      let heard = hears setting proper j v case arrived first g waits refl in
      let by = heard.by in
      let given =
      remote_guard-gives protocol g.state g.guard by.rule v.remote.vars proper by.message by.there
      case.typed.vars by.gives in
      let reply = is_answer-reply (reply_to setting heard.q.message) p w heard.is.fits.2 in
      let reply_given : reply_to setting by.message.0 ≡ Some p =
      ap (λ (r : Request). reply_to setting r.message) (sym by.request) ∙ reply in
      let typed = (typed_down setting proper j v case arrived first).0 in
      let below : 0 < 64 = omega arith in
      remote-replied setting proper g by.rule by.message.0 p reply_given w typed.value
      v.remote.vars 0 by.there given.out case.typed.vars below

  -- a packet that comes to a remote that waits keeps the shape
  waiting_keeps : (arrived : Packet) → first_packet v.down ≡ Some arrived
      → KeepsCase setting j v (Some (Down j))
      (at_remote (down_waiting setting.protocol.remote v.remote g arrived) None)
  waiting_keeps (packet.Request m w) first =
      let arrived = packet.Request m w in
      let old = request_of (m, w) in
      let phase =
      down_request-phase setting v g old (drop 1 v.down) case.in_phase waits
      (first-rest v.down arrived first) in
      keeps_by setting proper j v case arrived first v.remote
      (dropped_phase setting proper j v case arrived first old phase) case.typed.place
      case.typed.vars case.typed.slot
  waiting_keeps packet.Ack first =
      let acked = acked_remote first in
      let now =
      ap (λ (o : Option Part). at_remote (option_map_or (remote_at v.remote) o v.remote) None)
      acked.acked in
      subst (KeepsCase setting j v (Some (Down j))) (sym now)
      (heard_keeps setting proper j v case packet.Ack first g acked.after
      (hears setting proper j v case packet.Ack first g waits refl) acked.part)
  waiting_keeps packet.Nack first =
      let protocol = setting.protocol in
      let heard = hears setting proper j v case packet.Nack first g waits refl in
      let there =
      (remote_guard protocol g.state g.guard heard.by.rule proper heard.by.there).within in
      heard_keeps setting proper j v case packet.Nack first g (part g.state v.remote.vars) heard
      (record { within = there; kinds = case.typed.vars })
  waiting_keeps (packet.Reply p w) first =
      let arrived = packet.Reply p w in
      let replied = replied_remote p w first in
      let now =
      ap (λ (o : Option Part). at_remote (option_map_or (remote_at v.remote) o v.remote) None)
      replied.replied in
      subst (KeepsCase setting j v (Some (Down j))) (sym now)
      (heard_keeps setting proper j v case arrived first g replied.after
      (hears setting proper j v case arrived first g waits refl) replied.part)

-- ---- the step

-- a packet that arrives at the remote keeps its case
pub Down-keeps : (setting : Setting) (c : Config) (j : ℕ) (v : View) → IsProper setting.protocol
    → Case setting v → (arrived : Packet) → first_packet v.down ≡ Some arrived
    → KeepsCase setting j v (Some (Down j)) (down setting v.remote arrived)
Down-keeps setting c j v proper case arrived first = elim (down-by setting v.remote arrived) [
  | inl idle ↦ idle_keeps setting proper j v case arrived first idle
  | inr others ↦ elim others [
    | inl waiting ↦
        subst (KeepsCase setting j v (Some (Down j))) (sym waiting.outcome)
        (waiting_keeps setting proper j v case waiting.guard waiting.waits arrived first)
    | inr due ↦
        let phase = due-phase setting v due.guard case.in_phase due.due in
        let down_is = first-rest v.down arrived first in
        let empty : v.down ≡ [] = phase.1.has.down in
        absurd (cc)
  ]
]

-- A packet that arrives at a remote keeps the shape.
pub IsShaped-Down : (setting : Setting) → IsProper setting.protocol → (c : Config) (j : ℕ)
    (o : StepOutcome) → IsShaped setting c → outcome setting c (step.Down j) ≡ Some o
    → IsShaped setting (config_after c o)
IsShaped-Down setting proper c j o shaped did =
    IsShaped-remote_step setting c (Some (Down j)) j (ArrivesDown setting c j) o shaped refl
    (Down-outcome setting c j o did)
    (λ left case is.
    subst (KeepsCase setting j (view_at setting.protocol c j) (Some (Down j))) (sym is.outcome)
    (Down-keeps setting c j (view_at setting.protocol c j) proper case is.arrived is.first))

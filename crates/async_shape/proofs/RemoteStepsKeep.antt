-- A step at a remote keeps the shape: a local step, the request, the answer to the request in the
-- slot, and the reply that is due.
use Rattle.std.proofs.Common.{◌≡◌, inl, inr, ℕ, ◌<◌, List, [], ◌∷◌, ◌++◌}
use Rattle.std.proofs.Common.{Option, Some, None, refl, sym, ap, subst, ◌∙◌, arith}
use Rattle.std.proofs.lemmas.Bool.{eq-eqb}
use Rattle.std.proofs.lemmas.Option.{same_Some, get_or_from_slice_get}
use Rattle.rv_base.proofs.Lists.{AllByRecursion-push}
use Rattle.proto_model.specs.Proper.{IsProper}
use Rattle.proto_model.specs.Guards.{after_guard}
use Rattle.proto_model.specs.declared.numbered.Value.TheVariants as value
use Rattle.proto_model.specs.declared.numbered.Rule.{Rule}
use Rattle.proto_model.specs.declared.rendezvous.Part.{Part}
use Rattle.proto_model.proofs.ProperFacts.{remote_guard-gives, remote_input-leads, input-received}
use Rattle.proto_model.proofs.ProperFacts.{output-received}
use Rattle.controller_table.specs.Rows.{guard_id}
use Rattle.controller_table.specs.declared.rows.GuardId.{GuardId}
use Rattle.controller_table.specs.declared.rows.Place.TheVariants.{Comm, Trans, Due}
use Rattle.ordered_links.specs.Link.{Link, Up}
use Rattle.ordered_links.specs.declared.packet.Packet.{Packet}
use Rattle.ordered_links.specs.declared.packet.Packet.TheVariants as packet
use Rattle.async_shape.specs.Setting.{Setting, reply_to}
use Rattle.async_shape.specs.Config.{Config}
use Rattle.async_shape.specs.Guards.{request_of}
use Rattle.async_shape.specs.Outcome.{RemoteOutcome, put_on, remote_at, without_slot}
use Rattle.async_shape.specs.RemoteSteps.{answered}
use Rattle.async_shape.specs.Next.{StepOutcome, config_after, outcome}
use Rattle.async_shape.specs.View.{View, nobody, view_at}
use Rattle.async_shape.specs.Phase.{Resting, RequestComes, RequestInSlot, AnswerGoes, ReplyIsDue}
use Rattle.async_shape.specs.Phase.{RequestGoes, RequestsCross, RequestCrossed, AnswerThenRequestGo}
use Rattle.async_shape.specs.Phase.{as_packet, IsInPhase, is_idle_place, is_answer, WaitsBy, due_at}
use Rattle.async_shape.specs.Phase.{IsIdle, IsAnswerTo, IsActiveGuard, IsRemotePlace}
use Rattle.async_shape.specs.Phase.{IsTypedMessage, IsTypedSlot, IsTypedPacket, Case}
use Rattle.async_shape.specs.Shape.{IsShaped}
use Rattle.async_shape.specs.declared.config.RemoteState.{RemoteState}
use Rattle.async_shape.specs.declared.config.Request.{Request}
use Rattle.async_shape.specs.declared.step.Step.TheVariants as step
use Rattle.async_shape.proofs.RemoteInversion.{RemoteTakesTau, SendsRequest, Nacks, AnswersBy}
use Rattle.async_shape.proofs.RemoteInversion.{AnswersRequest, SendsReply}
use Rattle.async_shape.proofs.StepInversion.{RemoteMoves, RemoteTau-outcome, RemoteSend-outcome}
use Rattle.async_shape.proofs.StepInversion.{RemoteAnswer-outcome, RemoteReply-outcome}
use Rattle.async_shape.proofs.Completed.{IsPart, remote_guard-part}
use Rattle.async_shape.proofs.Places.{IsActiveGuard-output, IsActiveGuard-owed, IsActiveGuard-rule}
use Rattle.async_shape.proofs.Places.{waits_at-is, due_at-is, IsTypedMessage-given}
use Rattle.async_shape.proofs.Places.{remote_step-part}
use Rattle.async_shape.proofs.Phases.{IsIn, IdlePhase, Rests, Comes, InSlot, Answered}
use Rattle.async_shape.proofs.Phases.{idle-phase, slot-phase, due-phase}
use Rattle.async_shape.proofs.LinksAfter.{IsPutAt, IsTakenAt}
use Rattle.async_shape.proofs.RemoteMoves.{view_moved, IsShaped-remote_moved}
use Rattle.async_shape.proofs.ShapeParts.{IsShaped-case}

-- What a step leaves at a remote with this view: what it puts is put on the remote's up link, and
-- the remote is in a case again.
pub record KeepsCase (setting : Setting) (j : ℕ) (v : View) (taken : Option Link)
    (left : RemoteOutcome) : Type 0 where
  pub put : IsPutAt j left.put
  pub case : Case setting (view_moved v left.remote left.put taken)

-- ---- a step at a remote keeps the shape where it keeps the remote's case

-- A step at a remote keeps the shape where it keeps the case of each view from which it is made.
pub IsShaped-remote_step : (setting : Setting) (c : Config) (link : Option Link) (j : ℕ)
    (P : RemoteState → RemoteOutcome → Type 0) (o : StepOutcome) → IsShaped setting c
    → IsTakenAt j link → RemoteMoves c link j P o
    → ((left : RemoteOutcome) → Case setting (view_at setting.protocol c j)
    → P (view_at setting.protocol c j).remote left
    → KeepsCase setting j (view_at setting.protocol c j) link left)
    → IsShaped setting (config_after c o)
IsShaped-remote_step setting c link j P o shaped taken moves keeps =
    let v = view_at setting.protocol c j in
    let same : v.remote ≡ moves.remote =
    get_or_from_slice_get c.remotes j moves.remote nobody moves.there in
    let is : P v.remote moves.left =
    subst (λ (r : RemoteState). P r moves.left) (sym same) moves.is in
    let kept = keeps moves.left (IsShaped-case setting c shaped j moves.within) is in
    subst (λ (so : StepOutcome). IsShaped setting (config_after c so)) (sym moves.outcome)
    (IsShaped-remote_moved setting c link j moves.left moves.within kept.put taken shaped kept.case)

module _ (setting : Setting) (proper : IsProper setting.protocol) (j : ℕ) (v : View)
    (case : Case setting v) where
  -- ---- a local step

  -- the phase after a local step
  tau_phase : (p : Part) → IdlePhase setting v
      → IsInPhase setting (view_moved v (remote_at v.remote p) None None)
  tau_phase p (Rests is) = record {
    phase = Resting;
    has = record {
      awaited = is.has.awaited;
      up = is.has.up;
      down = is.has.down;
      slot = is.has.slot;
      held = is.has.held;
      owed = is.has.owed;
    };
    fits = refl;
  }
  tau_phase p (Comes r is) = record {
    phase = RequestComes r;
    has = record {
      awaited = is.has.awaited;
      up = is.has.up;
      down = is.has.down;
      slot = is.has.slot;
      held = is.has.held;
      owed = is.has.owed;
    };
    fits = refl;
  }
  tau_phase p (InSlot r is) = record {
    phase = RequestInSlot r;
    has = record {
      awaited = is.has.awaited;
      up = is.has.up;
      down = is.has.down;
      slot = is.has.slot;
      held = is.has.held;
      owed = is.has.owed;
    };
    fits = refl;
  }
  tau_phase p (Answered r answer is) = record {
    phase = AnswerGoes r answer;
    has = record {
      awaited = is.has.awaited;
      up = is.has.up;
      down = is.has.down;
      slot = is.has.slot;
      held = is.has.held;
      owed = is.has.owed;
    };
    fits = (refl, is.fits.1);
  }

  -- a remote that communicates is idle
  idle_at : (state : ℕ) → v.remote.place ≡ Comm state → IsIdle v.remote
  idle_at state idle = ap is_idle_place idle

  -- a local step keeps the case
  pub RemoteTau-keeps : (g : ℕ) (left : RemoteOutcome) → RemoteTakesTau setting v.remote g left
      → KeepsCase setting j v None left
  RemoteTau-keeps g left is =
      let part =
      remote_step-part setting.protocol is.state g v.remote.vars is.after proper is.step
      case.typed.vars in
      let phase = idle-phase setting v case.in_phase (idle_at is.state is.idle) in
      subst (KeepsCase setting j v None) (sym is.outcome) (record {
        put = tt;
        case = record {
          in_phase = tau_phase is.after phase;
          typed = record {
            place = part.within;
            vars = part.kinds;
            slot = case.typed.slot;
            up = case.typed.up;
            down = case.typed.down;
          };
        };
      })

  -- ---- the request

  -- the remote that waits by this guard
  abbrev waiting_remote : GuardId → RemoteState
  waiting_remote g = record { place = Trans g; vars = v.remote.vars; slot = None }

  -- the up link with this packet behind the others
  with_last : (packets : List Packet) (last : Packet) → v.up ≡ packets
      → v.up ++ last ∷ [] ≡ packets ++ last ∷ []
  with_last packets last up = ap (λ (ps : List Packet). ps ++ last ∷ []) up

  -- the phase where the request has been sent
  requested_phase : (g : GuardId) (q : Request)
      → WaitsBy setting.protocol q (waiting_remote g) → IdlePhase setting v
      → IsInPhase setting
      (view_moved v (waiting_remote g) (put_on (Up j) (as_packet q)) None)
  requested_phase g q waits (Rests is) = record {
    phase = RequestGoes q;
    has = record {
      awaited = is.has.awaited;
      up = with_last [] (as_packet q) is.has.up;
      down = is.has.down;
      slot = refl;
      held = is.has.held;
      owed = is.has.owed;
    };
    fits = waits;
  }
  requested_phase g q waits (Comes r is) = record {
    phase = RequestsCross q r;
    has = record {
      awaited = is.has.awaited;
      up = with_last [] (as_packet q) is.has.up;
      down = is.has.down;
      slot = refl;
      held = is.has.held;
      owed = is.has.owed;
    };
    fits = waits;
  }
  requested_phase g q waits (InSlot r is) = record {
    phase = RequestCrossed q r;
    has = record {
      awaited = is.has.awaited;
      up = with_last [] (as_packet q) is.has.up;
      down = is.has.down;
      slot = refl;
      held = is.has.held;
      owed = is.has.owed;
    };
    fits = waits;
  }
  requested_phase g q waits (Answered r answer is) = record {
    phase = AnswerThenRequestGo q r answer;
    has = record {
      awaited = is.has.awaited;
      up = with_last (answer ∷ []) (as_packet q) is.has.up;
      down = is.has.down;
      slot = refl;
      held = is.has.held;
      owed = is.has.owed;
    };
    fits = (waits, is.fits.1);
  }

  -- a request that is sent keeps the case
  pub RemoteSend-keeps : (left : RemoteOutcome) → SendsRequest setting j v.remote left
      → KeepsCase setting j v None left
  RemoteSend-keeps left is =
      let g = guard_id is.state is.output.number in
      let rule = is.output.rule in
      let q = request_of is.message in
      let waits =
      waits_at-is setting.protocol v.remote.vars g rule is.message is.there is.gives in
      let given =
      remote_guard-gives setting.protocol is.state is.output.number rule v.remote.vars proper
      is.message is.there case.typed.vars is.gives in
      let typed = IsTypedMessage-given setting.protocol rule.kind is.message given in
      let phase = idle-phase setting v case.in_phase (idle_at is.state is.idle) in
      subst (KeepsCase setting j v None) (sym is.outcome) (record {
        put = refl;
        case = record {
          in_phase = requested_phase g q waits phase;
          typed = record {
            place = IsActiveGuard-output setting.protocol g rule proper is.there is.is_output;
            vars = case.typed.vars;
            slot = tt;
            up = AllByRecursion-push (IsTypedPacket setting.protocol) v.up (as_packet q)
                case.typed.up typed;
            down = case.typed.down;
          };
        };
      })

  -- ---- the answer

  -- a remote with an empty slot whose answer is on its way
  answer_phase : (r : Request) (remote : RemoteState) (answer : Packet)
      → IsIn setting v (RequestInSlot r) → IsIdle remote → remote.slot ≡ None
      → IsAnswerTo setting r answer
      → IsInPhase setting (view_moved v remote (put_on (Up j) answer) None)
  answer_phase r remote answer is idle empty answers = record {
    phase = AnswerGoes r answer;
    has = record {
      awaited = is.has.awaited;
      up = with_last [] answer is.has.up;
      down = is.has.down;
      slot = empty;
      held = is.has.held;
      owed = is.has.owed;
    };
    fits = (idle, answers);
  }

  -- a nack keeps the case
  nacks-keep : (r : Request) (state : ℕ) (left : RemoteOutcome) → IsIn setting v (RequestInSlot r)
      → v.remote.place ≡ Comm state → Nacks setting j v.remote left
      → KeepsCase setting j v None left
  nacks-keep r state left slot idle is =
      subst (KeepsCase setting j v None) (sym is.outcome) (record {
        put = refl;
        case = record {
          in_phase =
              answer_phase r (without_slot v.remote) packet.Nack slot (idle_at state idle) refl
              refl;
          typed = record {
            place = case.typed.place;
            vars = case.typed.vars;
            slot = tt;
            up = AllByRecursion-push (IsTypedPacket setting.protocol) v.up packet.Nack
                case.typed.up tt;
            down = case.typed.down;
          };
        };
      })

  -- the remote has completed the guard of an input whose message has this reply, or none
  answered-keeps : (r : Request) (state g : ℕ) (rule : Rule) (after : Part) (reply : Option ℕ)
      → IsIn setting v (RequestInSlot r) → reply_to setting r.message ≡ reply
      → after.state ≡ rule.next → IsPart setting.protocol.remote after
      → ((p : ℕ) → reply ≡ Some p
      → (owed : IsActiveGuard setting.protocol (guard_id rule.next 0))
      × (due_at setting.protocol (Due (guard_id rule.next 0)) ≡ Some p))
      → KeepsCase setting j v None (answered j after reply)
  answered-keeps r state g rule after None slot no_reply next part owes = record {
    put = refl;
    case = record {
      in_phase =
          answer_phase r (record { place = Comm after.state; vars = after.vars; slot = None })
          packet.Ack slot refl refl (ap (λ (o : Option ℕ). is_answer o packet.Ack) no_reply);
      typed = record {
        place = part.within;
        vars = part.kinds;
        slot = tt;
        up = AllByRecursion-push (IsTypedPacket setting.protocol) v.up packet.Ack case.typed.up tt;
        down = case.typed.down;
      };
    };
  }
  answered-keeps r state g rule after (Some p) slot reply next part owes =
      let owed = owes p refl in
      let back = sym next in
      record {
        put = tt;
        case = record {
          in_phase = record {
            phase = ReplyIsDue r;
            has = record {
              awaited = slot.has.awaited;
              up = slot.has.up;
              down = slot.has.down;
              slot = refl;
              held = slot.has.held;
              owed = slot.has.owed;
            };
            fits = (
              p,
              subst (λ (s : ℕ). due_at setting.protocol (Due (guard_id s 0)) ≡ Some p) back owed.1,
              reply,
            );
          };
          typed = record {
            place = subst (λ (s : ℕ). IsActiveGuard setting.protocol (guard_id s 0)) back owed.0;
            vars = part.kinds;
            slot = tt;
            up = case.typed.up;
            down = case.typed.down;
          };
        };
      }

  -- an answer by a guard keeps the case
  answers-keep : (r : Request) (state : ℕ) (left : RemoteOutcome) → IsIn setting v (RequestInSlot r)
      → IsTypedMessage setting.protocol r.message r.value
      → AnswersBy setting j v.remote state r left
      → KeepsCase setting j v None left
  answers-keep r state left slot typed is =
      let rule = is.guard.rule in
      let g = is.guard.number in
      let protocol = setting.protocol in
      let after = after_guard protocol.remote v.remote.vars rule rule.next 0 r.value in
      let below : 0 < 64 = omega arith in
      let part =
      remote_guard-part protocol proper state g rule v.remote.vars 0 r.value is.there
      case.typed.vars below (input-received protocol.messages rule.kind r.message r.value is.input
      typed.value) in
      subst (KeepsCase setting j v None) (sym is.outcome)
      (answered-keeps r state g rule after (reply_to setting r.message) slot refl refl part
      (λ p reply.
      let leads =
      remote_input-leads protocol setting.mode state g rule r.message p proper reply is.there
      is.input in (
        IsActiveGuard-owed protocol p rule leads,
        due_at-is protocol (guard_id rule.next 0) leads.next p leads.one.there leads.out,
      )))

  -- an answer keeps the case
  pub RemoteAnswer-keeps : (left : RemoteOutcome) → AnswersRequest setting j v.remote left
      → KeepsCase setting j v None left
  RemoteAnswer-keeps left is =
      let slot = slot-phase setting v is.request case.in_phase is.slot in
      let typed : IsTypedMessage setting.protocol is.request.message is.request.value =
      subst (IsTypedSlot setting.protocol) is.slot case.typed.slot in
      elim is.how [
        | inl nacks ↦ nacks-keep is.request is.state left slot is.idle nacks
        | inr answers ↦ answers-keep is.request is.state left slot typed answers
      ]

  -- ---- the reply

  -- a reply keeps the case
  pub RemoteReply-keeps : (left : RemoteOutcome) → SendsReply setting j v.remote left
      → KeepsCase setting j v None left
  RemoteReply-keeps left is =
      let protocol = setting.protocol in
      let g = is.guard in
      let rule = is.rule in
      let due = due-phase setting v g case.in_phase is.due in
      let r = due.0 in
      let fits = due.1.fits in
      let active : IsActiveGuard protocol g =
      subst (IsRemotePlace protocol) is.due case.typed.place in
      let output = (IsActiveGuard-rule protocol g rule active is.there).1 in
      let given =
      remote_guard-gives protocol g.state g.guard rule v.remote.vars proper is.message is.there
      case.typed.vars is.gives in
      let typed = IsTypedMessage-given protocol rule.kind is.message given in
      let below : 0 < 64 = omega arith in
      let part =
      remote_guard-part protocol proper g.state g.guard rule v.remote.vars 0 value.Unit is.there
      case.typed.vars below (output-received protocol.messages rule.kind value.Unit output) in
      let sent : due_at protocol (Due g) ≡ Some is.message.0 =
      due_at-is protocol g rule is.message.0 is.there given.out in
      let same : is.message.0 ≡ fits.0 =
      same_Some is.message.0 fits.0 (sym sent ∙ ap (due_at protocol) (sym is.due) ∙ fits.1) in
      let answers : IsAnswerTo setting r (packet.Reply is.message.0 is.message.1) =
      ap (λ (o : Option ℕ). is_answer o (packet.Reply is.message.0 is.message.1)) fits.2
      ∙ eq-eqb fits.0 is.message.0 (sym same) in
      subst (KeepsCase setting j v None) (sym is.outcome) (record {
        put = refl;
        case = record {
          in_phase = record {
            phase = AnswerGoes r (packet.Reply is.message.0 is.message.1);
            has = record {
              awaited = due.1.has.awaited;
              up = with_last [] (packet.Reply is.message.0 is.message.1) due.1.has.up;
              down = due.1.has.down;
              slot = due.1.has.slot;
              held = due.1.has.held;
              owed = due.1.has.owed;
            };
            fits = (refl, answers);
          };
          typed = record {
            place = part.within;
            vars = part.kinds;
            slot = case.typed.slot;
            up = AllByRecursion-push (IsTypedPacket protocol) v.up
                (packet.Reply is.message.0 is.message.1) case.typed.up typed;
            down = case.typed.down;
          };
        };
      })

-- ---- the four kinds of step

module _ (setting : Setting) (proper : IsProper setting.protocol) (c : Config) (j : ℕ)
    (o : StepOutcome) (shaped : IsShaped setting c) where
  -- A local step of a remote keeps the shape.
  pub IsShaped-RemoteTau : (g : ℕ) → outcome setting c (step.RemoteTau j g) ≡ Some o
      → IsShaped setting (config_after c o)
  IsShaped-RemoteTau g did =
      IsShaped-remote_step setting c None j (λ remote left. RemoteTakesTau setting remote g left) o
      shaped tt (RemoteTau-outcome setting c j g o did)
      (λ left case is.
      RemoteTau-keeps setting proper j (view_at setting.protocol c j) case g left is)

  -- A request of a remote keeps the shape.
  pub IsShaped-RemoteSend : outcome setting c (step.RemoteSend j) ≡ Some o
      → IsShaped setting (config_after c o)
  IsShaped-RemoteSend did =
      IsShaped-remote_step setting c None j (SendsRequest setting j) o shaped tt
      (RemoteSend-outcome setting c j o did)
      (λ left case is.
      RemoteSend-keeps setting proper j (view_at setting.protocol c j) case left is)

  -- An answer of a remote keeps the shape.
  pub IsShaped-RemoteAnswer : outcome setting c (step.RemoteAnswer j) ≡ Some o
      → IsShaped setting (config_after c o)
  IsShaped-RemoteAnswer did =
      IsShaped-remote_step setting c None j (AnswersRequest setting j) o shaped tt
      (RemoteAnswer-outcome setting c j o did)
      (λ left case is.
      RemoteAnswer-keeps setting proper j (view_at setting.protocol c j) case left is)

  -- A reply of a remote keeps the shape.
  pub IsShaped-RemoteReply : outcome setting c (step.RemoteReply j) ≡ Some o
      → IsShaped setting (config_after c o)
  IsShaped-RemoteReply did =
      IsShaped-remote_step setting c None j (SendsReply setting j) o shaped tt
      (RemoteReply-outcome setting c j o did)
      (λ left case is.
      RemoteReply-keeps setting proper j (view_at setting.protocol c j) case left is)

-- The places that steps leave: they are in range, name outputs, and stand for the requests and
-- replies that are sent.
use Rattle.std.proofs.Common.{◌≡◌, ℕ, ◌+◌, ◌<◌, ◌≤◌, true, List, [], ◌∷◌, length, Option, Some}
use Rattle.std.proofs.Common.{slice_get, refl, sym, ap, subst, ◌∙◌, arith}
use Rattle.std.specs.Option.{option_and_then}
use Rattle.std.proofs.lemmas.Option.{same_Some}
use Rattle.proto_model.specs.Numbered.{NumberedProtocol}
use Rattle.proto_model.specs.Proper.{IsProper, is_output_kind}
use Rattle.proto_model.specs.Guards.{guards_of, guard_at}
use Rattle.proto_model.specs.Values.{is_open, may_meet}
use Rattle.proto_model.specs.ValueTypes.{AreOfKinds, message_out}
use Rattle.proto_model.specs.RendezvousNext.{given}
use Rattle.proto_model.specs.declared.numbered.Value.{Value}
use Rattle.proto_model.specs.declared.numbered.Value.TheVariants as value
use Rattle.proto_model.specs.declared.numbered.RuleKind.{RuleKind}
use Rattle.proto_model.specs.declared.numbered.Rule.{Rule}
use Rattle.proto_model.specs.declared.rendezvous.Part.{Part}
use Rattle.proto_model.proofs.ProperFacts.{active-only, LeadsToReply, IsGiven, tau-received}
use Rattle.controller_table.specs.Rows.{guard_id}
use Rattle.controller_table.specs.declared.rows.GuardId.{GuardId}
use Rattle.controller_table.specs.declared.rows.Place.{Place}
use Rattle.controller_table.specs.declared.rows.Place.TheVariants.{Comm, Trans, Due}
use Rattle.slot_reserve.specs.declared.held.Held.{Held}
use Rattle.async_shape.specs.Setting.{Setting}
use Rattle.async_shape.specs.Guards.{guard_by, request_of}
use Rattle.async_shape.specs.HomeSteps.{home_waiting}
use Rattle.async_shape.specs.Phase.{waits_at, due_at, IsActiveGuard, IsTypedMessage}
use Rattle.async_shape.specs.Shape.{IsWaitingHome}
use Rattle.async_shape.specs.declared.config.HomeState.{HomeState}
use Rattle.async_shape.specs.declared.config.Waiting.{Waiting}
use Rattle.async_shape.specs.declared.config.Request.{Request}
use Rattle.async_shape.proofs.GuardsFound.{guards_of-at, IsLocalStep}
use Rattle.async_shape.proofs.Completed.{IsPart, IsRequestBy, request_by-some, request_by-is}
use Rattle.async_shape.proofs.Completed.{home_guard-part, remote_guard-part}

-- a pair is made of its parts
pair-parts : (message : ℕ × Value)
    → ◌≡◌ {A = Option (ℕ × Value)} (Some message) (Some (message.0, message.1))
pair-parts (m, v) = refl

module _ (protocol : NumberedProtocol) where
  -- ---- the guard by which a remote waits or is due

  -- An output of a remote is the one guard of its state.
  pub IsActiveGuard-output : (g : GuardId) (rule : Rule) → IsProper protocol
      → guard_by protocol.remote g ≡ Some rule → is_output_kind rule.kind ≡ true
      → IsActiveGuard protocol g
  IsActiveGuard-output g rule proper there output =
      let only = active-only protocol g.state g.guard rule proper there output in
      (rule, only.guards, only.number, output)

  -- The reply that an input owes is sent by the one guard of the state to which it goes.
  pub IsActiveGuard-owed : (p : ℕ) (rule : Rule) → LeadsToReply protocol p rule
      → IsActiveGuard protocol (guard_id rule.next 0)
  IsActiveGuard-owed p rule owes = (owes.next, owes.one.guards, refl, owes.output)

  -- the guard of an active state is there
  active-at : (g : GuardId) (active : IsActiveGuard protocol g)
      → guard_by protocol.remote g ≡ Some active.0
  active-at g active =
      sym (guards_of-at protocol.remote g.state g.guard)
      ∙ ap (λ (rules : List Rule). slice_get rules g.guard) active.1
      ∙ ap (λ (k : ℕ). slice_get (active.0 ∷ []) k) active.2

  -- The guard that is named is that output.
  pub IsActiveGuard-rule : (g : GuardId) (rule : Rule) → IsActiveGuard protocol g
      → guard_by protocol.remote g ≡ Some rule
      → (guards_of protocol.remote g.state ≡ rule ∷ []) × (is_output_kind rule.kind ≡ true)
  IsActiveGuard-rule g rule active there =
      let same : active.0 ≡ rule =
      same_Some active.0 rule (sym (active-at g active) ∙ there) in (
        active.1 ∙ ap (λ (r : Rule). r ∷ []) same,
        subst (λ (r : Rule). is_output_kind r.kind ≡ true) same active.3,
      )

  -- so it is, and it is an output
  pub IsActiveGuard-there : (g : GuardId) → IsActiveGuard protocol g
      → (rule : Rule) × (guard_by protocol.remote g ≡ Some rule)
      × (is_output_kind rule.kind ≡ true)
  IsActiveGuard-there g active = (active.0, active-at g active, active.3)

  -- ---- the request by which a remote waits, and the reply that it is due to send

  -- what a remote that waits by a guard asks is what the guard gives
  pub waits_at-is : (vars : List Value) (g : GuardId) (rule : Rule) (message : ℕ × Value)
      → guard_by protocol.remote g ≡ Some rule
      → given protocol.messages vars rule.kind ≡ Some message
      → waits_at protocol vars (Trans g) ≡ Some (request_of message)
  waits_at-is vars g rule message there gives =
      request_by-is protocol.messages protocol.remote vars g rule message there gives

  -- A remote that waits by a request stands in the transient place of the guard that gives it.
  pub waits_at-some : (vars : List Value) (place : Place) (q : Request)
      → waits_at protocol vars place ≡ Some q
      → (g : GuardId) × (place ≡ Trans g)
      × IsRequestBy protocol.messages protocol.remote vars g q
  waits_at-some vars (Comm state) q e = absurd (cc)
  waits_at-some vars (Trans g) q e =
      (g, refl, request_by-some protocol.messages protocol.remote vars g q e)
  waits_at-some vars (Due g) q e = absurd (cc)

  -- what a remote is due to send is the message of its guard
  pub due_at-is : (g : GuardId) (rule : Rule) (p : ℕ) → guard_by protocol.remote g ≡ Some rule
      → message_out rule.kind ≡ Some p → due_at protocol (Due g) ≡ Some p
  due_at-is g rule p there out =
      ap (option_and_then (λ (r : Rule). message_out r.kind)) there ∙ out

  -- what an output gives is typed
  pub IsTypedMessage-given : (kind : RuleKind) (message : ℕ × Value)
      → IsGiven protocol.messages kind message → IsTypedMessage protocol message.0 message.1
  IsTypedMessage-given kind message is = record { message = is.there; value = is.value }

  -- ---- local steps

  -- a local step of the home leads to a state that is there, with each variable of its type
  pub home_step-part : (state g : ℕ) (vars : List Value) (after : Part) → IsProper protocol
      → IsLocalStep protocol.home state vars g after → AreOfKinds protocol.home.vars vars
      → IsPart protocol.home after
  home_step-part state g vars after proper step kinds =
      let below : 0 < 64 = omega arith in
      subst (IsPart protocol.home) (sym step.outcome)
      (home_guard-part protocol proper state g step.rule vars 0 value.Unit step.there kinds below
      (tau-received protocol.messages step.rule.kind value.Unit step.tau))

  -- so does one of a remote
  pub remote_step-part : (state g : ℕ) (vars : List Value) (after : Part) → IsProper protocol
      → IsLocalStep protocol.remote state vars g after → AreOfKinds protocol.remote.vars vars
      → IsPart protocol.remote after
  remote_step-part state g vars after proper step kinds =
      let below : 0 < 64 = omega arith in
      subst (IsPart protocol.remote) (sym step.outcome)
      (remote_guard-part protocol proper state g step.rule vars 0 value.Unit step.there kinds below
      (tau-received protocol.messages step.rule.kind value.Unit step.tau))

-- ---- a home that has sent a request

-- where the home waits after it has sent the request
abbrev pub waiting_by : ℕ → ℕ → ℕ → Value → Waiting
waiting_by state g j v = record { by = guard_id state g; on = j; sent = v }

-- A home that has sent a request waits as the shape says.
pub IsWaitingHome-asked : (setting : Setting) (n : ℕ) (home : HomeState) (held : List Held)
    (g j state : ℕ) (rule : Rule) (message : ℕ × Value)
    → guard_at setting.protocol.home state g ≡ Some rule → is_open home.vars rule ≡ true
    → j < n → may_meet home.vars rule.kind j ≡ true
    → given setting.protocol.messages home.vars rule.kind ≡ Some message
    → length held + 2 ≤ setting.slots
    → IsWaitingHome setting.protocol setting.slots n
    (home_waiting home (guard_id state g) j message.1) held (waiting_by state g j message.1)
IsWaitingHome-asked setting n home held g j state rule sent there passes within meets gives room =
    record {
      rule = rule;
      there = there;
      passes = passes;
      remote = within;
      target = meets;
      message = sent.0;
      sends = gives ∙ pair-parts sent;
      few_held = omega arith;
      progress = λ full. absurd (omega arith);
    }

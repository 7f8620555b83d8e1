-- A remote that waits by a request: the guard that gives the request is number 0 of the state that
-- it left.
use Rattle.std.proofs.Common.{◌≡◌, ℕ, Some, sym, ap, subst, ◌∙◌}
use Rattle.proto_model.specs.Numbered.{NumberedProtocol}
use Rattle.proto_model.specs.Proper.{IsProper}
use Rattle.proto_model.specs.Guards.{guard_at}
use Rattle.proto_model.specs.ValueTypes.{message_out}
use Rattle.proto_model.specs.RendezvousNext.{given}
use Rattle.proto_model.specs.declared.numbered.Rule.{Rule}
use Rattle.controller_table.specs.declared.rows.GuardId.{GuardId}
use Rattle.controller_table.specs.declared.rows.Place.TheVariants.{Trans}
use Rattle.async_shape.specs.Guards.{guard_by}
use Rattle.async_shape.specs.View.{View}
use Rattle.async_shape.specs.Phase.{IsActiveGuard, IsRemotePlace, IsTypedView, WaitsBy}
use Rattle.async_shape.specs.declared.config.Request.{Request}
use Rattle.proto_model.proofs.ProperFacts.{remote_guard-gives}
use Rattle.async_shape.proofs.Places.{waits_at-some}

-- The remote waits by this guard, which gives q, and is number 0 of its state.
pub record WaitsToGive (protocol : NumberedProtocol) (v : View) (q : Request) : Type 0 where
  pub guard : GuardId
  pub waits : v.remote.place ≡ Trans guard
  pub rule : Rule
  pub there : guard_by protocol.remote guard ≡ Some rule
  pub first : guard_at protocol.remote guard.state 0 ≡ Some rule
  pub gives : given protocol.messages v.remote.vars rule.kind ≡ Some (q.message, q.value)
  pub out : message_out rule.kind ≡ Some q.message

-- A remote that waits by q gives it by such a guard.
pub waits-to_give : (protocol : NumberedProtocol) (v : View) (q : Request) → IsProper protocol
    → IsTypedView protocol v → WaitsBy protocol q v.remote → WaitsToGive protocol v q
waits-to_give protocol v q proper typed waits =
    let by = waits_at-some protocol v.remote.vars v.remote.place q waits in
    let guard = by.0 in
    let of = by.2 in
    let active : IsActiveGuard protocol guard = subst (IsRemotePlace protocol) by.1 typed.place in
    let gives : given protocol.messages v.remote.vars of.rule.kind ≡ Some (q.message, q.value) =
    of.gives ∙ sym (ap (λ (r : Request). Some (r.message, r.value)) of.request) in
    let is =
    remote_guard-gives protocol guard.state guard.guard of.rule v.remote.vars proper
    (q.message, q.value) of.there typed.vars gives in
    record {
      guard = guard;
      waits = by.1;
      rule = of.rule;
      there = of.there;
      first =
          subst (λ (g : ℕ). guard_at protocol.remote guard.state g ≡ Some of.rule) active.2
          of.there;
      gives = gives;
      out = is.out;
    }

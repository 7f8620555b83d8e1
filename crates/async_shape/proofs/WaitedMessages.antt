-- The messages of the requests by which the home and a remote wait: the home's go down, and a
-- remote's go up.
use Rattle.std.proofs.Common.{◌≡◌, ℕ, true, ◌==◌, List, Some, slice_get, sym, ap, subst, ◌∙◌}
use Rattle.std.specs.Option.{option_map}
use Rattle.rv_base.proofs.Lists.{some_map, some_and_then}
use Rattle.proto_model.specs.Numbered.{NumberedProtocol}
use Rattle.proto_model.specs.Proper.{IsProper}
use Rattle.proto_model.specs.Pairs.{goes_up, goes_down}
use Rattle.proto_model.specs.ValueTypes.{message_out}
use Rattle.proto_model.specs.Values.{sends}
use Rattle.proto_model.specs.RendezvousNext.{given}
use Rattle.proto_model.specs.declared.numbered.Value.{Value}
use Rattle.proto_model.specs.declared.numbered.RuleKind.{RuleKind}
use Rattle.proto_model.specs.declared.numbered.MessageInfo.{MessageInfo}
use Rattle.async_shape.specs.Guards.{request_by}
use Rattle.async_shape.specs.View.{awaited_at}
use Rattle.async_shape.specs.Phase.{WaitsBy}
use Rattle.async_shape.specs.declared.config.HomeState.{HomeState}
use Rattle.async_shape.specs.declared.config.HomePlace.{HomePlace}
use Rattle.async_shape.specs.declared.config.HomePlace.TheVariants.{Idle, Waits}
use Rattle.async_shape.specs.declared.config.RemoteState.{RemoteState}
use Rattle.async_shape.specs.declared.config.Request.{Request}
use Rattle.proto_model.proofs.ProperFacts.{home_output-down, remote_output-up}
use Rattle.async_shape.proofs.GuardsFound.{when_some}
use Rattle.async_shape.proofs.Completed.{request_by-some}
use Rattle.async_shape.proofs.Places.{waits_at-some}

-- the message that a guard gives is that of its output
pub given-out : (messages : List MessageInfo) (vars : List Value) (kind : RuleKind)
    (message : ℕ × Value) → given messages vars kind ≡ Some message
    → message_out kind ≡ Some message.0
given-out messages vars kind message gives =
    let send : ℕ → MessageInfo → ℕ × Value = λ place m. (place, sends vars kind m.carries) in
    let by =
    some_and_then (λ place. option_map (send place) (slice_get messages place)) (message_out kind)
    message gives in
    let of = some_map (send by.0) (slice_get messages by.0) message by.2 in
    by.1 ∙ ap (λ (pair : ℕ × Value). Some pair.0) of.2

module _ (protocol : NumberedProtocol) (proper : IsProper protocol) where
  -- the request that the home waits for a remote to answer is of a down message
  pub awaited-down : (home : HomeState) (place : HomePlace) (j : ℕ) (r : Request)
      → awaited_at protocol home place j ≡ Some r → goes_down protocol r.message ≡ true
  awaited-down home (Idle state) j r awaits = absurd (cc)
  awaited-down home (Waits waiting) j r awaits =
      let by = waiting.by in
      let asked = request_by protocol.messages protocol.home home.vars by in
      let asks = when_some (waiting.on == j) asked r awaits in
      let of = request_by-some protocol.messages protocol.home home.vars by r asks.1 in
      let down =
      home_output-down protocol by.state by.guard of.rule proper of.message.0 of.there
      (given-out protocol.messages home.vars of.rule.kind of.message of.gives) in
      subst (λ (q : Request). goes_down protocol q.message ≡ true) (sym of.request) down

  -- the request by which a remote waits is of an up message
  pub waits-up : (q : Request) (remote : RemoteState) → WaitsBy protocol q remote
      → goes_up protocol q.message ≡ true
  waits-up q remote waits =
      let at = waits_at-some protocol remote.vars remote.place q waits in
      let by = at.0 in
      let of = at.2 in
      let up =
      remote_output-up protocol by.state by.guard of.rule proper of.message.0 of.there
      (given-out protocol.messages remote.vars of.rule.kind of.message of.gives) in
      subst (λ (r : Request). goes_up protocol r.message ≡ true) (sym of.request) up

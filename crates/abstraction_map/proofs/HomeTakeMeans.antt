-- The home takes a held request: remote j gives its message by guard 0, and the home takes it.
use Rattle.std.proofs.Common.{◌≡◌, ◌≢◌, ℕ, ◌<◌, true, length, Option, Some, None, is_some, List}
use Rattle.std.proofs.Common.{slice_get, refl, sym, ap, ap₂, subst, ◌∙◌}
use Rattle.std.specs.Option.{option_map, option_and_then}
use Rattle.proto_model.specs.Numbered.{NumberedProtocol}
use Rattle.proto_model.specs.Proper.{IsProper}
use Rattle.proto_model.specs.Guards.{part, guard_at, after_guard}
use Rattle.proto_model.specs.RendezvousNext.{given}
use Rattle.proto_model.specs.declared.numbered.Value.{Value}
use Rattle.proto_model.specs.declared.numbered.Value.TheVariants as value
use Rattle.proto_model.specs.declared.numbered.Rule.{Rule}
use Rattle.proto_model.specs.declared.rendezvous.Part.{Part}
use Rattle.proto_model.specs.declared.rendezvous.RvConfig.{RvConfig}
use Rattle.proto_model.specs.declared.rendezvous.Event.TheVariants as event
use Rattle.slot_reserve.specs.Requests.{first_of}
use Rattle.slot_reserve.specs.declared.held.Held.{Held}
use Rattle.ordered_links.specs.declared.packet.Packet.{Packet}
use Rattle.ordered_links.specs.declared.packet.Packet.TheVariants as packet
use Rattle.async_shape.specs.Setting.{Setting, reply_to}
use Rattle.async_shape.specs.Config.{Config, count_of, owed_to}
use Rattle.async_shape.specs.Guards.{Chosen}
use Rattle.async_shape.specs.Requests.{Taking, taking_guard}
use Rattle.async_shape.specs.Outcome.{HomeOutcome, home_at}
use Rattle.async_shape.specs.HomeSteps.{request_taken}
use Rattle.async_shape.specs.Next.{StepOutcome, home_moved, outcome}
use Rattle.async_shape.specs.View.{View, held_request, view_at}
use Rattle.async_shape.specs.Phase.{RequestIsHeld}
use Rattle.async_shape.specs.Shape.{IsShaped}
use Rattle.async_shape.specs.declared.config.Request.{Request}
use Rattle.async_shape.specs.declared.step.Step.TheVariants as step
use Rattle.async_shape.proofs.ShapeParts.{IsShaped-whole, IsShaped-case}
use Rattle.async_shape.proofs.HomeInversion.{TakesHeld}
use Rattle.async_shape.proofs.StepInversion.{HomeTake-outcome}
use Rattle.async_shape.proofs.Phases.{IsIn, held-phase}
use Rattle.async_shape.proofs.LinksAfter.{IsPutAt}
use Rattle.async_shape.proofs.Frame.{owing-own, owing-other}
use Rattle.abstraction_map.specs.Abstraction.{NotGranted, Granted, fate_in, abstraction}
use Rattle.abstraction_map.specs.Told.{take_event}
use Rattle.abstraction_map.proofs.Fates.{fate_in-put, fate_in-packets_of, remote_fate-is}
use Rattle.abstraction_map.proofs.ByCase.{home_stands, remote_stands, home-idle, part-waiting}
use Rattle.abstraction_map.proofs.ByCase.{waiting_part-granted}
use Rattle.async_shape.proofs.ShapeParts.{links-there}
use Rattle.abstraction_map.proofs.Frames.{parts-at}
use Rattle.abstraction_map.proofs.Events.{Up-is}
use Rattle.abstraction_map.proofs.Behind.{LeadsTo, IsBehind}
use Rattle.abstraction_map.proofs.WaitingRemote.{WaitsToGive, waits-to_give}
use Rattle.abstraction_map.proofs.HomeStepAt.{after, fate_left, both-moved}

module _ (setting : Setting) (c : Config) (j : ℕ) (debts : j < length c.home.owed) where
  -- the protocol
  abbrev protocol : NumberedProtocol
  protocol = setting.protocol

  -- the view of j before the step
  abbrev now : View
  now = view_at setting.protocol c j

  -- what the home leaves that stands so behind the guard, where this is the reply to the request
  abbrev taken : Part → Option ℕ → HomeOutcome
  taken p reply = request_taken c.held j (home_at c.home p) reply

  -- a put, if there is one, is on the down link of j
  taken-put : (p : Part) (reply : Option ℕ) → IsPutAt j (taken p reply).put
  taken-put p None = refl
  taken-put p (Some m) = tt

  -- the home stands behind the guard
  taken-home : (p : Part) (reply : Option ℕ)
      → home_stands protocol (after protocol c j (taken p reply)) ≡ p
  taken-home p None = home-idle protocol (after protocol c j (taken p None)) p.state refl
  taken-home p (Some m) = home-idle protocol (after protocol c j (taken p (Some m))) p.state refl

  -- to the other remotes is owed what was
  taken-others : (p : Part) (reply : Option ℕ) (q : ℕ) → q ≢ j
      → owed_to (taken p reply).home q ≡ owed_to c.home q
  taken-others p None q apart = refl
  taken-others p (Some m) q apart = owing-other (home_at c.home p) j q (Some m) apart

  -- The request was granted: by the ack that is put, or by the debt.
  taken-fate : (p : Part) (reply : Option ℕ) (q : Request) (old : Option Request)
      → IsIn setting now (RequestIsHeld q old) → fate_left protocol c j (taken p reply) ≡ Granted
  taken-fate p None q old is =
      fate_in-put now.down packet.Ack (is_some now.owed)
      (remote_fate-is setting now (RequestIsHeld q old) is)
  taken-fate p (Some m) q old is =
      ap₂ (λ (down : List Packet) (owed : Option ℕ). fate_in down (is_some owed)) is.has.down
      (owing-own (home_at c.home p) j (Some m) debts)
      ∙ fate_in-packets_of old true

-- Remote j gives this message by this guard.
pub record RemoteGives (protocol : NumberedProtocol) (config : RvConfig) (j r : ℕ)
    (message : ℕ × Value) : Type 0 where
  pub remote : Part
  pub there : slice_get config.remotes j ≡ Some remote
  pub rule : Rule
  pub guard : guard_at protocol.remote remote.state r ≡ Some rule
  pub gives : given protocol.messages remote.vars rule.kind ≡ Some message

module _ (setting : Setting) (proper : IsProper setting.protocol) (c : Config)
    (shaped : IsShaped setting c) (j : ℕ) (within : j < count_of c) (o : HomeOutcome)
    (is : TakesHeld setting (count_of c) c.home c.held j o) where
  -- the held request, and the guard by which j waits
  held_by : (old : Option Request)
      × IsIn setting (view_at setting.protocol c j) (RequestIsHeld (held_request is.request) old)
  held_by =
      held-phase setting (view_at setting.protocol c j) (held_request is.request)
      (IsShaped-case setting c shaped j within).in_phase
      (ap (option_map held_request) is.first)

  -- what is held of j is the request by which it waits
  waits_to : WaitsToGive setting.protocol (view_at setting.protocol c j) (held_request is.request)
  waits_to =
      waits-to_give setting.protocol (view_at setting.protocol c j) (held_request is.request) proper
      (IsShaped-case setting c shaped j within).typed held_by.1.fits.0

  -- where j stands: in the state that it left
  stood : remote_stands setting.protocol c j
      ≡ part waits_to.guard.state (view_at setting.protocol c j).remote.vars
  stood =
      part-waiting setting.protocol.remote (view_at setting.protocol c j) waits_to.guard NotGranted
      waits_to.waits
      (remote_fate-is setting (view_at setting.protocol c j)
      (RequestIsHeld (held_request is.request) held_by.0) held_by.1)

  -- Remote j gives the held request's message and value by its guard 0.
  taken-gives : RemoteGives setting.protocol (abstraction setting.protocol c) j 0
      (is.request.message, is.request.value)
  taken-gives = record {
    remote = part waits_to.guard.state (view_at setting.protocol c j).remote.vars;
    there =
        parts-at (count_of c) (remote_stands setting.protocol c) j within
        ∙ ap (λ (p : Part). Some p) stood;
    rule = waits_to.rule;
    guard = waits_to.first;
    gives = waits_to.gives;
  }

  -- the event that is told
  taken-event : take_event setting.protocol c j ≡ Some (event.Up j is.guard.number 0)
  taken-event =
      let n = count_of c in
      let body = setting.protocol.home in
      let make : Held → Chosen → Taking =
      λ request guard. record { request = request; guard = guard } in
      ap
      (λ (first : Option Held).
      option_map (λ (what : Taking). event.Up j what.guard.number 0)
      (option_and_then (λ request. option_map (make request) (taking_guard n body c.home request))
      first)) is.first
      ∙ ap
      (λ (chosen : Option Chosen).
      option_map (λ (what : Taking). event.Up j what.guard.number 0)
      (option_map (make is.request) chosen)) is.chosen

  -- The event that is told leads from the abstraction before to the one after.
  HomeTake-behind : IsBehind setting c (step.HomeTake j) (home_moved c None o)
  HomeTake-behind =
      let whole = IsShaped-whole setting c shaped in
      let linked = links-there setting c shaped j within in
      let debts : j < length c.home.owed = subst (λ (n : ℕ). j < n) (sym whole.debts) within in
      let now = view_at setting.protocol c j in
      let w = waits_to in
      let input = is.guard.rule in
      let sent = is.request.value in
      let p = after_guard setting.protocol.home c.home.vars input input.next j sent in
      let reply = reply_to setting is.request.message in
      let left = taken setting c j debts p reply in
      let remote = part w.guard.state now.remote.vars in
      let remote_after =
      after_guard setting.protocol.remote now.remote.vars w.rule w.rule.next 0 value.Unit in
      let both =
      both-moved setting.protocol c j left (taken-put setting c j debts p reply) linked is.state
      w.guard NotGranted Granted remote p remote_after within is.idle w.waits
      (remote_fate-is setting now (RequestIsHeld (held_request is.request) held_by.0) held_by.1)
      refl (taken-home setting c j debts p reply)
      (taken-fate setting c j debts p reply (held_request is.request) held_by.0 held_by.1)
      (waiting_part-granted setting.protocol.remote now.remote.vars w.guard 0 w.rule w.there)
      (taken-others setting c j debts p reply) in
      let up =
      Up-is setting.protocol c (after setting.protocol c j left) j is.guard.number 0
      (part is.state c.home.vars) remote w.rule input (is.request.message, sent) both w.first
      w.gives is.there is.input is.passes is.target in
      subst (λ (so : HomeOutcome). IsBehind setting c (step.HomeTake j) (home_moved c None so))
      (sym is.outcome)
      (subst
      (LeadsTo setting.protocol (abstraction setting.protocol c)
      (abstraction setting.protocol (after setting.protocol c j left))) (sym taken-event) up)

module _ (setting : Setting) (proper : IsProper setting.protocol) (c : Config)
    (shaped : IsShaped setting c) (j : ℕ) where
  -- HomeTake(j) means what is told of it.
  pub HomeTake-means : (o : StepOutcome) → outcome setting c (step.HomeTake j) ≡ Some o
      → IsBehind setting c (step.HomeTake j) o
  HomeTake-means o did =
      let at = HomeTake-outcome setting c j o did in
      subst (IsBehind setting c (step.HomeTake j)) (sym at.1.outcome)
      (HomeTake-behind setting proper c shaped j at.0 at.1.left at.1.is)

  -- The request that is held of j is what remote j gives by its guard 0.
  pub take-gives : (o : StepOutcome) → outcome setting c (step.HomeTake j) ≡ Some o
      → (request : Held) × (first_of j c.held ≡ Some request)
      × RemoteGives setting.protocol (abstraction setting.protocol c) j 0
      (request.message, request.value)
  take-gives o did =
      let at = HomeTake-outcome setting c j o did in
      let is = at.1.is in (
        is.request,
        is.first,
        taken-gives setting proper c shaped j at.0 at.1.left is,
      )

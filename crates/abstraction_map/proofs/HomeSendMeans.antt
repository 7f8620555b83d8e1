-- The home sends: a reply that it owes is given by the guard and taken by the remote's guard 0; a
-- request is a stutter.
use Rattle.std.proofs.Common.{◌≡◌, inl, inr, ℕ, ◌<◌, false, length, Option, Some, None}
use Rattle.std.proofs.Common.{option_map, List, [], ◌∷◌, ◌++◌, is_some, refl, sym, ap, subst, ◌∙◌}
use Rattle.proto_model.specs.Proper.{IsProper}
use Rattle.proto_model.specs.Guards.{part, after_guard}
use Rattle.proto_model.specs.declared.numbered.Value.TheVariants as value
use Rattle.controller_table.specs.Rows.{guard_id}
use Rattle.ordered_links.specs.declared.packet.Packet.{Packet}
use Rattle.ordered_links.specs.declared.packet.Packet.TheVariants as packet
use Rattle.async_shape.specs.Setting.{Setting}
use Rattle.async_shape.specs.Config.{Config, count_of}
use Rattle.async_shape.specs.Outcome.{HomeOutcome, home_at}
use Rattle.async_shape.specs.HomeSteps.{paid, requested}
use Rattle.async_shape.specs.Next.{StepOutcome, home_moved, outcome}
use Rattle.async_shape.specs.View.{View, awaited_at, held_request, view_at}
use Rattle.async_shape.specs.Phase.{Resting, RequestGoes, AnswerComes, ReplyIsOwed}
use Rattle.async_shape.specs.Shape.{IsShaped}
use Rattle.async_shape.specs.declared.config.HomePlace.{HomePlace}
use Rattle.async_shape.specs.declared.step.Step.TheVariants as step
use Rattle.async_shape.proofs.ShapeParts.{IsShaped-whole, IsShaped-case}
use Rattle.async_shape.proofs.HomeInversion.{Pays, Asks, SendsTo}
use Rattle.async_shape.proofs.StepInversion.{HomeSend-outcome}
use Rattle.proto_model.proofs.ProperFacts.{AwaitsReply, remote_output-awaits}
use Rattle.async_shape.proofs.Phases.{OwesReply, owed-phase, free-phase, FreePhase, FreeRests}
use Rattle.async_shape.proofs.Phases.{FreeGoes, FreeComes}
use Rattle.async_shape.proofs.Places.{waiting_by}
use Rattle.async_shape.proofs.Frame.{owing-own, owing-other}
use Rattle.abstraction_map.specs.Abstraction.{NotGranted, Granted, Replied, fate_in, awaited_fate}
use Rattle.abstraction_map.specs.Abstraction.{abstraction}
use Rattle.abstraction_map.specs.Told.{send_event}
use Rattle.abstraction_map.proofs.Fates.{fate_in-put, fate_in-put_request, fate_in-packets_of}
use Rattle.abstraction_map.proofs.Fates.{remote_fate-is, awaited_fate-is}
use Rattle.abstraction_map.proofs.ByCase.{home-idle, home-waiting}
use Rattle.abstraction_map.proofs.ByCase.{waiting_part-granted, waiting_part-replied}
use Rattle.async_shape.proofs.ShapeParts.{links-there}
use Rattle.abstraction_map.proofs.Frames.{LooksSame, abstraction-same, looks-all}
use Rattle.abstraction_map.proofs.Events.{Down-is}
use Rattle.abstraction_map.proofs.Behind.{LeadsTo, IsBehind}
use Rattle.abstraction_map.proofs.WaitingRemote.{WaitsToGive, waits-to_give}
use Rattle.abstraction_map.proofs.HomeStepAt.{after, fate_left, both-moved, left-looks, others-look}

-- Where nothing is under way that concerns the home's request, it was not granted.
free-fate : (setting : Setting) (v : View) → FreePhase setting v → awaited_fate v ≡ NotGranted
free-fate setting v (FreeRests is) = awaited_fate-is setting v Resting is
free-fate setting v (FreeGoes q is) = awaited_fate-is setting v (RequestGoes q) is
free-fate setting v (FreeComes q old answer is) =
    awaited_fate-is setting v (AnswerComes q old answer None) is

module _ (setting : Setting) (proper : IsProper setting.protocol) (c : Config)
    (shaped : IsShaped setting c) (g j : ℕ) (within : j < count_of c) (o : HomeOutcome)
    (sends : SendsTo setting (count_of c) c.home c.held g j o) where
  -- j has links
  linked : j < length c.links
  linked = links-there setting c shaped j within

  -- j has a place among the debts
  owed_there : j < length c.home.owed
  owed_there = subst (λ (n : ℕ). j < n) (sym (IsShaped-whole setting c shaped).debts) within

  -- ---- the reply that is owed

  module _ (pays : Pays setting c.home c.held j sends.rule sends.message o) where
    -- the reply is owed to the request by which j waits
    owed_by : OwesReply setting (view_at setting.protocol c j) sends.message.0
    owed_by =
        owed-phase setting (view_at setting.protocol c j) sends.message.0
        (IsShaped-case setting c shaped j within).in_phase pays.owed

    -- the guard by which j waits
    pays_to : WaitsToGive setting.protocol (view_at setting.protocol c j) owed_by.0
    pays_to =
        waits-to_give setting.protocol (view_at setting.protocol c j) owed_by.0 proper
        (IsShaped-case setting c shaped j within).typed owed_by.2.fits.0

    -- it leads to the guard that takes the reply
    takes_it : AwaitsReply setting.protocol sends.message.0 pays_to.rule
    takes_it =
        remote_output-awaits setting.protocol setting.mode pays_to.guard.state pays_to.guard.guard
        pays_to.rule owed_by.0.message sends.message.0 proper owed_by.2.fits.2 pays_to.there
        pays_to.out

    -- The reply is under way, and nothing is owed.
    paid-fate : fate_left setting.protocol c j
        (paid setting c.home c.held j sends.rule sends.message)
        ≡ Replied sends.message.1
    paid-fate =
        let now = view_at setting.protocol c j in
        let rule = sends.rule in
        let p = after_guard setting.protocol.home c.home.vars rule rule.next j value.Unit in
        let answer = packet.Reply sends.message.0 sends.message.1 in
        ap (λ (owed : Option ℕ). fate_in (now.down ++ answer ∷ []) (is_some owed))
        (owing-own (home_at c.home p) j None owed_there)
        ∙ fate_in-put now.down answer false
        (ap (λ (down : List Packet). fate_in down false) owed_by.2.has.down
        ∙ fate_in-packets_of owed_by.1 false)

    -- The event that is told leads from the abstraction before to the one after.
    pays-behind : IsBehind setting c (step.HomeSend g j) (home_moved c None o)
    pays-behind =
        let protocol = setting.protocol in
        let now = view_at protocol c j in
        let rule = sends.rule in
        let message = sends.message in
        let p = after_guard protocol.home c.home.vars rule rule.next j value.Unit in
        let left = paid setting c.home c.held j rule message in
        let w = pays_to in
        let next = takes_it.next in
        let remote =
        after_guard protocol.remote now.remote.vars w.rule w.rule.next 0 value.Unit in
        let remote_after =
        after_guard protocol.remote remote.vars next next.next 0 message.1 in
        let both =
        both-moved protocol c j left refl linked sends.state w.guard Granted (Replied message.1)
        remote p remote_after within sends.idle w.waits
        (remote_fate-is setting now (ReplyIsOwed owed_by.0 owed_by.1 message.0) owed_by.2)
        (waiting_part-granted protocol.remote now.remote.vars w.guard 0 w.rule w.there)
        (home-idle protocol (after protocol c j left) p.state refl) paid-fate
        (waiting_part-replied protocol.remote now.remote.vars w.guard 0 w.rule w.there next
        message.1 takes_it.one.only)
        (λ q apart. owing-other (home_at c.home p) j q None apart) in
        let down =
        Down-is protocol c (after protocol c j left) j g 0 (part sends.state c.home.vars) remote
        rule next message both sends.there sends.passes sends.target sends.gives takes_it.one.there
        takes_it.free.input (takes_it.free.passes remote.vars) in
        subst (λ (so : HomeOutcome). IsBehind setting c (step.HomeSend g j) (home_moved c None so))
        (sym pays.outcome)
        (subst
        (LeadsTo protocol (abstraction protocol c) (abstraction protocol (after protocol c j left)))
        (sym (ap (send_event g j) pays.owed)) down)

  -- ---- a request

  module _ (asks : Asks setting (count_of c) c.home c.held j (guard_id sends.state g)
      sends.message o) where
    -- what the home leaves that asks j
    abbrev asked : HomeOutcome
    asked = requested c.home c.held j (guard_id sends.state g) sends.message

    -- A request that is put behind the others changes nothing of what became of another.
    asked-looks : LooksSame setting.protocol c (after setting.protocol c j asked) j
    asked-looks =
        let now = view_at setting.protocol c j in
        left-looks setting.protocol c j asked refl linked
        (fate_in-put_request now.down sends.message.0 sends.message.1 (is_some now.owed)) refl

    -- the home's request was not granted
    asked-fate : awaited_fate (view_at setting.protocol c j) ≡ NotGranted
    asked-fate =
        let now = view_at setting.protocol c j in
        free-fate setting now
        (free-phase setting now (IsShaped-case setting c shaped j within).in_phase
        (ap (λ (place : HomePlace). awaited_at setting.protocol c.home place j) sends.idle)
        (ap (option_map held_request) asks.none_held) asks.owed)

    -- The abstraction stays as it is.
    asks-behind : IsBehind setting c (step.HomeSend g j) (home_moved c None o)
    asks-behind =
        let protocol = setting.protocol in
        let d = after protocol c j asked in
        let waiting = waiting_by sends.state g j sends.message.1 in
        let looks =
        looks-all protocol c d j asked-looks
        (others-look protocol c j asked refl linked (λ q apart. refl)) in
        let same =
        abstraction-same protocol c d refl
        (home-waiting protocol d j waiting NotGranted refl refl (asked-looks.awaited ∙ asked-fate)
        ∙ sym (home-idle protocol c sends.state sends.idle))
        (λ q. (looks q).part) in
        subst (λ (so : HomeOutcome). IsBehind setting c (step.HomeSend g j) (home_moved c None so))
        (sym asks.outcome)
        (subst (LeadsTo protocol (abstraction protocol c) (abstraction protocol d))
        (sym (ap (send_event g j) asks.owed)) same)

  -- either of the two
  HomeSend-behind : IsBehind setting c (step.HomeSend g j) (home_moved c None o)
  HomeSend-behind = elim sends.how [ inl pays ↦ pays-behind pays | inr asks ↦ asks-behind asks ]

module _ (setting : Setting) (proper : IsProper setting.protocol) (c : Config)
    (shaped : IsShaped setting c) (g j : ℕ) where
  -- HomeSend(g, j) means what is told of it.
  pub HomeSend-means : (o : StepOutcome) → outcome setting c (step.HomeSend g j) ≡ Some o
      → IsBehind setting c (step.HomeSend g j) o
  HomeSend-means o did =
      let at = HomeSend-outcome setting c g j o did in
      subst (IsBehind setting c (step.HomeSend g j)) (sym at.1.outcome)
      (HomeSend-behind setting proper c shaped g j at.0 at.1.left at.1.is)

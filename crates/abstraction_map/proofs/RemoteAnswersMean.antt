-- What a remote does with the request in its slot means what is told of it: by a guard that takes
-- the request, it is the event of that guard and the one by which the home waits; a nack is a
-- stutter; and a reply is the event of the two only guards.
use Rattle.std.proofs.Common.{◌≡◌, ℕ, ◌<◌, true, false, List, [], ◌∷◌, ◌++◌, length-set, Option}
use Rattle.std.proofs.Common.{Some, None, slice_get, refl, sym, ap, ap₂, subst, inl, inr, ◌∙◌}
use Rattle.std.specs.Option.{option_and_then}
use Rattle.std.proofs.lemmas.Bool.{eq-eqb}
use Rattle.std.proofs.lemmas.Option.{same_Some}
use Rattle.proto_model.specs.Numbered.{NumberedProtocol}
use Rattle.proto_model.specs.Proper.{IsProper}
use Rattle.proto_model.specs.Guards.{part, guard_at, after_guard}
use Rattle.proto_model.specs.Values.{may_meet}
use Rattle.proto_model.specs.ValueTypes.{AreOfKinds, message_in}
use Rattle.proto_model.specs.declared.numbered.Value.{Value}
use Rattle.proto_model.specs.declared.numbered.Value.TheVariants as value
use Rattle.proto_model.specs.declared.numbered.Rule.{Rule}
use Rattle.proto_model.specs.declared.rendezvous.Part.{Part}
use Rattle.proto_model.specs.declared.rendezvous.Event.{Event}
use Rattle.proto_model.specs.declared.rendezvous.Event.TheVariants as event
use Rattle.controller_table.specs.declared.rows.Place.TheVariants.{Comm}
use Rattle.ordered_links.specs.Link.{Up}
use Rattle.ordered_links.specs.declared.packet.Packet.{Packet}
use Rattle.ordered_links.specs.declared.packet.Packet.TheVariants as packet
use Rattle.async_shape.specs.Setting.{Setting, reply_to}
use Rattle.async_shape.specs.Config.{Config, count_of}
use Rattle.async_shape.specs.Guards.{Chosen, answering_guard}
use Rattle.async_shape.specs.Outcome.{RemoteOutcome, at_remote, put_on, without_slot}
use Rattle.async_shape.specs.RemoteSteps.{answered, replied}
use Rattle.async_shape.specs.Next.{StepOutcome, remote_moved, outcome}
use Rattle.async_shape.specs.View.{View, view_at}
use Rattle.async_shape.specs.Phase.{RequestInSlot, ReplyIsDue, IsRemotePlace, IsActiveGuard, due_at}
use Rattle.async_shape.specs.Phase.{Case}
use Rattle.async_shape.specs.Shape.{IsWhole, IsShaped}
use Rattle.async_shape.specs.declared.config.HomePlace.{HomePlace}
use Rattle.async_shape.specs.declared.config.HomePlace.TheVariants.{Idle, Waits}
use Rattle.async_shape.specs.declared.config.Request.{Request}
use Rattle.async_shape.specs.declared.step.Step.TheVariants as step
use Rattle.proto_model.proofs.ProperFacts.{home_guard-gives, remote_guard-gives}
use Rattle.proto_model.proofs.ProperFacts.{AwaitsReplyFrom, home_output-awaits}
use Rattle.proto_model.proofs.PartnerRemembered.{home_output-remembers}
use Rattle.async_shape.proofs.ShapeParts.{IsShaped-whole, IsShaped-case}
use Rattle.async_shape.proofs.Places.{due_at-is}
use Rattle.async_shape.proofs.Phases.{IsIn, slot-phase, due-phase}
use Rattle.async_shape.proofs.LinksAfter.{IsPutAt}
use Rattle.async_shape.proofs.RemoteInversion.{Nacks, AnswersBy, AnswersRequest, SendsReply}
use Rattle.async_shape.proofs.StepInversion.{RemoteAnswer-outcome, RemoteReply-outcome}
use Rattle.abstraction_map.specs.Abstraction.{Granted, Replied, fate_in, is_due, awaited_fate}
use Rattle.abstraction_map.specs.Abstraction.{part_in_view, abstraction}
use Rattle.abstraction_map.specs.Told.{answer_event, answering, event_behind}
use Rattle.abstraction_map.proofs.Fates.{fate_in-put_nack, awaited_fate-is}
use Rattle.abstraction_map.proofs.ByCase.{home_stands, part-idle, part-due, home-granted}
use Rattle.abstraction_map.proofs.ByCase.{home-replied, home-in_phase, waits-for}
use Rattle.abstraction_map.proofs.Frames.{after_remote, view_after}
use Rattle.abstraction_map.proofs.Frames.{remote_step-view, remote_step-others, remote_step-stutter}
use Rattle.abstraction_map.proofs.Events.{BothMoved, Up-is, Down-is}
use Rattle.abstraction_map.proofs.Behind.{LeadsTo, IsBehind, IsBehind-remote_step}

-- A nack is no event.
nacked-event : (j : ℕ) (place : HomePlace) → answer_event j place None ≡ None
nacked-event j (Idle state) = refl
nacked-event j (Waits waiting) = refl

-- The home, which has sent a request to j and waits for the reply, may meet j.
reply-target : (protocol : NumberedProtocol) (state g : ℕ) (rule : Rule) (p j : ℕ)
    (vars : List Value) → IsProper protocol → guard_at protocol.home state g ≡ Some rule
    → AreOfKinds protocol.home.vars vars → (awaits : AwaitsReplyFrom protocol p rule)
    → may_meet vars rule.kind j ≡ true
    → may_meet (after_guard protocol.home vars rule rule.next j value.Unit).vars awaits.next.kind j
    ≡ true
reply-target protocol state g rule p j vars proper there kinds awaits meets =
    home_output-remembers protocol state g rule p j j vars value.Unit proper there kinds awaits
    meets
    ∙ eq-eqb j j refl

-- ---- remote j, which is there

module _ (setting : Setting) (proper : IsProper setting.protocol) (c : Config)
    (shaped : IsShaped setting c) (j : ℕ) (within : j < count_of c) where
  -- the view of j
  abbrev now : View
  now = view_at setting.protocol c j

  -- its case
  case : Case setting now
  case = IsShaped-case setting c shaped j within

  -- the part for the whole
  whole : IsWhole setting c
  whole = IsShaped-whole setting c shaped

  -- the configuration after a step that leaves this at the remote
  abbrev after : RemoteOutcome → Config
  after left = after_remote c None j left

  -- the view of the remote then
  abbrev moved : RemoteOutcome → View
  moved left = view_after setting.protocol c None j left

  -- where the home stands before and after, and so the remote, the others are as they were
  both_moved : (o : RemoteOutcome) → IsPutAt j o.put → (home remote home_after remote_after : Part)
      → home_stands setting.protocol c ≡ home
      → home_stands setting.protocol (after o) ≡ home_after
      → part_in_view setting.protocol.remote now ≡ remote
      → part_in_view setting.protocol.remote (moved o) ≡ remote_after
      → BothMoved setting.protocol c (after o) j home remote home_after remote_after
  both_moved o put home remote home_after remote_after home_was home_is remote_was remote_is =
      record {
        within = within;
        count = length-set c.remotes j o.remote;
        home_was = home_was;
        home_is = home_is;
        remote_was = remote_was;
        remote_is =
            ap (part_in_view setting.protocol.remote)
            (remote_step-view setting c shaped None j within o put tt)
            ∙ remote_is;
        others = λ q apart.
            (remote_step-others setting c shaped None j within o put tt q apart).part;
      }

  -- ---- the answer

  -- what is behind the answer, where this event is, or none
  answer-behind : (e : Option Event) (left o : RemoteOutcome) → left ≡ o
      → event_behind setting.protocol c (step.RemoteAnswer j) ≡ e
      → LeadsTo setting.protocol (abstraction setting.protocol c)
      (abstraction setting.protocol (after o)) e
      → IsBehind setting c (step.RemoteAnswer j) (remote_moved c None j left)
  answer-behind e left o outcome_is event_is leads =
      subst
      (λ (l : RemoteOutcome). IsBehind setting c (step.RemoteAnswer j) (remote_moved c None j l))
      (sym outcome_is)
      (subst
      (LeadsTo setting.protocol (abstraction setting.protocol c)
      (abstraction setting.protocol (after o))) (sym event_is) leads)

  -- the guard by which the remote answers
  answering-is : (o : Option Chosen) → slice_get c.remotes j ≡ Some now.remote
      → answering_guard setting.protocol.remote now.remote ≡ o
      → answering setting.protocol c j ≡ o
  answering-is o there chosen =
      ap (option_and_then (answering_guard setting.protocol.remote)) there ∙ chosen

  -- a nack is a stutter
  nacks-by : (state : ℕ) (left : RemoteOutcome) → slice_get c.remotes j ≡ Some now.remote
      → now.remote.place ≡ Comm state → Nacks setting j now.remote left
      → IsBehind setting c (step.RemoteAnswer j) (remote_moved c None j left)
  nacks-by state left there idle is =
      let body = setting.protocol.remote in
      let o = at_remote (without_slot now.remote) (put_on (Up j) packet.Nack) in
      answer-behind None left o is.outcome
      (ap (answer_event j c.home.place) (answering-is None there is.none)
      ∙ nacked-event j c.home.place)
      (remote_step-stutter setting c shaped None j within o refl tt
      (fate_in-put_nack now.up (is_due now.remote.place))
      (part-idle body (moved o) state idle ∙ sym (part-idle body now state idle)))

  -- the remote has completed a guard and stands here; the message that it took has this reply, or
  -- none
  module _ (p : Part) where
    -- an answer is put on the links of j
    answered-put : (reply : Option ℕ) → IsPutAt j (answered j p reply).put
    answered-put None = refl
    answered-put (Some m) = tt

    -- j stands where the guard leads
    answered-part : (reply : Option ℕ)
        → part_in_view setting.protocol.remote (moved (answered j p reply)) ≡ p
    answered-part None = refl
    answered-part (Some m) = refl

    -- j has granted the home's request
    answered-granted : (reply : Option ℕ) → now.up ≡ []
        → awaited_fate (moved (answered j p reply)) ≡ Granted
    answered-granted None none =
        ap (λ (ps : List Packet). fate_in (ps ++ packet.Ack ∷ []) false) none
    answered-granted (Some m) none = ap (λ (ps : List Packet). fate_in ps true) none

  -- an answer by a guard is an event
  answers-by : (state : ℕ) (r : Request) (left : RemoteOutcome)
      → slice_get c.remotes j ≡ Some now.remote → now.remote.place ≡ Comm state
      → IsIn setting now (RequestInSlot r) → AnswersBy setting j now.remote state r left
      → IsBehind setting c (step.RemoteAnswer j) (remote_moved c None j left)
  answers-by state r left there idle slot is =
      let protocol = setting.protocol in
      let body = protocol.remote in
      let reply = reply_to setting r.message in
      let rule = is.guard.rule in
      let p = after_guard body now.remote.vars rule rule.next 0 r.value in
      let o = answered j p reply in
      let put = answered-put p reply in
      let view = remote_step-view setting c shaped None j within o put tt in
      let w = waits-for setting c j r whole slot.has.awaited in
      let home = part w.waiting.by.state c.home.vars in
      let home_after = after_guard protocol.home c.home.vars w.rule w.rule.next j value.Unit in
      let remote = part state now.remote.vars in
      let home_was =
      home-in_phase setting c j w.waiting (RequestInSlot r) w.waits w.on slot in
      let home_is =
      home-granted protocol (after o) j w.waiting w.rule w.waits w.on w.there
      (ap awaited_fate view ∙ answered-granted p reply slot.has.up) in
      let both =
      both_moved o put home remote home_after p home_was home_is (part-idle body now state idle)
      (answered-part p reply) in
      answer-behind (Some (event.Down j w.waiting.by.guard is.guard.number)) left o is.outcome
      (ap₂ (answer_event j) w.waits (answering-is (Some is.guard) there is.chosen))
      (Down-is protocol c (after o) j w.waiting.by.guard is.guard.number home remote w.rule rule
      (r.message, r.value) both w.there w.passes w.target w.gives is.there is.input is.passes)

  -- an answer is one of both
  RemoteAnswer-by : (left : RemoteOutcome) → slice_get c.remotes j ≡ Some now.remote
      → AnswersRequest setting j now.remote left
      → IsBehind setting c (step.RemoteAnswer j) (remote_moved c None j left)
  RemoteAnswer-by left there is =
      let slot = slot-phase setting now is.request case.in_phase is.slot in
      elim is.how [
        | inl nacks ↦ nacks-by is.state left there is.idle nacks
        | inr answers ↦ answers-by is.state is.request left there is.idle slot answers
      ]

  -- ---- the reply

  -- a reply is a stutter
  RemoteReply-by : (left : RemoteOutcome) → SendsReply setting j now.remote left
      → IsBehind setting c (step.RemoteReply j) (remote_moved c None j left)
  RemoteReply-by left is =
      let protocol = setting.protocol in
      let body = protocol.remote in
      let g = is.guard in
      let m = is.message in
      let due = due-phase setting now g case.in_phase is.due in
      let r = due.0 in
      let p = due.1.fits.0 in
      let w = waits-for setting c j r whole due.1.has.awaited in
      let by = w.waiting.by in
      let asked =
      home_guard-gives protocol by.state by.guard w.rule c.home.vars proper (r.message, r.value)
      w.there whole.home_vars w.gives in
      let awaits =
      home_output-awaits protocol setting.mode by.state by.guard w.rule r.message p proper
      due.1.fits.2 w.there asked.out in
      let next = awaits.next in
      let home = after_guard protocol.home c.home.vars w.rule w.rule.next j value.Unit in
      let home_after = after_guard protocol.home home.vars next next.next j m.1 in
      let remote = part g.state now.remote.vars in
      let remote_after =
      after_guard body now.remote.vars is.rule is.rule.next 0 value.Unit in
      let o = replied setting j now.remote is.rule m in
      let view = remote_step-view setting c shaped None j within o refl tt in
      let replies : awaited_fate (moved o) ≡ Replied m.1 =
      ap (λ (ps : List Packet). fate_in (ps ++ packet.Reply m.0 m.1 ∷ []) false) due.1.has.up in
      let home_was =
      home-granted protocol c j w.waiting w.rule w.waits w.on w.there
      (awaited_fate-is setting now (ReplyIsDue r) due.1) in
      let home_is =
      home-replied protocol (after o) j w.waiting w.rule w.waits w.on w.there next m.1
      awaits.one.only (ap awaited_fate view ∙ replies) in
      let both =
      both_moved o refl home remote home_after remote_after home_was home_is
      (part-due body now g is.due) refl in
      let active : IsActiveGuard protocol g =
      subst (IsRemotePlace protocol) is.due case.typed.place in
      let sends =
      remote_guard-gives protocol g.state g.guard is.rule now.remote.vars proper m is.there
      case.typed.vars is.gives in
      let same : p ≡ m.0 =
      same_Some p m.0
      (sym due.1.fits.1 ∙ ap (due_at protocol) is.due
      ∙ due_at-is protocol g is.rule m.0 is.there sends.out) in
      let target =
      reply-target protocol by.state by.guard w.rule p j c.home.vars proper w.there whole.home_vars
      awaits w.target in
      subst
      (λ (l : RemoteOutcome). IsBehind setting c (step.RemoteReply j) (remote_moved c None j l))
      (sym is.outcome)
      (Up-is protocol c (after o) j 0 0 home remote is.rule next m both
      (subst (λ (k : ℕ). guard_at body g.state k ≡ Some is.rule) active.2 is.there) is.gives
      awaits.one.there
      (subst (λ (n : ℕ). message_in next.kind ≡ Some n) same awaits.free.input)
      (awaits.free.passes home.vars) target)

-- ---- the two kinds of step

module _ (setting : Setting) (proper : IsProper setting.protocol) (c : Config)
    (shaped : IsShaped setting c) (j : ℕ) where
  -- RemoteAnswer(j) means what is told of it.
  pub RemoteAnswer-means : (o : StepOutcome) → outcome setting c (step.RemoteAnswer j) ≡ Some o
      → IsBehind setting c (step.RemoteAnswer j) o
  RemoteAnswer-means o did =
      IsBehind-remote_step setting c None j (step.RemoteAnswer j) (AnswersRequest setting j) o
      (RemoteAnswer-outcome setting c j o did)
      (λ left within there is. RemoteAnswer-by setting proper c shaped j within left there is)

  -- RemoteReply(j) means what is told of it.
  pub RemoteReply-means : (o : StepOutcome) → outcome setting c (step.RemoteReply j) ≡ Some o
      → IsBehind setting c (step.RemoteReply j) o
  RemoteReply-means o did =
      IsBehind-remote_step setting c None j (step.RemoteReply j) (SendsReply setting j) o
      (RemoteReply-outcome setting c j o did)
      (λ left within there is. RemoteReply-by setting proper c shaped j within left is)

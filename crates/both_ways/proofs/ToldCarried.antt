-- Each event that is told of a step is carried: the home takes a held request by the first guard
-- that takes it, and a remote answers by the first that takes the request; where else a guard is
-- named it is number 0.
use Rattle.std.proofs.Common.{◌≡◌, ℕ, ◌<◌, ◌&&◌, Bool, List, Option, Some, None}
use Rattle.std.proofs.Common.{is_some, slice_get, refl, sym, ap, ap₂, subst, inl, inr, ◌∙◌, arith}
use Rattle.std.specs.Option.{option_map, option_and_then}
use Rattle.std.proofs.lemmas.Bool.{lt-ltb}
use Rattle.std.proofs.lemmas.Option.{same_Some, none-some}
use Rattle.rv_base.proofs.Lists.{some_and_then}
use Rattle.proto_model.specs.Numbered.{NumberedProtocol}
use Rattle.proto_model.specs.Proper.{IsProper}
use Rattle.proto_model.specs.Values.{may_meet}
use Rattle.proto_model.specs.ValueTypes.{message_out}
use Rattle.proto_model.specs.Guards.{part, guards_of, guard_at}
use Rattle.proto_model.specs.RendezvousNext.{given, accepts}
use Rattle.proto_model.specs.declared.numbered.Value.{Value}
use Rattle.proto_model.specs.declared.numbered.MessageInfo.{MessageInfo}
use Rattle.proto_model.specs.declared.numbered.Rule.{Rule}
use Rattle.proto_model.specs.declared.numbered.Body.{Body}
use Rattle.proto_model.specs.declared.rendezvous.Part.{Part}
use Rattle.proto_model.specs.declared.rendezvous.RvConfig.{RvConfig}
use Rattle.proto_model.specs.declared.rendezvous.Event.{Event}
use Rattle.proto_model.specs.declared.rendezvous.Event.TheVariants as event
use Rattle.controller_table.specs.declared.rows.Place.{Place}
use Rattle.controller_table.specs.declared.rows.Place.TheVariants.{Comm}
use Rattle.slot_reserve.specs.declared.held.Held.{Held}
use Rattle.async_shape.specs.Setting.{Setting}
use Rattle.async_shape.specs.Config.{Config, count_of, owed_to}
use Rattle.async_shape.specs.Guards.{Chosen, first_that, answering_guard, idle_state}
use Rattle.async_shape.specs.Requests.{completes_guard, Taking, taking_guard, state_of_home}
use Rattle.async_shape.specs.Outcome.{HomeOutcome, RemoteOutcome}
use Rattle.async_shape.specs.Next.{StepOutcome, config_after, outcome}
use Rattle.async_shape.specs.Run.{after_step}
use Rattle.async_shape.specs.Shape.{IsShaped}
use Rattle.async_shape.specs.declared.config.HomePlace.{HomePlace}
use Rattle.async_shape.specs.declared.config.HomePlace.TheVariants.{Idle, Waits}
use Rattle.async_shape.specs.declared.config.RemoteState.{RemoteState}
use Rattle.async_shape.specs.declared.config.Request.{Request}
use Rattle.async_shape.specs.declared.config.Waiting.{Waiting}
use Rattle.async_shape.specs.declared.step.Step.{Step}
use Rattle.async_shape.specs.declared.step.Step.TheVariants as step
use Rattle.async_shape.proofs.WaitedMessages.{given-out}
use Rattle.async_shape.proofs.HomeInversion.{TakesHeld}
use Rattle.async_shape.proofs.RemoteInversion.{AnswersBy}
use Rattle.async_shape.proofs.StepInversion.{HomeTake-outcome, RemoteAnswer-outcome}
use Rattle.abstraction_map.specs.Abstraction.{abstraction}
use Rattle.abstraction_map.specs.Told.{event_or_stutter, send_event, answer_event, take_event}
use Rattle.abstraction_map.specs.Told.{answering, event_behind, told_if, told}
use Rattle.abstraction_map.specs.declared.told.Told.TheVariants.{Is}
use Rattle.abstraction_map.proofs.ByCase.{home-idle}
use Rattle.abstraction_map.proofs.HomeTakeMeans.{RemoteGives, take-gives}
use Rattle.abstraction_map.proofs.EventsGive.{given_by_part, answer-gives}
use Rattle.abstraction_map.proofs.Refined.{shaped-refined}
use Rattle.every_run.proofs.ToldLeads.{told-takes_place}
use Rattle.both_ways.specs.Carried.{NoneBefore, home_takes, remote_takes, message_by}
use Rattle.both_ways.specs.Carried.{up_message, AreCompleted, Carried}
use Rattle.both_ways.proofs.NoneBefore.{first_that-first}

-- ---- the event that is told

told-event : (o : Option Event) (e : Event) → event_or_stutter o ≡ Is e → o ≡ Some e
told-event (Some f) e told = cc
told-event None e told = absurd (cc)

-- Where a step is told as an event, it has an outcome, and the event is behind it.
told-is : (setting : Setting) (c : Config) (s : Step) (e : Event) → told setting c s ≡ Is e
    → (o : StepOutcome) × (outcome setting c s ≡ Some o)
    × (event_behind setting.protocol c s ≡ Some e)
told-is setting c s e = by_outcome (outcome setting c s) refl where
  by_outcome : (of : Option StepOutcome) → outcome setting c s ≡ of
      → told_if setting.protocol c (is_some (option_map (config_after c) of)) s ≡ Is e
      → (o : StepOutcome) × (outcome setting c s ≡ Some o)
      × (event_behind setting.protocol c s ≡ Some e)
  by_outcome None did is = absurd (cc)
  by_outcome (Some o) did is = (o, did, told-event (event_behind setting.protocol c s) e is)

-- the event of a reply that is owed
sent-event : (g j : ℕ) (owed : Option ℕ) (e : Event) → send_event g j owed ≡ Some e
    → event.Down j g 0 ≡ e
sent-event g j (Some p) e sends = cc
sent-event g j None e sends = absurd (cc)

-- the event of an answer
answered-event : (j : ℕ) (place : HomePlace) (input : Chosen) (e : Event)
    → answer_event j place (Some input) ≡ Some e
    → (waiting : Waiting) × (place ≡ Waits waiting)
    × (event.Down j waiting.by.guard input.number ≡ e)
answered-event j (Idle state) input e is = absurd (cc)
answered-event j (Waits waiting) input e is = (waiting, refl, cc)

-- a nack is no event
nacked-event : (j : ℕ) (place : HomePlace) → answer_event j place None ≡ None
nacked-event j (Idle state) = refl
nacked-event j (Waits waiting) = refl

-- ---- the message that is given

-- remote j gives this message
gives-up : (protocol : NumberedProtocol) (config : RvConfig) (j r : ℕ) (message : ℕ × Value)
    → RemoteGives protocol config j r message → up_message protocol config j r ≡ Some message.0
gives-up protocol config j r message is =
    ap (option_and_then (λ (p : Part). message_by protocol.remote p r)) is.there
    ∙ ap (option_and_then (λ (rule : Rule). message_out rule.kind)) is.guard
    ∙ given-out protocol.messages is.remote.vars is.rule.kind message is.gives

-- a process gives this message
gives-by : (messages : List MessageInfo) (body : Body) (p : Part) (g : ℕ) (message : ℕ × Value)
    → given_by_part messages body p g ≡ Some message → message_by body p g ≡ Some message.0
gives-by messages body p g message is =
    let by =
    some_and_then (λ (rule : Rule). given messages p.vars rule.kind) (guard_at body p.state g)
    message is in
    ap (option_and_then (λ (rule : Rule). message_out rule.kind)) by.1
    ∙ given-out messages p.vars by.0.kind message by.2

-- ---- the first guard that takes it

-- The home, which stands so, takes the request by the first guard that the request completes.
home-first : (body : Body) (state : ℕ) (vars : List Value) (home : Part) (n j m g : ℕ)
    (request : Held) → home ≡ part state vars → j < n → request.from ≡ j → request.message ≡ m
    → NoneBefore (completes_guard n vars request) (guards_of body state) g
    → NoneBefore (home_takes home j m) (guards_of body home.state) g
home-first body state vars home n j m g request stands within sender message none =
    subst (λ (p : Part). NoneBefore (home_takes p j m) (guards_of body p.state) g) (sym stands)
    (λ i rule before there. same rule ∙ none i rule before there)
  where
    same : (rule : Rule)
        → (accepts vars rule m && may_meet vars rule.kind j) ≡ completes_guard n vars request rule
    same rule = rw (sender, message, lt-ltb j n within) refl

-- The remote, which stands so, answers by the first guard that takes the request.
remote-first : (body : Body) (state : ℕ) (vars : List Value) (remote : Part) (m p g : ℕ)
    → part state vars ≡ remote → p ≡ m
    → NoneBefore (λ (rule : Rule). accepts vars rule p) (guards_of body state) g
    → NoneBefore (remote_takes remote m) (guards_of body remote.state) g
remote-first body state vars remote m p g stands message none =
    subst (λ (q : Part). NoneBefore (remote_takes q m) (guards_of body q.state) g) stands
    (subst (λ (k : ℕ). NoneBefore (λ (rule : Rule). accepts vars rule k) (guards_of body state) g)
    message none)

-- nothing is in front of guard 0
none-before_first : (test : Rule → Bool) (rules : List Rule) → NoneBefore test rules 0
none-before_first test rules i rule before there = absurd (omega (arith, before))

module _ (setting : Setting) (proper : IsProper setting.protocol) (c : Config)
    (shaped : IsShaped setting c) (o : StepOutcome) (e : Event) where
  -- what the configuration stands for
  abbrev stands_for : RvConfig
  stands_for = abstraction setting.protocol c

  -- the guards of this event are completed
  abbrev Completed : Event → Type 0
  Completed f = AreCompleted setting.protocol stands_for f

  -- ---- a held request is taken

  -- the event of it
  taken-event : (j : ℕ) (left : HomeOutcome)
      → (is : TakesHeld setting (count_of c) c.home c.held j left)
      → take_event setting.protocol c j ≡ Some (event.Up j is.guard.number 0)
  taken-event j left is =
      let n = count_of c in
      let body = setting.protocol.home in
      let make : Held → Chosen → Taking =
      λ request guard. record { request = request; guard = guard } in
      ap
      (λ (first : Option Held).
      option_map (λ (what : Taking). event.Up j what.guard.number 0)
      (option_and_then (λ request. option_map (make request) (taking_guard n body c.home request))
      first)) is.first
      ∙ ap
      (λ (chosen : Option Chosen).
      option_map (λ (what : Taking). event.Up j what.guard.number 0)
      (option_map (make is.request) chosen)) is.chosen

  take-completed : (j : ℕ) → outcome setting c (step.HomeTake j) ≡ Some o
      → take_event setting.protocol c j ≡ Some e → Completed e
  take-completed j did behind =
      let protocol = setting.protocol in
      let body = protocol.home in
      let n = count_of c in
      let vars = c.home.vars in
      let at = HomeTake-outcome setting c j o did in
      let is = at.1.is in
      let same : event.Up j is.guard.number 0 ≡ e =
      same_Some (event.Up j is.guard.number 0) e (sym (taken-event j at.1.left is) ∙ behind) in
      let takes = completes_guard n vars is.request in
      let chosen : first_that takes (guards_of body is.state) ≡ Some is.guard =
      ap (λ (place : HomePlace). first_that takes (guards_of body (state_of_home place)))
      (sym is.idle)
      ∙ is.chosen in
      let none = first_that-first takes (guards_of body is.state) is.guard chosen in
      let held = take-gives setting proper c shaped j o did in
      let request : held.0 ≡ is.request =
      same_Some held.0 is.request (sym held.1 ∙ is.first) in
      let gives =
      gives-up protocol stands_for j 0 (held.0.message, held.0.value) held.2 in
      subst Completed same
      (λ m given.
      let message : is.request.message ≡ m =
      ap (λ (r : Held). r.message) (sym request)
      ∙ same_Some held.0.message m (sym gives ∙ given) in
      home-first body is.state vars stands_for.home n j m is.guard.number is.request
      (home-idle protocol c is.state is.idle) at.0 is.sender message none)

  -- ---- the request in the slot is answered

  -- by a guard
  by-guard : (j : ℕ) (remote : RemoteState) (left : RemoteOutcome) (state : ℕ) (request : Request)
      → slice_get c.remotes j ≡ Some remote → remote.place ≡ Comm state
      → remote.slot ≡ Some request → AnswersBy setting j remote state request left
      → answer_event j c.home.place (answering setting.protocol c j) ≡ Some e → Completed e
  by-guard j remote left state request there idle slot is behind =
      let protocol = setting.protocol in
      let body = protocol.remote in
      let answers : answering protocol c j ≡ Some is.guard =
      ap (option_and_then (answering_guard body)) there ∙ is.chosen in
      let at =
      answered-event j c.home.place is.guard e
      (sym (ap (answer_event j c.home.place) answers) ∙ behind) in
      let waiting = at.0 in
      let takes : Rule → Bool = λ rule. accepts remote.vars rule request.message in
      let chosen : first_that takes (guards_of body state) ≡ Some is.guard =
      sym
      (ap₂
      (λ (place : Place) (s : Option Request).
      option_and_then (λ state.
      option_and_then
      (λ (r : Request).
      first_that (λ rule. accepts remote.vars rule r.message) (guards_of body state)) s)
      (idle_state place))
      idle slot)
      ∙ is.chosen in
      let none = first_that-first takes (guards_of body state) is.guard chosen in
      let gives =
      gives-by protocol.messages protocol.home stands_for.home waiting.by.guard
      (request.message, request.value)
      (answer-gives setting c shaped j remote there request waiting slot at.1) in
      let stands = (shaped-refined setting c shaped proper).remotes j state remote there idle in
      subst Completed at.2
      (λ m p given at_p.
      remote-first body state remote.vars p m request.message is.guard.number
      (same_Some (part state remote.vars) p (sym stands ∙ at_p))
      (same_Some request.message m (sym gives ∙ given)) none)

  answer-completed : (j : ℕ) → outcome setting c (step.RemoteAnswer j) ≡ Some o
      → answer_event j c.home.place (answering setting.protocol c j) ≡ Some e → Completed e
  answer-completed j did behind =
      let at = RemoteAnswer-outcome setting c j o did in
      let is = at.is in
      elim is.how [
        | inl nacks ↦
            absurd (none-some e
            (sym (nacked-event j c.home.place)
            ∙ sym
            (ap (answer_event j c.home.place)
            (ap (option_and_then (answering_guard setting.protocol.remote)) at.there ∙ nacks.none))
            ∙ behind))
        | inr answers ↦
            by-guard j at.remote at.left is.state is.request at.there is.idle is.slot answers
            behind
      ]

  -- ---- each kind of step

  told-completed : (s : Step) → outcome setting c s ≡ Some o
      → event_behind setting.protocol c s ≡ Some e → Completed e
  told-completed (step.HomeTau g) did behind =
      subst Completed (same_Some (event.TauHome g) e behind) tt
  told-completed (step.HomeTake j) did behind = take-completed j did behind
  told-completed (step.HomeSend g j) did behind =
      subst Completed (sent-event g j (owed_to c.home j) e behind)
      (λ m remote given there.
      none-before_first (remote_takes remote m) (guards_of setting.protocol.remote remote.state))
  told-completed (step.HomeDrop j) did behind = absurd (cc)
  told-completed (step.RemoteTau j g) did behind =
      subst Completed (same_Some (event.TauRemote j g) e behind) tt
  told-completed (step.RemoteSend j) did behind = absurd (cc)
  told-completed (step.RemoteAnswer j) did behind = answer-completed j did behind
  told-completed (step.RemoteReply j) did behind =
      subst Completed (same_Some (event.Up j 0 0) e behind)
      (λ m given.
      none-before_first (home_takes stands_for.home j m)
      (guards_of setting.protocol.home stands_for.home.state))
  told-completed (step.Up j) did behind = absurd (cc)
  told-completed (step.Down j) did behind = absurd (cc)

-- An event that is told in a configuration that has the shape is carried there.
pub told-carried : (setting : Setting) → IsProper setting.protocol → (c : Config)
    → IsShaped setting c → (s : Step) (e : Event) → told setting c s ≡ Is e
    → Carried setting.protocol (abstraction setting.protocol c) e
told-carried setting proper c shaped s e is =
    let at = told-is setting c s e is in
    record {
      next = abstraction setting.protocol (after_step setting c s);
      step = told-takes_place setting c (shaped-refined setting c shaped proper) s e is;
      completed = told-completed setting proper c shaped at.0 e s at.1 at.2;
    }

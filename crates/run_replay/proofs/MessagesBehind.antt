-- Where a step is told as an event, the message that is at hand is the one given in the event.
use Rattle.std.proofs.Common.{◌≡◌, ◌<◌, ℕ, List, length, get_or, Option, Some, None, is_some}
use Rattle.std.proofs.Common.{slice_get, refl, sym, ap, subst, ◌∙◌}
use Rattle.std.specs.Option.{option_map, option_and_then}
use Rattle.std.proofs.lemmas.Option.{slice_get-get_or}
use Rattle.rv_base.proofs.Lists.{some_map}
use Rattle.proto_model.specs.Numbered.{NumberedProtocol}
use Rattle.proto_model.specs.Proper.{IsProper}
use Rattle.proto_model.specs.Guards.{part}
use Rattle.proto_model.specs.declared.rendezvous.Part.{Part}
use Rattle.proto_model.specs.declared.rendezvous.Event.{Event}
use Rattle.proto_model.specs.declared.rendezvous.Event.TheVariants as event
use Rattle.controller_table.specs.declared.rows.GuardId.{GuardId}
use Rattle.controller_table.specs.declared.rows.Place.TheVariants.{Due}
use Rattle.async_shape.specs.Setting.{Setting}
use Rattle.async_shape.specs.Config.{Config, count_of, owed_to}
use Rattle.async_shape.specs.Guards.{Chosen}
use Rattle.async_shape.specs.Requests.{Taking, taking}
use Rattle.async_shape.specs.Outcome.{home_idle_state}
use Rattle.async_shape.specs.Next.{StepOutcome, config_after, outcome}
use Rattle.async_shape.specs.View.{nobody}
use Rattle.async_shape.specs.Shape.{IsShaped}
use Rattle.async_shape.specs.declared.config.HomePlace.{HomePlace}
use Rattle.async_shape.specs.declared.config.HomePlace.TheVariants.{Idle, Waits}
use Rattle.async_shape.specs.declared.config.RemoteState.{RemoteState}
use Rattle.async_shape.specs.declared.config.Waiting.{Waiting}
use Rattle.async_shape.specs.declared.step.Step.{Step}
use Rattle.async_shape.specs.declared.step.Step.TheVariants as step
use Rattle.async_shape.proofs.StepInversion.{HomeSend-outcome, RemoteAnswer-outcome}
use Rattle.async_shape.proofs.StepInversion.{RemoteReply-outcome}
use Rattle.abstraction_map.specs.Abstraction.{abstraction}
use Rattle.abstraction_map.specs.Told.{event_or_stutter, event_behind, told_if, told}
use Rattle.abstraction_map.specs.Told.{send_event, answer_event, answering}
use Rattle.abstraction_map.specs.declared.told.Told.TheVariants.{Is}
use Rattle.abstraction_map.proofs.ByCase.{home-idle}
use Rattle.abstraction_map.proofs.HomeTakeMeans.{take-gives}
use Rattle.abstraction_map.proofs.EventsGive.{RemoteGives-is, answer-gives, reply-gives}
use Rattle.rendezvous_meaning.specs.GivenMessage.{given_by, given_in}
use Rattle.run_replay.specs.MessageBehind.{held_message, slot_message, due_message}
use Rattle.run_replay.specs.MessageBehind.{message_behind}

-- ---- the event that is told

-- An event that is told is the one behind the step.
told-event : (o : Option Event) (e : Event) → event_or_stutter o ≡ Is e → o ≡ Some e
told-event (Some f) e told = cc
told-event None e told = absurd (cc)

-- Where a step is told as an event, it has an outcome, and the event is behind it.
told-is : (setting : Setting) (c : Config) (s : Step) (e : Event) → told setting c s ≡ Is e
    → (o : StepOutcome) × (outcome setting c s ≡ Some o)
    × (event_behind setting.protocol c s ≡ Some e)
told-is setting c s e = by_outcome (outcome setting c s) refl where
  by_outcome : (of : Option StepOutcome) → outcome setting c s ≡ of
      → told_if setting.protocol c (is_some (option_map (config_after c) of)) s ≡ Is e
      → (o : StepOutcome) × (outcome setting c s ≡ Some o)
      × (event_behind setting.protocol c s ≡ Some e)
  by_outcome None did is = absurd (cc)
  by_outcome (Some o) did is = (o, did, told-event (event_behind setting.protocol c s) e is)

-- The event of a reply that is owed.
sent-event : (g j : ℕ) (owed : Option ℕ) (e : Event) → send_event g j owed ≡ Some e
    → event.Down j g 0 ≡ e
sent-event g j (Some p) e sends = cc
sent-event g j None e sends = absurd (cc)

-- The event of an answer: the home waits by its guard.
answered-event : (j : ℕ) (place : HomePlace) (input : Option Chosen) (e : Event)
    → answer_event j place input ≡ Some e
    → (waiting : Waiting) × (r : ℕ) × (place ≡ Waits waiting)
    × (event.Down j waiting.by.guard r ≡ e)
answered-event j (Idle state) input e is = absurd (cc)
answered-event j (Waits waiting) None e is = absurd (cc)
answered-event j (Waits waiting) (Some input) e is = (waiting, input.number, refl, cc)

-- ---- kind by kind

module _ (setting : Setting) (proper : IsProper setting.protocol) (c : Config)
    (shaped : IsShaped setting c) (o : StepOutcome) (e : Event) where
  -- the message that is at hand is given in the event
  abbrev GivesBehind : Step → Type 0
  GivesBehind s =
      message_behind setting.protocol c s
      ≡ given_in setting.protocol (abstraction setting.protocol c) e

  -- What is held of the remote is given in the event of a take.
  take-behind : (j : ℕ) → outcome setting c (step.HomeTake j) ≡ Some o
      → event_behind setting.protocol c (step.HomeTake j) ≡ Some e
      → GivesBehind (step.HomeTake j)
  take-behind j did is =
      let protocol = setting.protocol in
      let stands = abstraction protocol c in
      let gives = take-gives setting proper c shaped j o did in
      let takes = taking (count_of c) protocol.home c.home c.held j in
      let by = some_map (λ (what : Taking). event.Up j what.guard.number 0) takes e is in
      subst
      (λ (e : Event). message_behind protocol c (step.HomeTake j) ≡ given_in protocol stands e) by.2
      (ap (option_map held_message) gives.1
      ∙ sym (RemoteGives-is protocol stands j 0 (held_message gives.0) gives.2))

  -- What an idle home gives by a guard is given in the event of a reply that it owes.
  send-behind : (g j : ℕ) → outcome setting c (step.HomeSend g j) ≡ Some o
      → event_behind setting.protocol c (step.HomeSend g j) ≡ Some e
      → GivesBehind (step.HomeSend g j)
  send-behind g j did is =
      let protocol = setting.protocol in
      let stands = abstraction protocol c in
      let sends = (HomeSend-outcome setting c g j o did).1.is in
      let at = λ (p : Part). given_by protocol.messages protocol.home p g in
      subst
      (λ (e : Event). message_behind protocol c (step.HomeSend g j) ≡ given_in protocol stands e)
      (sent-event g j (owed_to c.home j) e is)
      (ap
      (λ (place : HomePlace).
      option_and_then (λ state. at (part state c.home.vars)) (home_idle_state place)) sends.idle
      ∙ ap at (sym (home-idle protocol c sends.state sends.idle)))

  -- What is in the slot is given in the event of an answer.
  answer-behind : (j : ℕ) → outcome setting c (step.RemoteAnswer j) ≡ Some o
      → event_behind setting.protocol c (step.RemoteAnswer j) ≡ Some e
      → GivesBehind (step.RemoteAnswer j)
  answer-behind j did is =
      let protocol = setting.protocol in
      let stands = abstraction protocol c in
      let at = RemoteAnswer-outcome setting c j o did in
      let by = answered-event j c.home.place (answering protocol c j) e is in
      subst
      (λ (e : Event). message_behind protocol c (step.RemoteAnswer j) ≡ given_in protocol stands e)
      by.3
      (ap (option_and_then (λ (remote : RemoteState). option_map slot_message remote.slot)) at.there
      ∙ ap (option_map slot_message) at.is.slot
      ∙ sym (answer-gives setting c shaped j at.remote at.there at.is.request by.0 at.is.slot by.2))

  -- What a remote is due to send is given in the event of its reply.
  reply-behind : (j : ℕ) → outcome setting c (step.RemoteReply j) ≡ Some o
      → event_behind setting.protocol c (step.RemoteReply j) ≡ Some e
      → GivesBehind (step.RemoteReply j)
  reply-behind j did is =
      let protocol = setting.protocol in
      let stands = abstraction protocol c in
      let at = RemoteReply-outcome setting c j o did in
      let told : event.Up j 0 0 ≡ e = cc in
      subst
      (λ (e : Event). message_behind protocol c (step.RemoteReply j) ≡ given_in protocol stands e)
      told
      (ap
      (option_and_then (λ (remote : RemoteState). due_message protocol remote remote.place))
      at.there
      ∙ ap (due_message protocol at.remote) at.is.due
      ∙ sym (reply-gives setting c shaped j at.remote at.there at.is.guard at.is.due))

  -- A local step gives no message.
  tau-behind : (f : Event) (s : Step) → Some f ≡ Some e → message_behind setting.protocol c s ≡ None
      → given_in setting.protocol (abstraction setting.protocol c) f ≡ None → GivesBehind s
  tau-behind f s is none gives =
      let same : f ≡ e = cc in
      none ∙ sym gives ∙ ap (given_in setting.protocol (abstraction setting.protocol c)) same

  -- Each kind of step, where it has an event.
  given-behind : (s : Step) → outcome setting c s ≡ Some o
      → event_behind setting.protocol c s ≡ Some e → GivesBehind s
  given-behind (step.HomeTau g) did is =
      tau-behind (event.TauHome g) (step.HomeTau g) is refl refl
  given-behind (step.HomeTake j) did is = take-behind j did is
  given-behind (step.HomeSend g j) did is = send-behind g j did is
  given-behind (step.HomeDrop j) did is = absurd (cc)
  given-behind (step.RemoteTau j g) did is =
      tau-behind (event.TauRemote j g) (step.RemoteTau j g) is refl refl
  given-behind (step.RemoteSend j) did is = absurd (cc)
  given-behind (step.RemoteAnswer j) did is = answer-behind j did is
  given-behind (step.RemoteReply j) did is = reply-behind j did is
  given-behind (step.Up j) did is = absurd (cc)
  given-behind (step.Down j) did is = absurd (cc)

-- Where a step is told as an event, the message that is at hand is given in it.
pub message_behind-given : (setting : Setting) → IsProper setting.protocol → (c : Config)
    → IsShaped setting c → (s : Step) (e : Event) → told setting c s ≡ Is e
    → message_behind setting.protocol c s
    ≡ given_in setting.protocol (abstraction setting.protocol c) e
message_behind-given setting proper c shaped s e is =
    let at = told-is setting c s e is in
    given-behind setting proper c shaped at.0 e s at.1 at.2

-- What a remote is due to send, where it is there and due.
pub due-message : (protocol : NumberedProtocol) (remotes : List RemoteState) (j : ℕ) (g : GuardId)
    → j < length remotes → Due g ≡ (get_or remotes j nobody).place
    → option_and_then (λ remote. due_message protocol remote remote.place) (slice_get remotes j)
    ≡ given_by protocol.messages protocol.remote (part g.state (get_or remotes j nobody).vars)
    g.guard
due-message protocol remotes j g within due =
    ap (option_and_then (λ (remote : RemoteState). due_message protocol remote remote.place))
    (slice_get-get_or remotes j nobody within)
    ∙ ap (due_message protocol (get_or remotes j nobody)) (sym due)

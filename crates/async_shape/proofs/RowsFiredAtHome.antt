-- A packet that arrives at the home is explained by a row where the home waits on its sender, and
-- else fires none.
use Rattle.std.proofs.Common.{◌≡◌, ◌≢◌, inl, inr, ℕ, ◌<◌, ◌==◌, Bool, true, false, List, ◌∷◌}
use Rattle.std.proofs.Common.{[], ◌++◌, length, drop, Option, Some, None, refl, sym, ap, subst, ◌∙◌}
use Rattle.std.proofs.Common.{if◌then◌else◌}
use Rattle.std.specs.Option.{option_map, option_map_or}
use Rattle.std.proofs.lemmas.Bool.{eq-eqb, ne_eqb}
use Rattle.proto_model.specs.Numbered.{NumberedProtocol}
use Rattle.proto_model.specs.Proper.{IsProper}
use Rattle.proto_model.specs.ValueTypes.{message_out}
use Rattle.proto_model.specs.declared.numbered.Value.TheVariants as value
use Rattle.proto_model.specs.declared.numbered.Value.{Value}
use Rattle.proto_model.specs.declared.numbered.Rule.{Rule}
use Rattle.proto_model.specs.declared.numbered.Body.{Body}
use Rattle.proto_model.specs.declared.rendezvous.Part.{Part}
use Rattle.controller_table.specs.Rows.{guard_id, answered_row, back_row}
use Rattle.controller_table.specs.declared.rows.GuardId.{GuardId}
use Rattle.controller_table.specs.declared.rows.Place.TheVariants.{Comm, Trans}
use Rattle.controller_table.specs.declared.rows.Does.{Does}
use Rattle.controller_table.specs.declared.rows.Does.TheVariants as does
use Rattle.controller_table.specs.declared.rows.Trigger.TheVariants as trigger
use Rattle.slot_reserve.specs.Requests.{last_of}
use Rattle.slot_reserve.specs.declared.held.Held.{Held}
use Rattle.ordered_links.specs.Link.{Up, Down}
use Rattle.ordered_links.specs.Lists.{first_packet}
use Rattle.ordered_links.specs.declared.packet.Packet.{Packet}
use Rattle.ordered_links.specs.declared.packet.Packet.TheVariants as packet
use Rattle.async_shape.specs.Setting.{Setting, reply_to}
use Rattle.async_shape.specs.Config.{Config, count_of}
use Rattle.async_shape.specs.Guards.{guard_by, request_of, after_ack, after_reply}
use Rattle.async_shape.specs.Requests.{is_admitted, displaces}
use Rattle.async_shape.specs.Outcome.{Put, HomeOutcome, at_home, put_on, home_at}
use Rattle.async_shape.specs.HomeSteps.{up_answer, made_room, up_other, request_from}
use Rattle.async_shape.specs.Next.{StepOutcome, arriving, outcome}
use Rattle.async_shape.specs.View.{View, view_at}
use Rattle.async_shape.specs.Phase.{IsAnswerTo, Case}
use Rattle.async_shape.specs.Shape.{IsWaitingHome, IsHomePlace, IsWhole, IsShaped}
use Rattle.async_shape.specs.Fired.{Firing, row_place, home_fires, home_trigger, answer_value}
use Rattle.async_shape.specs.Fired.{up_fires, vars_after}
use Rattle.ordered_links.specs.Packets.{is_request}
use Rattle.async_shape.specs.declared.config.HomeState.{HomeState}
use Rattle.async_shape.specs.declared.config.HomePlace.{HomePlace}
use Rattle.async_shape.specs.declared.config.HomePlace.TheVariants.{Idle, Waits}
use Rattle.async_shape.specs.declared.config.Waiting.{Waiting}
use Rattle.async_shape.specs.declared.config.Request.{Request}
use Rattle.async_shape.specs.declared.step.Step.TheVariants as step
use Rattle.proto_model.proofs.ProperFacts.{goes_down-there, home_output-down, home_output-awaits}
use Rattle.async_shape.proofs.ArrivalInversion.{IsAnswered, IsReached, up-by}
use Rattle.async_shape.proofs.StepInversion.{HomeMoves, ArrivesUp, Up-outcome}
use Rattle.async_shape.proofs.Completed.{awaits-request, is_answer-reply, is_answer-ack}
use Rattle.async_shape.proofs.Completed.{after_ack-is, after_reply-is}
use Rattle.async_shape.proofs.Phases.{AnsweringPhase, AnswerAlone, AnswerFirst, up_answer-phase}
use Rattle.async_shape.proofs.Phases.{first-rest}
use Rattle.async_shape.proofs.RowsThere.{home_answered-only, home_nack-only, home_crossing-only}
use Rattle.async_shape.proofs.WaitedMessages.{given-out}
use Rattle.async_shape.proofs.ShapeParts.{IsShaped-whole, IsShaped-case}
use Rattle.async_shape.proofs.RowsFired.{after_guard-vars, second_part-vars, HomeExplained, FiresBy}
use Rattle.async_shape.proofs.RowsFired.{FiresSo, home-by_row, home-stays}

-- ---- the home waits on the sender

module _ (setting : Setting) (proper : IsProper setting.protocol) (c : Config) (j : ℕ)
    (right : IsWhole setting c) (case : Case setting (view_at setting.protocol c j))
    (waiting : Waiting) (waits : c.home.place ≡ Waits waiting) (on : waiting.on ≡ j) where
  -- the protocol
  abbrev protocol : NumberedProtocol
  protocol = setting.protocol

  -- the home
  abbrev body : Body
  body = setting.protocol.home

  -- its variables
  abbrev vars : List Value
  vars = c.home.vars

  -- the view of j
  abbrev view : View
  view = view_at setting.protocol c j

  -- the home waits as the shape says
  waits_right : IsWaitingHome protocol setting.slots (count_of c) c.home c.held waiting
  waits_right =
      let n = count_of c in
      subst (λ (place : HomePlace). IsHomePlace protocol setting.slots n c.home c.held place) waits
      right.home

  -- the guard by which the home waits
  abbrev by : GuardId
  by = waiting.by

  -- the rule of that guard
  abbrev rule : Rule
  rule = waits_right.rule

  -- the rule is there
  there : guard_by body by ≡ Some rule
  there = waits_right.there

  -- the message that it gives
  abbrev message : ℕ
  message = waits_right.message

  -- it is an output of that message
  out : message_out rule.kind ≡ Some message
  out = given-out protocol.messages vars rule.kind (message, waiting.sent) waits_right.sends

  -- the message is one of the protocol's
  within : message < length protocol.messages
  within =
      goes_down-there protocol message
      (home_output-down protocol by.state by.guard rule proper message there out)

  -- the place that the row names is the home's
  stands : Trans by ≡ row_place c.home.place
  stands = sym (ap row_place waits)

  -- the home waits on j, as a test says
  on_j : (waiting.on == j) ≡ true
  on_j = eq-eqb waiting.on j on

  -- ---- what arrives

  -- the request that the home waits for j to answer
  abbrev asked : Request
  asked = request_of (message, waiting.sent)

  -- the home waits for j to answer it
  awaits : view.awaited ≡ Some asked
  awaits = awaits-request setting c j waiting waits on waits_right

  -- in either phase of an answer the packet answers that request
  answers_by : (answer : Packet) (rest : List Packet)
      → AnsweringPhase setting view asked answer rest → IsAnswerTo setting asked answer
  answers_by answer rest (AnswerAlone none is) = is.fits.1
  answers_by answer rest (AnswerFirst q behind is) = is.fits.1

  -- what arrives, and is no request, answers that request
  answers : (answer : Packet) → first_packet view.up ≡ Some answer → is_request answer ≡ false
      → IsAnswerTo setting asked answer
  answers answer first none =
      let rest = drop 1 view.up in
      answers_by answer rest
      (up_answer-phase setting view asked answer rest case.in_phase awaits none
      (first-rest view.up answer first))

  -- ---- what it leaves

  -- a row explains this, which the packet leaves
  abbrev Explained : Packet → HomeOutcome → Type 0
  Explained arrived left =
      HomeExplained setting c (step.Up j)
      (home_fires c (home_trigger arrived) (answer_value arrived)) left

  -- the home where this part stands, if it does
  abbrev back_at : Option Part → HomeOutcome
  back_at after = at_home (option_map_or (home_at c.home) after c.home) c.held None

  -- the guards of a row are completed with j, on which the home waits
  with_j : (done : Does) (v : Value)
      → vars_after body vars done waiting.on v ≡ vars_after body vars done j v
  with_j done v = ap (λ (i : ℕ). vars_after body vars done i v) on

  -- the row of an ack explains where the home stands behind it
  ack_explained : first_packet view.up ≡ Some packet.Ack
      → Explained packet.Ack (back_at (after_ack body vars by waiting.on))
  ack_explained first =
      let none = is_answer-ack (reply_to setting message) (answers packet.Ack first refl) in
      let acked = after_ack-is body vars by waiting.on rule there in
      subst (λ (after : Option Part). Explained packet.Ack (back_at after)) (sym acked) (record {
        row = answered_row body by rule None;
        only =
            home_answered-only protocol setting.mode by rule (row_place c.home.place) trigger.GotAck
            there message out None within none (stands, refl);
        place = refl;
        vars = after_guard-vars body vars by waiting.on rule there value.Unit
            ∙ with_j (does.One by) value.Unit;
        puts = refl;
        debts = refl;
      })

  -- the row of a reply explains where the home stands behind it
  reply_explained : (p : ℕ) (w : Value) → first_packet view.up ≡ Some (packet.Reply p w)
      → Explained (packet.Reply p w) (back_at (after_reply body vars by waiting.on w))
  reply_explained p w first =
      let arrived = packet.Reply p w in
      let reply = is_answer-reply (reply_to setting message) p w (answers arrived first refl) in
      let awaits_reply =
      home_output-awaits protocol setting.mode by.state by.guard rule message p proper reply there
      out in
      let next = awaits_reply.next in
      let one = awaits_reply.one in
      let replied = after_reply-is body vars by waiting.on rule there next w one.only in
      subst (λ (after : Option Part). Explained arrived (back_at after)) (sym replied) (record {
        row = answered_row body by rule (Some p);
        only =
            home_answered-only protocol setting.mode by rule (row_place c.home.place)
            (trigger.GotReply p) there message out (Some p) within reply (stands, refl);
        place = ap (λ (o : Option Rule). Comm (option_map_or (λ r. r.next) o 0)) (sym one.there);
        vars = second_part-vars body vars by waiting.on rule there next w one.there
            ∙ with_j (does.Two by (guard_id rule.next 0)) w;
        puts = refl;
        debts = refl;
      })

  -- so does the row of each packet
  answer_explained : (arrived : Packet) → first_packet view.up ≡ Some arrived
      → Explained arrived (up_answer body c.home c.held j waiting arrived)
  answer_explained (packet.Request m w) first = record {
    row = back_row by trigger.GotRequest;
    only =
        home_crossing-only protocol setting.mode by rule (row_place c.home.place) trigger.GotRequest
        there message out (stands, refl);
    place = refl;
    vars = refl;
    puts = refl;
    debts = refl;
  }
  answer_explained packet.Ack first = ack_explained first
  answer_explained packet.Nack first = record {
    row = back_row by trigger.GotNack;
    only =
        home_nack-only protocol setting.mode by rule (row_place c.home.place) trigger.GotNack there
        message out (stands, refl);
    place = refl;
    vars = refl;
    puts = refl;
    debts = refl;
  }
  answer_explained (packet.Reply p w) first = reply_explained p w first

  -- what arrives makes the home move
  fires : (arrived : Packet) → first_packet view.up ≡ Some arrived
      → up_fires c j c.home.place
      ≡ Some (home_fires c (home_trigger arrived) (answer_value arrived))
  fires arrived first =
      let fire : Packet → Firing = λ p. home_fires c (home_trigger p) (answer_value p) in
      let moved = option_map fire (arriving c (Up j)) in
      ap (up_fires c j) waits
      ∙ ap (λ (b : Bool). if b then moved else None) on_j
      ∙ ap (option_map fire) first

-- ---- the home doesn't wait on the sender

-- then nothing fires a row
up_fires-none : (c : Config) (j : ℕ) (place : HomePlace)
    → ((waiting : Waiting) → place ≡ Waits waiting → waiting.on ≢ j) → up_fires c j place ≡ None
up_fires-none c j (Idle state) apart = refl
up_fires-none c j (Waits waiting) apart =
    let other : (waiting.on == j) ≡ false = ne_eqb waiting.on j (apart waiting refl) in
    rw other refl

-- whatever becomes of a request, it leaves the home where it is
request_stays : (home : HomeState) (held kept : List Held) (request : Held) (put : Option Put)
    (admitted displacing : Bool) (last : Option Held)
    → (if admitted then at_home home kept None
    else (if displacing
    then option_map_or (made_room home held request) last (at_home home held None)
    else at_home home held put)).home ≡ home
request_stays home held kept request put true displacing last = refl
request_stays home held kept request put false false last = refl
request_stays home held kept request put false true None = refl
request_stays home held kept request put false true (Some last) = refl

-- what arrives of a remote on which the home doesn't wait leaves the home where it is
up_other-stays : (setting : Setting) (n : ℕ) (home : HomeState) (held : List Held) (j : ℕ)
    (arrived : Packet) → (up_other setting n home held j arrived).home ≡ home
up_other-stays setting n home held j (packet.Request m w) =
    let request = request_from j m w in
    request_stays home held (held ++ request ∷ []) request (put_on (Down request.from) packet.Nack)
    (is_admitted n setting.protocol.home home setting.slots held request)
    (displaces n setting.protocol.home home setting.slots held request) (last_of held)
up_other-stays setting n home held j packet.Ack = refl
up_other-stays setting n home held j packet.Nack = refl
up_other-stays setting n home held j (packet.Reply p w) = refl

-- ---- the step

module _ (setting : Setting) (proper : IsProper setting.protocol) (c : Config) (o : StepOutcome)
    (shaped : IsShaped setting c) (j : ℕ) (did : outcome setting c (step.Up j) ≡ Some o) where
  -- a packet of the remote on which the home waits is by its row
  answered_fires : (moves : HomeMoves c (Some (Up j)) (ArrivesUp setting c j) o) → j < count_of c
      → IsAnswered setting (count_of c) c.home c.held j moves.is.arrived
      → FiresSo setting c o (step.Up j)
  answered_fires moves within answered =
      let s = step.Up j in
      let arrived = moves.is.arrived in
      let first = moves.is.first in
      let on = answered.on in
      let firing = home_fires c (home_trigger arrived) (answer_value arrived) in
      let whole = IsShaped-whole setting c shaped in
      let case = IsShaped-case setting c shaped j within in
      subst (FiresBy setting c o s)
      (sym (fires setting proper c j whole case on.waiting on.waits on.on arrived first))
      (home-by_row setting c s o did (Some (Up j)) moves.left moves.outcome firing
      (subst (HomeExplained setting c s firing) (sym (moves.is.outcome ∙ answered.outcome))
      (answer_explained setting proper c j whole case on.waiting on.waits on.on arrived first)))

  -- a packet of another remote is by none
  reached_fires : (moves : HomeMoves c (Some (Up j)) (ArrivesUp setting c j) o)
      → IsReached setting (count_of c) c.home c.held j moves.is.arrived
      → FiresSo setting c o (step.Up j)
  reached_fires moves reached =
      let s = step.Up j in
      let stays =
      ap (λ (left : HomeOutcome). left.home) (moves.is.outcome ∙ reached.outcome)
      ∙ up_other-stays setting (count_of c) c.home c.held j moves.is.arrived in
      subst (FiresBy setting c o s) (sym (up_fires-none c j c.home.place reached.not_on.apart))
      (home-stays setting c s o did (Some (Up j)) moves.left moves.outcome stays)

  -- what arrives at the home is by its row, or by none
  pub Up-fires : FiresSo setting c o (step.Up j)
  Up-fires =
      let at = Up-outcome setting c j o did in
      elim (up-by setting (count_of c) c.home c.held j at.1.is.arrived) [
        | inl answered ↦ answered_fires at.1 at.0 answered
        | inr reached ↦ reached_fires at.1 reached
      ]

-- That a remote answers the request in its slot is explained by a row: a nack, an ack, or that the
-- reply is due.
use Rattle.std.proofs.Common.{◌≡◌, ◌⊎◌, inl, inr, ℕ, ◌<◌, length, Option, Some, None, refl, sym, ap}
use Rattle.std.proofs.Common.{subst, ◌∙◌}
use Rattle.std.specs.Option.{option_map_or}
use Rattle.proto_model.specs.Proper.{IsProper}
use Rattle.proto_model.specs.Guards.{guards_of, guard_at, after_guard}
use Rattle.proto_model.specs.ValueTypes.{message_in}
use Rattle.proto_model.specs.declared.numbered.Value.{Value}
use Rattle.proto_model.specs.declared.numbered.Value.TheVariants as value
use Rattle.proto_model.specs.declared.numbered.Rule.{Rule}
use Rattle.proto_model.specs.declared.rendezvous.Part.{Part}
use Rattle.controller_table.specs.OneRow.{HasKey, IsOnlyRow}
use Rattle.controller_table.specs.Rows.{guard_id, answer_row, last_row, remote_rows}
use Rattle.controller_table.specs.declared.rows.GuardId.{GuardId}
use Rattle.controller_table.specs.declared.rows.Place.{Place}
use Rattle.controller_table.specs.declared.rows.Place.TheVariants.{Comm}
use Rattle.controller_table.specs.declared.rows.Does.TheVariants as does
use Rattle.controller_table.specs.declared.rows.Trigger.{Trigger}
use Rattle.controller_table.specs.declared.rows.Trigger.TheVariants as trigger
use Rattle.ordered_links.specs.Link.{Up}
use Rattle.ordered_links.specs.declared.packet.Packet.TheVariants as packet
use Rattle.async_shape.specs.Setting.{Setting, reply_to}
use Rattle.async_shape.specs.Config.{Config}
use Rattle.async_shape.specs.Guards.{Chosen, active_guard, answering_guard}
use Rattle.async_shape.specs.Outcome.{RemoteOutcome, at_remote, put_on, without_slot}
use Rattle.async_shape.specs.RemoteSteps.{answered}
use Rattle.async_shape.specs.Next.{StepOutcome, outcome}
use Rattle.async_shape.specs.Phase.{IsRemotePlace}
use Rattle.async_shape.specs.Shape.{IsShaped}
use Rattle.async_shape.specs.Fired.{answer_trigger, slot_value, answer_fires, vars_after}
use Rattle.async_shape.specs.declared.config.RemoteState.{RemoteState}
use Rattle.async_shape.specs.declared.config.Request.{Request}
use Rattle.async_shape.specs.declared.step.Step.TheVariants as step
use Rattle.proto_model.proofs.ProperFacts.{goes_down-there, remote_input-down}
use Rattle.async_shape.proofs.RemoteInversion.{Nacks, AnswersBy, AnswersRequest}
use Rattle.async_shape.proofs.StepInversion.{RemoteAnswer-outcome}
use Rattle.async_shape.proofs.RowsAmong.{last-only}
use Rattle.async_shape.proofs.RowsThere.{remote_answer-only}
use Rattle.async_shape.proofs.PassiveStates.{passive-state}
use Rattle.async_shape.proofs.RowsFired.{shaped-place, after_guard-vars, RemoteExplained, FiresSo}
use Rattle.async_shape.proofs.RowsFired.{remote-fires}

-- the row by which a guard answers has its place and its trigger
answer-key : (g : GuardId) (rule : Rule) (reply : Option ℕ) (at : Place) (on : Trigger)
    → Comm g.state ≡ at → trigger.Answer g.guard ≡ on → HasKey at on (answer_row g rule reply)
answer-key g rule None at on here by = (here, by)
answer-key g rule (Some p) at on here by = (here, by)

-- a step at remote j, which stands so
module _ (setting : Setting) (proper : IsProper setting.protocol) (c : Config) (j : ℕ)
    (remote : RemoteState) where
  -- a row explains this, which the answer leaves
  abbrev AnswerExplained : RemoteOutcome → Type 0
  AnswerExplained left =
      RemoteExplained setting c (step.RemoteAnswer j) remote
      (answer_fires setting.protocol j remote) left

  -- the last row of the state explains the nack
  nack_explained : (state : ℕ) → remote.place ≡ Comm state
      → IsRemotePlace setting.protocol remote.place
      → active_guard (guards_of setting.protocol.remote state) ≡ None
      → answering_guard setting.protocol.remote remote ≡ None
      → AnswerExplained (at_remote (without_slot remote) (put_on (Up j) packet.Nack))
  nack_explained state idle right passive none =
      let protocol = setting.protocol in
      let within : state < length protocol.remote.states =
      subst (IsRemotePlace protocol) idle right in
      let is = passive-state protocol.remote state within passive in
      record {
        row = last_row state;
        only =
            last-only protocol setting.mode state is.info remote.place
            (answer_trigger (answering_guard protocol.remote remote)) is.there is.passive
            (sym idle, sym (ap answer_trigger none));
        place = idle;
        vars = refl;
        puts = refl;
        debts = refl;
      }

  -- the remote after this guard, with this value
  abbrev completed_by : Rule → Value → Part
  completed_by rule v = after_guard setting.protocol.remote remote.vars rule rule.next 0 v

  -- the value of the request in the slot
  slot-is : (request : Request) → remote.slot ≡ Some request → slot_value remote ≡ request.value
  slot-is request slot =
      ap (λ (o : Option Request). option_map_or (λ r. r.value) o value.Unit) slot

  -- the variables are those after the guard, with the value in the slot
  answered_vars : (state : ℕ) (guard : Chosen) (request : Request) → remote.slot ≡ Some request
      → (there : guard_at setting.protocol.remote state guard.number ≡ Some guard.rule)
      → (completed_by guard.rule request.value).vars
      ≡ vars_after setting.protocol.remote remote.vars (does.One (guard_id state guard.number)) 0
      (slot_value remote)
  answered_vars state guard request slot there =
      let by = guard_id state guard.number in
      let v = slot_value remote in
      ap (λ (w : Value). (completed_by guard.rule w).vars) (sym (slot-is request slot))
      ∙ after_guard-vars setting.protocol.remote remote.vars by 0 guard.rule there v

  -- the row by which the request is answered is the only one
  answer-only : (state m : ℕ) (guard : Chosen) (reply : Option ℕ) → remote.place ≡ Comm state
      → answering_guard setting.protocol.remote remote ≡ Some guard
      → guard_at setting.protocol.remote state guard.number ≡ Some guard.rule
      → message_in guard.rule.kind ≡ Some m → reply_to setting m ≡ reply
      → IsOnlyRow (remote_rows setting.protocol setting.mode) remote.place
      (answer_trigger (answering_guard setting.protocol.remote remote))
      (Some (answer_row (guard_id state guard.number) guard.rule reply))
  answer-only state m guard reply idle chosen there takes same =
      let protocol = setting.protocol in
      let by = guard_id state guard.number in
      let on = answer_trigger (answering_guard protocol.remote remote) in
      let down = remote_input-down protocol state guard.number guard.rule proper m there takes in
      remote_answer-only protocol setting.mode by guard.rule remote.place on there m reply takes
      (goes_down-there protocol m down) same
      (answer-key by guard.rule reply remote.place on (sym idle) (sym (ap answer_trigger chosen)))

  -- the row by which the request is answered explains the ack, or that the reply is due
  answer_explained : (state : ℕ) (guard : Chosen) (request : Request) (reply : Option ℕ)
      → remote.place ≡ Comm state → remote.slot ≡ Some request
      → answering_guard setting.protocol.remote remote ≡ Some guard
      → guard_at setting.protocol.remote state guard.number ≡ Some guard.rule
      → message_in guard.rule.kind ≡ Some request.message
      → reply_to setting request.message ≡ reply
      → AnswerExplained (answered j (completed_by guard.rule request.value) reply)
  answer_explained state guard request None idle slot chosen there takes same = record {
    row = answer_row (guard_id state guard.number) guard.rule None;
    only = answer-only state request.message guard None idle chosen there takes same;
    place = refl;
    vars = answered_vars state guard request slot there;
    puts = refl;
    debts = refl;
  }
  answer_explained state guard request (Some p) idle slot chosen there takes same = record {
    row = answer_row (guard_id state guard.number) guard.rule (Some p);
    only = answer-only state request.message guard (Some p) idle chosen there takes same;
    place = refl;
    vars = answered_vars state guard request slot there;
    puts = refl;
    debts = refl;
  }

  -- so one of the two explains the answer
  how_explained : (left : RemoteOutcome) (is : AnswersRequest setting j remote left)
      → IsRemotePlace setting.protocol remote.place
      → Nacks setting j remote left ⊎ AnswersBy setting j remote is.state is.request left
      → AnswerExplained left
  how_explained left is right (inl nacks) =
      subst AnswerExplained (sym nacks.outcome)
      (nack_explained is.state is.idle right is.passive nacks.none)
  how_explained left is right (inr answers) =
      subst AnswerExplained (sym answers.outcome)
      (answer_explained is.state answers.guard is.request (reply_to setting is.request.message)
      is.idle is.slot answers.chosen answers.there answers.input refl)

-- ---- the step

module _ (setting : Setting) (proper : IsProper setting.protocol) (c : Config) (o : StepOutcome)
    (shaped : IsShaped setting c) where
  -- that a request is answered is by its row
  pub RemoteAnswer-fires : (j : ℕ) → outcome setting c (step.RemoteAnswer j) ≡ Some o
      → FiresSo setting c o (step.RemoteAnswer j)
  RemoteAnswer-fires j did =
      let moves = RemoteAnswer-outcome setting c j o did in
      let remote = moves.remote in
      let right = shaped-place setting c j remote shaped moves.within moves.there in
      remote-fires setting c (step.RemoteAnswer j) o did None j remote moves.left moves.there
      moves.outcome (λ r. answer_trigger (answering_guard setting.protocol.remote r)) slot_value
      (how_explained setting proper c j remote moves.left moves.is right moves.is.how)

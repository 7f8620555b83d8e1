-- A packet that arrives at a remote is explained by a row where the remote waits and the packet is
-- no request, and else fires none.
use Rattle.std.proofs.Common.{◌≡◌, inl, inr, ℕ, true, false, drop, Option, Some, None}
use Rattle.std.proofs.Common.{refl, sym, ap, subst, ◌∙◌}
use Rattle.std.specs.Option.{option_map, option_map_or, option_and_then}
use Rattle.std.proofs.lemmas.Option.{get_or_from_slice_get}
use Rattle.proto_model.specs.Proper.{IsProper}
use Rattle.proto_model.specs.ValueTypes.{message_out}
use Rattle.proto_model.specs.declared.numbered.Value.{Value}
use Rattle.proto_model.specs.declared.numbered.Value.TheVariants as value
use Rattle.proto_model.specs.declared.numbered.Rule.{Rule}
use Rattle.proto_model.specs.declared.rendezvous.Part.{Part}
use Rattle.controller_table.specs.OneRow.{HasKey, IsOnlyRow}
use Rattle.controller_table.specs.Rows.{answered_row, back_row, remote_rows}
use Rattle.controller_table.specs.declared.rows.GuardId.{GuardId}
use Rattle.controller_table.specs.declared.rows.Place.{Place}
use Rattle.controller_table.specs.declared.rows.Place.TheVariants.{Comm, Trans, Due}
use Rattle.controller_table.specs.declared.rows.Trigger.{Trigger}
use Rattle.controller_table.specs.declared.rows.Trigger.TheVariants as trigger
use Rattle.ordered_links.specs.Link.{Down}
use Rattle.ordered_links.specs.Lists.{first_packet}
use Rattle.ordered_links.specs.declared.packet.Packet.{Packet}
use Rattle.ordered_links.specs.declared.packet.Packet.TheVariants as packet
use Rattle.async_shape.specs.Setting.{Setting, reply_to}
use Rattle.async_shape.specs.Config.{Config}
use Rattle.async_shape.specs.Guards.{guard_by}
use Rattle.async_shape.specs.Outcome.{RemoteOutcome, at_remote, remote_at}
use Rattle.async_shape.specs.RemoteSteps.{down_idle, down_waiting}
use Rattle.async_shape.specs.Next.{StepOutcome, arriving, outcome}
use Rattle.async_shape.specs.View.{View, nobody, view_at}
use Rattle.async_shape.specs.Phase.{waits_at, is_answer, Case}
use Rattle.async_shape.specs.Shape.{IsShaped}
use Rattle.async_shape.specs.Fired.{Firing, remote_situation, remote_fires, remote_trigger}
use Rattle.async_shape.specs.Fired.{answer_value, down_fires, fired}
use Rattle.ordered_links.specs.Packets.{is_request}
use Rattle.async_shape.specs.declared.config.RemoteState.{RemoteState}
use Rattle.async_shape.specs.declared.config.Request.{Request}
use Rattle.async_shape.specs.declared.step.Step.TheVariants as step
use Rattle.proto_model.proofs.ProperFacts.{goes_up-there, remote_output-up, remote_output-awaits}
use Rattle.async_shape.proofs.RemoteInversion.{down-by}
use Rattle.async_shape.proofs.StepInversion.{RemoteMoves, ArrivesDown, Down-outcome}
use Rattle.async_shape.proofs.Completed.{request_by-some, is_answer-reply}
use Rattle.async_shape.proofs.Completed.{is_answer-ack, after_ack-is, after_reply-is}
use Rattle.async_shape.proofs.Phases.{down_answer-phase, first-rest}
use Rattle.async_shape.proofs.RowsThere.{remote_answered-only, remote_nack-only}
use Rattle.async_shape.proofs.WaitedMessages.{given-out}
use Rattle.async_shape.proofs.ShapeParts.{IsShaped-case}
use Rattle.async_shape.proofs.RowsFired.{after_guard-vars, second_part-vars, RemoteExplained}
use Rattle.async_shape.proofs.RowsFired.{FiresBy, FiresSo, remote-by_row, remote-stays}

-- ---- the remote waits

-- The remote waits by this guard, an output of this message, and the packet that arrives answers a
-- request of it.
record IsAnswered (setting : Setting) (remote : RemoteState) (g : GuardId) (arrived : Packet)
    : Type 0 where
  rule : Rule
  there : guard_by setting.protocol.remote g ≡ Some rule
  message : ℕ
  out : message_out rule.kind ≡ Some message
  answers : is_answer (reply_to setting message) arrived ≡ true

-- what comes down to a remote that waits, and is no request, answers its request
answered-by : (setting : Setting) (v : View) (g : GuardId) (arrived : Packet) → Case setting v
    → v.remote.place ≡ Trans g → first_packet v.down ≡ Some arrived → is_request arrived ≡ false
    → IsAnswered setting v.remote g arrived
answered-by setting v g arrived case waits first none =
    let protocol = setting.protocol in
    let gets =
    down_answer-phase setting v arrived (drop 1 v.down) case.in_phase none
    (first-rest v.down arrived first) in
    let waits_by =
    subst (λ (place : Place). waits_at protocol v.remote.vars place ≡ Some gets.0) waits
    gets.2.fits.0 in
    let by = request_by-some protocol.messages protocol.remote v.remote.vars g gets.0 waits_by in
    record {
      rule = by.rule;
      there = by.there;
      message = by.message.0;
      out = given-out protocol.messages v.remote.vars by.rule.kind by.message by.gives;
      answers =
          subst (λ (q : Request). is_answer (reply_to setting q.message) arrived ≡ true) by.request
          gets.2.fits.2;
    }

module _ (setting : Setting) (proper : IsProper setting.protocol) (c : Config) (j : ℕ)
    (remote : RemoteState) (g : GuardId) (waits : remote.place ≡ Trans g) where
  -- what the packet fires, by this trigger, and what it leaves
  abbrev Explained : Trigger → Packet → RemoteOutcome → Type 0
  Explained on arrived left =
      RemoteExplained setting c (step.Down j) remote
      (remote_fires j on (answer_value arrived) remote) left

  -- the remote as the packet leaves it
  abbrev left_by : Packet → RemoteOutcome
  left_by arrived = at_remote (down_waiting setting.protocol.remote remote g arrived) None

  -- the remote where this part stands, if it does
  abbrev back_at : Option Part → RemoteOutcome
  back_at after = at_remote (option_map_or (remote_at remote) after remote) None

  -- the row of an answer, by the reply of the message, is the only one with its place and trigger
  answer-only : (arrived : Packet) (on : Trigger) (reply : Option ℕ)
      → (is : IsAnswered setting remote g arrived) → reply_to setting is.message ≡ reply
      → HasKey remote.place on (answered_row setting.protocol.remote g is.rule reply)
      → IsOnlyRow (remote_rows setting.protocol setting.mode) remote.place on
      (Some (answered_row setting.protocol.remote g is.rule reply))
  answer-only arrived on reply is same key =
      let protocol = setting.protocol in
      let m = is.message in
      let up = remote_output-up protocol g.state g.guard is.rule proper m is.there is.out in
      remote_answered-only protocol setting.mode g is.rule remote.place on is.there m is.out reply
      (goes_up-there protocol m up) same key

  -- the row of an ack explains it
  ack_explained : IsAnswered setting remote g packet.Ack
      → Explained trigger.GotAck packet.Ack (left_by packet.Ack)
  ack_explained is =
      let body = setting.protocol.remote in
      let none = is_answer-ack (reply_to setting is.message) is.answers in
      let acked = after_ack-is body remote.vars g 0 is.rule is.there in
      let on = trigger.GotAck in
      subst (λ (after : Option Part). Explained on packet.Ack (back_at after)) (sym acked) (record {
        row = answered_row body g is.rule None;
        only = answer-only packet.Ack on None is none (sym waits, refl);
        place = refl;
        vars = after_guard-vars body remote.vars g 0 is.rule is.there value.Unit;
        puts = refl;
        debts = refl;
      })

  -- the row of a nack explains it
  nack_explained : IsAnswered setting remote g packet.Nack
      → Explained trigger.GotNack packet.Nack (left_by packet.Nack)
  nack_explained is = record {
    row = back_row g trigger.GotNack;
    only =
        remote_nack-only setting.protocol setting.mode g is.rule remote.place trigger.GotNack
        is.there is.message is.out (sym waits, refl);
    place = refl;
    vars = refl;
    puts = refl;
    debts = refl;
  }

  -- the row of a reply explains it
  reply_explained : (p : ℕ) (w : Value) → IsAnswered setting remote g (packet.Reply p w)
      → Explained (trigger.GotReply p) (packet.Reply p w) (left_by (packet.Reply p w))
  reply_explained p w is =
      let on = trigger.GotReply p in
      let arrived = packet.Reply p w in
      let protocol = setting.protocol in
      let body = protocol.remote in
      let reply = is_answer-reply (reply_to setting is.message) p w is.answers in
      let awaits =
      remote_output-awaits protocol setting.mode g.state g.guard is.rule is.message p proper reply
      is.there is.out in
      let next = awaits.next in
      let one = awaits.one in
      let replied = after_reply-is body remote.vars g 0 is.rule is.there next w one.only in
      subst (λ (after : Option Part). Explained on arrived (back_at after)) (sym replied) (record {
        row = answered_row body g is.rule (Some p);
        only = answer-only arrived on (Some p) is reply (sym waits, refl);
        place = ap (λ (o : Option Rule). Comm (option_map_or (λ r. r.next) o 0)) (sym one.there);
        vars = second_part-vars body remote.vars g 0 is.rule is.there next w one.there;
        puts = refl;
        debts = refl;
      })

-- ---- the remote doesn't wait

-- an idle remote stays where it is
idle-stays : (remote : RemoteState) (arrived : Packet)
    → remote_situation (down_idle remote arrived) ≡ remote_situation remote
idle-stays remote (packet.Request m w) = refl
idle-stays remote packet.Ack = refl
idle-stays remote packet.Nack = refl
idle-stays remote (packet.Reply p w) = refl

-- ---- the step

module _ (setting : Setting) (proper : IsProper setting.protocol) (c : Config) (o : StepOutcome)
    (shaped : IsShaped setting c) (j : ℕ) (did : outcome setting c (step.Down j) ≡ Some o)
    (moves : RemoteMoves c (Some (Down j)) j (ArrivesDown setting c j) o) where
  -- the remote as the packet finds it, and as it leaves it
  abbrev remote : RemoteState
  remote = moves.remote

  -- what the packet leaves at the remote
  abbrev left : RemoteOutcome
  left = moves.left

  -- what the step is said to fire, where the remote stands in this place
  fires_at : (place : Place) → remote.place ≡ place
      → fired setting.protocol c (step.Down j) ≡ down_fires c j remote place
  fires_at place at =
      ap (option_and_then (λ (r : RemoteState). down_fires c j r r.place)) moves.there
      ∙ ap (down_fires c j remote) at

  -- the packet leaves the remote where it is
  stays_by : (place : Place) → remote.place ≡ place → down_fires c j remote place ≡ None
      → remote_situation left.remote ≡ remote_situation remote → FiresSo setting c o (step.Down j)
  stays_by place at none same =
      subst (FiresBy setting c o (step.Down j)) (sym (fires_at place at ∙ none))
      (remote-stays setting c (step.Down j) o did (Some (Down j)) j remote left moves.there
      moves.outcome same)

  module _ (g : GuardId) (waits : remote.place ≡ Trans g) where
    -- this packet fires a row by this trigger, which explains what it leaves
    fires_by : (arrived : Packet) (on : Trigger) → arriving c (Down j) ≡ Some arrived
        → remote_trigger arrived ≡ Some on
        → left ≡ left_by setting proper c j remote g waits arrived
        → Explained setting proper c j remote g waits on arrived
        (left_by setting proper c j remote g waits arrived)
        → FiresSo setting c o (step.Down j)
    fires_by arrived on first by left_is explained =
        let s = step.Down j in
        let fire : Packet → Trigger → Firing =
        λ p t. remote_fires j t (answer_value p) remote in
        let firing = fire arrived on in
        let fires : fired setting.protocol c s ≡ Some firing =
        fires_at (Trans g) waits
        ∙ ap (option_and_then (λ (p : Packet). option_map (fire p) (remote_trigger p))) first
        ∙ ap (option_map (fire arrived)) by in
        subst (FiresBy setting c o s) (sym fires)
        (remote-by_row setting c s o did (Some (Down j)) j remote left moves.there moves.outcome
        firing (subst (RemoteExplained setting c s remote firing) (sym left_is) explained))

    -- what is known of the packet, where it is no request
    answered : (arrived : Packet) → arriving c (Down j) ≡ Some arrived → is_request arrived ≡ false
        → IsAnswered setting remote g arrived
    answered arrived first none =
        let v = view_at setting.protocol c j in
        let same = get_or_from_slice_get c.remotes j remote nobody moves.there in
        let at : v.remote.place ≡ Trans g = ap (λ (r : RemoteState). r.place) same ∙ waits in
        let case = IsShaped-case setting c shaped j moves.within in
        subst (λ (r : RemoteState). IsAnswered setting r g arrived) same
        (answered-by setting v g arrived case at first none)

    -- what arrives at a remote that waits is by its row, and a request by none
    waiting_fires : (arrived : Packet) → arriving c (Down j) ≡ Some arrived
        → left ≡ left_by setting proper c j remote g waits arrived
        → FiresSo setting c o (step.Down j)
    waiting_fires (packet.Request m w) first left_is =
        let fire : Packet → Trigger → Firing =
        λ p on. remote_fires j on (answer_value p) remote in
        stays_by (Trans g) waits
        (ap (option_and_then (λ (p : Packet). option_map (fire p) (remote_trigger p))) first)
        (ap (λ (out : RemoteOutcome). remote_situation out.remote) left_is)
    waiting_fires packet.Ack first left_is =
        fires_by packet.Ack trigger.GotAck first refl left_is
        (ack_explained setting proper c j remote g waits (answered packet.Ack first refl))
    waiting_fires packet.Nack first left_is =
        fires_by packet.Nack trigger.GotNack first refl left_is
        (nack_explained setting proper c j remote g waits (answered packet.Nack first refl))
    waiting_fires (packet.Reply p w) first left_is =
        let arrived = packet.Reply p w in
        fires_by arrived (trigger.GotReply p) first refl left_is
        (reply_explained setting proper c j remote g waits p w (answered arrived first refl))

  -- so it is wherever the remote stands
  moved_fires : FiresSo setting c o (step.Down j)
  moved_fires =
      let arrived = moves.is.arrived in
      elim (down-by setting remote arrived) [
        | inl idle ↦
            let left_is = moves.is.outcome ∙ idle.outcome in
            stays_by (Comm idle.state) idle.idle refl
            (ap (λ (out : RemoteOutcome). remote_situation out.remote) left_is
            ∙ idle-stays remote arrived)
        | inr others ↦ elim others [
          | inl waiting ↦
              waiting_fires waiting.guard waiting.waits arrived moves.is.first
              (moves.is.outcome ∙ waiting.outcome)
          | inr due ↦
              let left_is = moves.is.outcome ∙ due.outcome in
              stays_by (Due due.guard) due.due refl
              (ap (λ (out : RemoteOutcome). remote_situation out.remote) left_is)
        ]
      ]

module _ (setting : Setting) (proper : IsProper setting.protocol) (c : Config) (o : StepOutcome)
    (shaped : IsShaped setting c) (j : ℕ) (did : outcome setting c (step.Down j) ≡ Some o) where
  -- what arrives at a remote is by its row, or by none
  pub Down-fires : FiresSo setting c o (step.Down j)
  Down-fires = moved_fires setting proper c o shaped j did (Down-outcome setting c j o did)

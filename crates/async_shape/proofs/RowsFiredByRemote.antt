-- A step at a remote is explained by a row: a local step, a request sent, and a reply that was due.
use Rattle.std.proofs.Common.{◌≡◌, ℕ, ◌<◌, true, Some, None, slice_get, refl, sym, ap, subst, ◌∙◌}
use Rattle.std.proofs.lemmas.Option.{get_or_from_slice_get}
use Rattle.proto_model.specs.Proper.{IsProper, is_output_kind}
use Rattle.proto_model.specs.Guards.{guard_at}
use Rattle.proto_model.specs.Pairs.{goes_down}
use Rattle.proto_model.specs.RendezvousNext.{given}
use Rattle.proto_model.specs.declared.numbered.Value.{Value}
use Rattle.proto_model.specs.declared.numbered.Value.TheVariants as value
use Rattle.proto_model.specs.declared.numbered.Rule.{Rule}
use Rattle.proto_model.specs.declared.rendezvous.Part.{Part}
use Rattle.controller_table.specs.Rows.{guard_id, tau_row, send_row, due_row}
use Rattle.controller_table.specs.declared.rows.GuardId.{GuardId}
use Rattle.controller_table.specs.declared.rows.Place.TheVariants.{Comm, Due}
use Rattle.controller_table.specs.declared.rows.Trigger.TheVariants as trigger
use Rattle.async_shape.specs.Setting.{Setting, reply_to}
use Rattle.async_shape.specs.Config.{Config, count_of}
use Rattle.async_shape.specs.Guards.{Chosen, guard_by}
use Rattle.async_shape.specs.Outcome.{RemoteOutcome, at_remote, remote_at}
use Rattle.async_shape.specs.RemoteSteps.{remote_requested, replied}
use Rattle.async_shape.specs.Next.{StepOutcome, outcome}
use Rattle.async_shape.specs.View.{nobody, view_at}
use Rattle.async_shape.specs.Phase.{due_at, IsRemotePlace, IsActiveGuard}
use Rattle.async_shape.specs.Shape.{IsShaped}
use Rattle.async_shape.specs.Fired.{remote_fires}
use Rattle.async_shape.specs.declared.config.RemoteState.{RemoteState}
use Rattle.async_shape.specs.declared.config.Request.{Request}
use Rattle.async_shape.specs.declared.step.Step.TheVariants as step
use Rattle.proto_model.proofs.ProperFacts.{active-only}
use Rattle.async_shape.proofs.GuardsFound.{IsLocalStep}
use Rattle.async_shape.proofs.RemoteInversion.{SendsReply}
use Rattle.async_shape.proofs.StepInversion.{RemoteTau-outcome, RemoteSend-outcome}
use Rattle.async_shape.proofs.StepInversion.{RemoteReply-outcome}
use Rattle.async_shape.proofs.Places.{due_at-is}
use Rattle.async_shape.proofs.Phases.{due-phase}
use Rattle.async_shape.proofs.RepliesThere.{is_reply_up-some}
use Rattle.async_shape.proofs.RowsThere.{remote_tau-only, remote_send-only, remote_due-only}
use Rattle.async_shape.proofs.WaitedMessages.{given-out, awaited-down}
use Rattle.async_shape.proofs.ShapeParts.{IsShaped-case}
use Rattle.async_shape.proofs.RowsFired.{shaped-place, after_guard-vars}
use Rattle.async_shape.proofs.RowsFired.{RemoteExplained, FiresSo, remote-fires}

-- a step at remote j, which stands so
module _ (setting : Setting) (proper : IsProper setting.protocol) (c : Config) (j : ℕ)
    (remote : RemoteState) where
  -- ---- a local step

  -- the row of the local step explains it
  tau_explained : (state g : ℕ) (after : Part) → remote.place ≡ Comm state
      → IsLocalStep setting.protocol.remote state remote.vars g after
      → RemoteExplained setting c (step.RemoteTau j g) remote
      (remote_fires j (trigger.Tau g) value.Unit remote)
      (at_remote (remote_at remote after) None)
  tau_explained state g after idle is =
      let by = guard_id state g in
      record {
        row = tau_row by is.rule;
        only =
            remote_tau-only setting.protocol setting.mode by is.rule remote.place (trigger.Tau g)
            is.there is.tau (sym idle, refl);
        place = ap (λ (p : Part). Comm p.state) is.outcome;
        vars = ap (λ (p : Part). p.vars) is.outcome
            ∙ after_guard-vars setting.protocol.remote remote.vars by 0 is.rule is.there value.Unit;
        puts = refl;
        debts = refl;
      }

  -- ---- a request is sent

  -- the row of sending explains the request
  send_explained : (state : ℕ) (output : Chosen) (message : ℕ × Value) → remote.place ≡ Comm state
      → guard_at setting.protocol.remote state output.number ≡ Some output.rule
      → is_output_kind output.rule.kind ≡ true
      → given setting.protocol.messages remote.vars output.rule.kind ≡ Some message
      → RemoteExplained setting c (step.RemoteSend j) remote
      (remote_fires j (trigger.Send 0) value.Unit remote)
      (remote_requested j remote (guard_id state output.number) message)
  send_explained state output message idle there is_output gives =
      let protocol = setting.protocol in
      let by = guard_id state output.number in
      let rule = output.rule in
      let out = given-out protocol.messages remote.vars rule.kind message gives in
      let first = active-only protocol state output.number rule proper there is_output in
      record {
        row = send_row by message.0;
        only =
            remote_send-only protocol setting.mode by rule remote.place (trigger.Send 0) there
            message.0 out (sym idle, ap (λ (g : ℕ). trigger.Send g) first.number);
        place = refl;
        vars = refl;
        puts = (message.1, refl);
        debts = refl;
      }

  -- ---- the reply that is due is sent

  -- the row of a due remote explains the reply
  reply_explained : (g : GuardId) (rule : Rule) (message : ℕ × Value) (r : Request)
      → remote.place ≡ Due g → IsRemotePlace setting.protocol remote.place
      → guard_by setting.protocol.remote g ≡ Some rule
      → given setting.protocol.messages remote.vars rule.kind ≡ Some message
      → goes_down setting.protocol r.message ≡ true → reply_to setting r.message ≡ Some message.0
      → RemoteExplained setting c (step.RemoteReply j) remote
      (remote_fires j (trigger.Send 0) value.Unit remote) (replied setting j remote rule message)
  reply_explained g rule message r due right there gives down reply =
      let protocol = setting.protocol in
      let out = given-out protocol.messages remote.vars rule.kind message gives in
      let active : IsActiveGuard protocol g = subst (IsRemotePlace protocol) due right in
      record {
        row = due_row g rule message.0;
        only =
            remote_due-only protocol setting.mode g rule remote.place (trigger.Send 0) there
            message.0 out (is_reply_up-some protocol setting.mode r.message message.0 down reply)
            (sym due, ap (λ (i : ℕ). trigger.Send i) active.2);
        place = refl;
        vars = after_guard-vars protocol.remote remote.vars g 0 rule there value.Unit;
        puts = (message.1, refl);
        debts = refl;
      }

-- ---- the steps

module _ (setting : Setting) (proper : IsProper setting.protocol) (c : Config) (o : StepOutcome)
    (shaped : IsShaped setting c) where
  -- a local step is by its row
  pub RemoteTau-fires : (j g : ℕ) → outcome setting c (step.RemoteTau j g) ≡ Some o
      → FiresSo setting c o (step.RemoteTau j g)
  RemoteTau-fires j g did =
      let s = step.RemoteTau j g in
      let moves = RemoteTau-outcome setting c j g o did in
      let is = moves.is in
      let remote = moves.remote in
      remote-fires setting c s o did None j remote moves.left moves.there moves.outcome
      (λ r. trigger.Tau g) (λ r. value.Unit)
      (subst
      (RemoteExplained setting c s remote (remote_fires j (trigger.Tau g) value.Unit remote))
      (sym is.outcome)
      (tau_explained setting proper c j remote is.state g is.after is.idle is.step))

  -- that a request is sent is by its row
  pub RemoteSend-fires : (j : ℕ) → outcome setting c (step.RemoteSend j) ≡ Some o
      → FiresSo setting c o (step.RemoteSend j)
  RemoteSend-fires j did =
      let s = step.RemoteSend j in
      let moves = RemoteSend-outcome setting c j o did in
      let is = moves.is in
      let remote = moves.remote in
      remote-fires setting c s o did None j remote moves.left moves.there moves.outcome
      (λ r. trigger.Send 0) (λ r. value.Unit)
      (subst
      (RemoteExplained setting c s remote (remote_fires j (trigger.Send 0) value.Unit remote))
      (sym is.outcome)
      (send_explained setting proper c j remote is.state is.output is.message is.idle is.there
      is.is_output is.gives))

  -- the request of which a due remote owes the reply
  due_request : (j : ℕ) (remote : RemoteState) (left : RemoteOutcome) → j < count_of c
      → slice_get c.remotes j ≡ Some remote → (is : SendsReply setting j remote left)
      → (r : Request) × (goes_down setting.protocol r.message ≡ true)
      × (reply_to setting r.message ≡ Some is.message.0)
  due_request j remote left within there is =
      let protocol = setting.protocol in
      let v = view_at protocol c j in
      let same = get_or_from_slice_get c.remotes j remote nobody there in
      let place : v.remote.place ≡ Due is.guard =
      ap (λ (r : RemoteState). r.place) same ∙ is.due in
      let case = IsShaped-case setting c shaped j within in
      let phase = due-phase setting v is.guard case.in_phase place in
      let fits = phase.1.fits in
      let out = given-out protocol.messages remote.vars is.rule.kind is.message is.gives in
      let due = due_at-is protocol is.guard is.rule is.message.0 is.there out in (
        phase.0,
        awaited-down protocol proper c.home c.home.place j phase.0 phase.1.has.awaited,
        fits.2 ∙ sym fits.1 ∙ ap (due_at protocol) place ∙ due,
      )

  -- that a reply is sent which was due is by its row
  pub RemoteReply-fires : (j : ℕ) → outcome setting c (step.RemoteReply j) ≡ Some o
      → FiresSo setting c o (step.RemoteReply j)
  RemoteReply-fires j did =
      let s = step.RemoteReply j in
      let moves = RemoteReply-outcome setting c j o did in
      let is = moves.is in
      let remote = moves.remote in
      let right = shaped-place setting c j remote shaped moves.within moves.there in
      let request = due_request j remote moves.left moves.within moves.there is in
      remote-fires setting c s o did None j remote moves.left moves.there moves.outcome
      (λ r. trigger.Send 0) (λ r. value.Unit)
      (subst
      (RemoteExplained setting c s remote (remote_fires j (trigger.Send 0) value.Unit remote))
      (sym is.outcome)
      (reply_explained setting proper c j remote is.guard is.rule is.message request.0 is.due right
      is.there is.gives request.1 request.2))

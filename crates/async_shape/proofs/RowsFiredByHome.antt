-- A step of the home is explained by a row: a local step, a request taken, a reply or a request
-- sent. A request that is dropped fires none.
use Rattle.std.proofs.Common.{◌≡◌, ◌⊎◌, inl, inr, ℕ, List, Option, Some, None, refl, sym}
use Rattle.std.proofs.Common.{ap, subst, ◌∙◌}
use Rattle.std.specs.Option.{option_map, option_and_then}
use Rattle.proto_model.specs.Proper.{IsProper}
use Rattle.proto_model.specs.Guards.{guard_at, after_guard}
use Rattle.proto_model.specs.ValueTypes.{message_in}
use Rattle.proto_model.specs.RendezvousNext.{given}
use Rattle.proto_model.specs.declared.numbered.Value.{Value}
use Rattle.proto_model.specs.declared.numbered.Value.TheVariants as value
use Rattle.proto_model.specs.declared.numbered.Rule.{Rule}
use Rattle.proto_model.specs.declared.numbered.Body.{Body}
use Rattle.proto_model.specs.declared.rendezvous.Part.{Part}
use Rattle.controller_table.specs.OneRow.{IsOnlyRow}
use Rattle.controller_table.specs.Rows.{guard_id, tau_row, send_row, take_row, pay_row, home_rows}
use Rattle.controller_table.specs.declared.rows.Place.TheVariants.{Comm}
use Rattle.controller_table.specs.declared.rows.Trigger.TheVariants as trigger
use Rattle.slot_reserve.specs.Requests.{first_of}
use Rattle.slot_reserve.specs.declared.held.Held.{Held}
use Rattle.async_shape.specs.Setting.{Setting, reply_to}
use Rattle.async_shape.specs.Config.{Config, count_of, owed_to}
use Rattle.async_shape.specs.Guards.{Chosen}
use Rattle.async_shape.specs.Requests.{Taking, taking_guard, taking}
use Rattle.async_shape.specs.Outcome.{HomeOutcome, at_home, home_at}
use Rattle.async_shape.specs.HomeSteps.{request_taken, paid, requested}
use Rattle.async_shape.specs.Next.{StepOutcome, outcome}
use Rattle.async_shape.specs.View.{view_at}
use Rattle.async_shape.specs.Phase.{IsInPhase}
use Rattle.async_shape.specs.Shape.{IsShaped}
use Rattle.async_shape.specs.Fired.{Firing, row_place, home_fires, send_trigger, fired}
use Rattle.async_shape.specs.declared.config.HomeState.{HomeState}
use Rattle.async_shape.specs.declared.config.HomePlace.TheVariants.{Idle}
use Rattle.async_shape.specs.declared.step.Step.TheVariants as step
use Rattle.proto_model.proofs.ProperFacts.{goes_up-there, home_input-up}
use Rattle.async_shape.proofs.GuardsFound.{IsLocalStep}
use Rattle.async_shape.proofs.HomeInversion.{Pays, Asks}
use Rattle.async_shape.proofs.StepInversion.{HomeTau-outcome, HomeTake-outcome}
use Rattle.async_shape.proofs.StepInversion.{HomeSend-outcome, HomeDrop-outcome}
use Rattle.async_shape.proofs.Phases.{owed-phase}
use Rattle.async_shape.proofs.RepliesThere.{is_reply_down-some}
use Rattle.async_shape.proofs.RowsThere.{home_tau-only, home_take-only, home_send-only}
use Rattle.async_shape.proofs.RowsThere.{home_pay-only}
use Rattle.async_shape.proofs.WaitedMessages.{given-out, waits-up}
use Rattle.async_shape.proofs.ShapeParts.{IsShaped-case}
use Rattle.async_shape.proofs.RowsFired.{after_guard-vars, HomeExplained}
use Rattle.async_shape.proofs.RowsFired.{FiresBy, FiresSo, home-by_row, home-stays}

-- the home is idle in this state
module _ (setting : Setting) (proper : IsProper setting.protocol) (c : Config) (state : ℕ)
    (idle : c.home.place ≡ Idle state) where
  -- the place that the row names is the home's
  stands : Comm state ≡ row_place c.home.place
  stands = sym (ap row_place idle)

  -- ---- a local step

  -- the row of the local step explains it
  tau_explained : (g : ℕ) (after : Part)
      → IsLocalStep setting.protocol.home state c.home.vars g after
      → HomeExplained setting c (step.HomeTau g) (home_fires c (trigger.Tau g) value.Unit)
      (at_home (home_at c.home after) c.held None)
  tau_explained g after is =
      let by = guard_id state g in
      record {
        row = tau_row by is.rule;
        only =
            home_tau-only setting.protocol setting.mode by is.rule (row_place c.home.place)
            (trigger.Tau g) is.there is.tau (stands, refl);
        place = ap (λ (p : Part). Comm p.state) is.outcome;
        vars = ap (λ (p : Part). p.vars) is.outcome
            ∙ after_guard-vars setting.protocol.home c.home.vars by 0 is.rule is.there value.Unit;
        puts = refl;
        debts = refl;
      }

  -- ---- a request is taken

  -- the home after this guard, with this partner and this value
  abbrev completed_by : Rule → ℕ → Value → HomeState
  completed_by rule j v =
      home_at c.home (after_guard setting.protocol.home c.home.vars rule rule.next j v)

  -- the row by which the request is taken is the only one
  take-only : (g m : ℕ) (rule : Rule) (reply : Option ℕ)
      → guard_at setting.protocol.home state g ≡ Some rule → message_in rule.kind ≡ Some m
      → reply_to setting m ≡ reply
      → IsOnlyRow (home_rows setting.protocol setting.mode) (row_place c.home.place)
      (trigger.Take g) (Some (take_row (guard_id state g) rule reply))
  take-only g m rule reply there takes same =
      let protocol = setting.protocol in
      let up = home_input-up protocol state g rule proper m there takes in
      home_take-only protocol setting.mode (guard_id state g) rule (row_place c.home.place)
      (trigger.Take g) there m reply takes (goes_up-there protocol m up) same (stands, refl)

  -- the row by which the request is taken explains the ack, or the debt
  take_explained : (g j : ℕ) (rule : Rule) (request : Held) (reply : Option ℕ)
      → guard_at setting.protocol.home state g ≡ Some rule
      → message_in rule.kind ≡ Some request.message → reply_to setting request.message ≡ reply
      → HomeExplained setting c (step.HomeTake j)
      (home_fires c (trigger.Take g) request.value)
      (request_taken c.held j (completed_by rule j request.value) reply)
  take_explained g j rule request None there takes same =
      let by = guard_id state g in
      record {
        row = take_row by rule None;
        only = take-only g request.message rule None there takes same;
        place = refl;
        vars = after_guard-vars setting.protocol.home c.home.vars by j rule there request.value;
        puts = refl;
        debts = refl;
      }
  take_explained g j rule request (Some p) there takes same =
      let by = guard_id state g in
      record {
        row = take_row by rule (Some p);
        only = take-only g request.message rule (Some p) there takes same;
        place = refl;
        vars = after_guard-vars setting.protocol.home c.home.vars by j rule there request.value;
        puts = refl;
        debts = refl;
      }

  -- ---- a reply or a request is sent

  -- what moves the home where it sends to j by guard g
  abbrev send_fires : ℕ → ℕ → Firing
  send_fires g j = home_fires c (send_trigger g (owed_to c.home j)) value.Unit

  -- the row of paying explains the reply
  pay_explained : (g j : ℕ) (rule : Rule) (message : ℕ × Value)
      → IsInPhase setting (view_at setting.protocol c j)
      → guard_at setting.protocol.home state g ≡ Some rule
      → given setting.protocol.messages c.home.vars rule.kind ≡ Some message
      → owed_to c.home j ≡ Some message.0
      → HomeExplained setting c (step.HomeSend g j) (send_fires g j)
      (paid setting c.home c.held j rule message)
  pay_explained g j rule message phase there gives owed =
      let protocol = setting.protocol in
      let by = guard_id state g in
      let out = given-out protocol.messages c.home.vars rule.kind message gives in
      let v = view_at protocol c j in
      let owes = owed-phase setting v message.0 phase owed in
      let q = owes.0 in
      let up = waits-up protocol proper q v.remote owes.2.fits.0 in
      let is_reply =
      is_reply_down-some protocol setting.mode q.message message.0 up owes.2.fits.2 in
      record {
        row = pay_row by rule message.0;
        only =
            home_pay-only protocol setting.mode by rule (row_place c.home.place)
            (send_trigger g (owed_to c.home j)) there message.0 out is_reply
            (stands, sym (ap (send_trigger g) owed));
        place = refl;
        vars = after_guard-vars protocol.home c.home.vars by j rule there value.Unit;
        puts = (message.1, refl);
        debts = refl;
      }

  -- the row of sending explains the request
  ask_explained : (g j : ℕ) (rule : Rule) (message : ℕ × Value)
      → guard_at setting.protocol.home state g ≡ Some rule
      → given setting.protocol.messages c.home.vars rule.kind ≡ Some message
      → owed_to c.home j ≡ None
      → HomeExplained setting c (step.HomeSend g j) (send_fires g j)
      (requested c.home c.held j (guard_id state g) message)
  ask_explained g j rule message there gives owed =
      let protocol = setting.protocol in
      let by = guard_id state g in
      let out = given-out protocol.messages c.home.vars rule.kind message gives in
      record {
        row = send_row by message.0;
        only =
            home_send-only protocol setting.mode by rule (row_place c.home.place)
            (send_trigger g (owed_to c.home j)) there message.0 out
            (stands, sym (ap (send_trigger g) owed));
        place = refl;
        vars = refl;
        puts = (message.1, refl);
        debts = refl;
      }

  -- so one of the two explains what is sent
  send_explained : (g j : ℕ) (rule : Rule) (message : ℕ × Value) (left : HomeOutcome)
      → IsInPhase setting (view_at setting.protocol c j)
      → guard_at setting.protocol.home state g ≡ Some rule
      → given setting.protocol.messages c.home.vars rule.kind ≡ Some message
      → Pays setting c.home c.held j rule message left
      ⊎ Asks setting (count_of c) c.home c.held j (guard_id state g) message left
      → HomeExplained setting c (step.HomeSend g j) (send_fires g j) left
  send_explained g j rule message left phase there gives (inl pays) =
      subst (HomeExplained setting c (step.HomeSend g j) (send_fires g j)) (sym pays.outcome)
      (pay_explained g j rule message phase there gives pays.owed)
  send_explained g j rule message left phase there gives (inr asks) =
      subst (HomeExplained setting c (step.HomeSend g j) (send_fires g j)) (sym asks.outcome)
      (ask_explained g j rule message there gives asks.owed)

-- ---- the steps

-- what is taken of j is its first request, by the guard that this completes
taking-is : (n : ℕ) (body : Body) (home : HomeState) (held : List Held) (j : ℕ) (request : Held)
    (guard : Chosen) → first_of j held ≡ Some request
    → taking_guard n body home request ≡ Some guard
    → taking n body home held j ≡ Some (record { request = request; guard = guard })
taking-is n body home held j request guard first chosen =
    let make : Held → Chosen → Taking = λ r g. record { request = r; guard = g } in
    ap (option_and_then (λ (r : Held). option_map (make r) (taking_guard n body home r))) first
    ∙ ap (option_map (make request)) chosen

module _ (setting : Setting) (proper : IsProper setting.protocol) (c : Config) (o : StepOutcome)
    (shaped : IsShaped setting c) where
  -- a local step is by its row
  pub HomeTau-fires : (g : ℕ) → outcome setting c (step.HomeTau g) ≡ Some o
      → FiresSo setting c o (step.HomeTau g)
  HomeTau-fires g did =
      let s = step.HomeTau g in
      let moves = HomeTau-outcome setting c g o did in
      let is = moves.is in
      let firing = home_fires c (trigger.Tau g) value.Unit in
      home-by_row setting c s o did None moves.left moves.outcome firing
      (subst (HomeExplained setting c s firing) (sym is.outcome)
      (tau_explained setting proper c is.state is.idle g is.after is.step))

  -- that a request is taken is by its row
  pub HomeTake-fires : (j : ℕ) → outcome setting c (step.HomeTake j) ≡ Some o
      → FiresSo setting c o (step.HomeTake j)
  HomeTake-fires j did =
      let s = step.HomeTake j in
      let moves = (HomeTake-outcome setting c j o did).1 in
      let is = moves.is in
      let fire : Taking → Firing =
      λ what. home_fires c (trigger.Take what.guard.number) what.request.value in
      let firing = home_fires c (trigger.Take is.guard.number) is.request.value in
      let fires : fired setting.protocol c s ≡ Some firing =
      ap (option_map fire)
      (taking-is (count_of c) setting.protocol.home c.home c.held j is.request is.guard is.first
      is.chosen) in
      subst (FiresBy setting c o s) (sym fires)
      (home-by_row setting c s o did None moves.left moves.outcome firing
      (subst (HomeExplained setting c s firing) (sym is.outcome)
      (take_explained setting proper c is.state is.idle is.guard.number j is.guard.rule is.request
      (reply_to setting is.request.message) is.there is.input refl)))

  -- that a reply or a request is sent is by its row
  pub HomeSend-fires : (g j : ℕ) → outcome setting c (step.HomeSend g j) ≡ Some o
      → FiresSo setting c o (step.HomeSend g j)
  HomeSend-fires g j did =
      let s = step.HomeSend g j in
      let at = HomeSend-outcome setting c g j o did in
      let moves = at.1 in
      let is = moves.is in
      let case = IsShaped-case setting c shaped j at.0 in
      home-by_row setting c s o did None moves.left moves.outcome
      (home_fires c (send_trigger g (owed_to c.home j)) value.Unit)
      (send_explained setting proper c is.state is.idle g j is.rule is.message moves.left
      case.in_phase is.there is.gives is.how)

  -- that a request is dropped is by no row
  pub HomeDrop-fires : (j : ℕ) → outcome setting c (step.HomeDrop j) ≡ Some o
      → FiresSo setting c o (step.HomeDrop j)
  HomeDrop-fires j did =
      let s = step.HomeDrop j in
      let moves = (HomeDrop-outcome setting c j o did).1 in
      home-stays setting c s o did None moves.left moves.outcome
      (ap (λ (left : HomeOutcome). left.home) moves.is.outcome)

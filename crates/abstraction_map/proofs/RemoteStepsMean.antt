-- A step at a remote means what is told of it: a local step is one, and a request is a stutter. The
-- answer to a request of the home is in `RemoteAnswersMean`.
use Rattle.std.proofs.Common.{◌≡◌, ℕ, ◌<◌, false, length-set, Some, None, refl, sym, ap, subst, ◌∙◌}
use Rattle.proto_model.specs.Guards.{part}
use Rattle.controller_table.specs.Rows.{guard_id}
use Rattle.controller_table.specs.declared.rows.Place.{Place}
use Rattle.async_shape.specs.Setting.{Setting}
use Rattle.async_shape.specs.Config.{Config, count_of}
use Rattle.async_shape.specs.Outcome.{RemoteOutcome, at_remote, remote_at}
use Rattle.async_shape.specs.RemoteSteps.{remote_requested}
use Rattle.async_shape.specs.Next.{StepOutcome, remote_moved, outcome}
use Rattle.async_shape.specs.View.{View, view_at}
use Rattle.async_shape.specs.Phase.{Resting, RequestComes, RequestInSlot, AnswerGoes, is_idle_place}
use Rattle.async_shape.specs.Shape.{IsShaped}
use Rattle.async_shape.specs.declared.step.Step.TheVariants as step
use Rattle.async_shape.proofs.ShapeParts.{IsShaped-case}
use Rattle.async_shape.proofs.Phases.{IdlePhase, Rests, Comes, InSlot, Answered, idle-phase}
use Rattle.async_shape.proofs.RemoteInversion.{RemoteTakesTau, SendsRequest}
use Rattle.async_shape.proofs.StepInversion.{RemoteTau-outcome, RemoteSend-outcome}
use Rattle.abstraction_map.specs.Abstraction.{NotGranted, fate_in, is_due, remote_fate}
use Rattle.abstraction_map.specs.Abstraction.{awaited_fate, part_in_view}
use Rattle.abstraction_map.proofs.Fates.{fate_in-put_request, remote_fate-is}
use Rattle.abstraction_map.proofs.ByCase.{part-idle, part-waiting, home_stands}
use Rattle.abstraction_map.proofs.Frames.{after_remote, view_after, remote_step-view}
use Rattle.abstraction_map.proofs.Frames.{remote_step-others, remote_step-home, remote_step-stutter}
use Rattle.abstraction_map.proofs.Events.{BothMoved, TauRemote-is}
use Rattle.abstraction_map.proofs.Behind.{IsBehind, IsBehind-remote_step}

-- Nothing was granted to an idle remote.
idle-not_granted : (setting : Setting) (v : View) → IdlePhase setting v → remote_fate v ≡ NotGranted
idle-not_granted setting v (Rests is) = remote_fate-is setting v Resting is
idle-not_granted setting v (Comes r is) = remote_fate-is setting v (RequestComes r) is
idle-not_granted setting v (InSlot r is) = remote_fate-is setting v (RequestInSlot r) is
idle-not_granted setting v (Answered r answer is) =
    remote_fate-is setting v (AnswerGoes r answer) is

-- ---- remote j, which is there

module _ (setting : Setting) (c : Config) (shaped : IsShaped setting c) (j : ℕ)
    (within : j < count_of c) where
  -- the view of j
  abbrev now : View
  now = view_at setting.protocol c j

  -- a local step of a remote is an event
  RemoteTau-by : (g : ℕ) (left : RemoteOutcome) → RemoteTakesTau setting now.remote g left
      → IsBehind setting c (step.RemoteTau j g) (remote_moved c None j left)
  RemoteTau-by g left is =
      let protocol = setting.protocol in
      let body = protocol.remote in
      let o = at_remote (remote_at now.remote is.after) None in
      let awaited : awaited_fate (view_after protocol c None j o) ≡ awaited_fate now =
      ap (λ (p : Place). fate_in now.up (is_due p)) (sym is.idle) in
      let was = part is.state now.remote.vars in
      let stands = home_stands protocol c in
      let both : BothMoved protocol c (after_remote c None j o) j stands was stands is.after =
      record {
        within = within;
        count = length-set c.remotes j o.remote;
        home_was = refl;
        home_is = remote_step-home setting c shaped None j within o tt tt awaited;
        remote_was = part-idle body now is.state is.idle;
        remote_is =
            ap (part_in_view body) (remote_step-view setting c shaped None j within o tt tt)
            ∙ part-idle body (view_after protocol c None j o) is.after.state refl;
        others = λ q apart.
            (remote_step-others setting c shaped None j within o tt tt q apart).part;
      } in
      subst
      (λ (l : RemoteOutcome). IsBehind setting c (step.RemoteTau j g) (remote_moved c None j l))
      (sym is.outcome)
      (TauRemote-is protocol c (after_remote c None j o) j g stands was is.after both is.step)

  -- a request of a remote is a stutter
  RemoteSend-by : (left : RemoteOutcome) → SendsRequest setting j now.remote left
      → IsBehind setting c (step.RemoteSend j) (remote_moved c None j left)
  RemoteSend-by left is =
      let body = setting.protocol.remote in
      let case = IsShaped-case setting c shaped j within in
      let g = guard_id is.state is.output.number in
      let o = remote_requested j now.remote g is.message in
      let v = view_after setting.protocol c None j o in
      let yet =
      idle-not_granted setting now
      (idle-phase setting now case.in_phase (ap is_idle_place is.idle)) in
      let awaited : awaited_fate v ≡ awaited_fate now =
      fate_in-put_request now.up is.message.0 is.message.1 false
      ∙ ap (λ (p : Place). fate_in now.up (is_due p)) (sym is.idle) in
      subst
      (λ (l : RemoteOutcome). IsBehind setting c (step.RemoteSend j) (remote_moved c None j l))
      (sym is.outcome)
      (remote_step-stutter setting c shaped None j within o refl tt awaited
      (part-waiting body v g NotGranted refl yet ∙ sym (part-idle body now is.state is.idle)))

-- ---- the two kinds of step

module _ (setting : Setting) (c : Config) (shaped : IsShaped setting c) (j : ℕ) where
  -- RemoteTau(j, g) means what is told of it.
  pub RemoteTau-means : (g : ℕ) (o : StepOutcome)
      → outcome setting c (step.RemoteTau j g) ≡ Some o → IsBehind setting c (step.RemoteTau j g) o
  RemoteTau-means g o did =
      IsBehind-remote_step setting c None j (step.RemoteTau j g)
      (λ remote left. RemoteTakesTau setting remote g left) o
      (RemoteTau-outcome setting c j g o did)
      (λ left within there is. RemoteTau-by setting c shaped j within g left is)

  -- RemoteSend(j) means what is told of it.
  pub RemoteSend-means : (o : StepOutcome) → outcome setting c (step.RemoteSend j) ≡ Some o
      → IsBehind setting c (step.RemoteSend j) o
  RemoteSend-means o did =
      IsBehind-remote_step setting c None j (step.RemoteSend j) (SendsRequest setting j) o
      (RemoteSend-outcome setting c j o did)
      (λ left within there is. RemoteSend-by setting c shaped j within left is)

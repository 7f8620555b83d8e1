-- A packet that arrives at a remote is a stutter: a request goes to the slot or is dropped, and one
-- that hears an answer does what the abstraction did when the answer was put.
use Rattle.std.proofs.Common.{◌≡◌, ℕ, ◌<◌, false, drop, Some, None, refl, sym}
use Rattle.std.proofs.Common.{ap, subst, inl, inr, ◌∙◌}
use Rattle.proto_model.specs.Proper.{IsProper}
use Rattle.proto_model.specs.Guards.{part}
use Rattle.proto_model.specs.declared.numbered.Value.{Value}
use Rattle.proto_model.specs.declared.numbered.Body.{Body}
use Rattle.controller_table.specs.declared.rows.GuardId.{GuardId}
use Rattle.controller_table.specs.declared.rows.Place.{Place}
use Rattle.controller_table.specs.declared.rows.Place.TheVariants.{Trans}
use Rattle.ordered_links.specs.Link.{Down}
use Rattle.ordered_links.specs.Lists.{first_packet}
use Rattle.ordered_links.specs.declared.packet.Packet.{Packet}
use Rattle.ordered_links.specs.declared.packet.Packet.TheVariants as packet
use Rattle.async_shape.specs.Setting.{Setting}
use Rattle.async_shape.specs.Config.{Config, count_of}
use Rattle.async_shape.specs.Guards.{request_of}
use Rattle.async_shape.specs.Outcome.{RemoteOutcome, at_remote, remote_at}
use Rattle.async_shape.specs.RemoteSteps.{down_idle, down_waiting}
use Rattle.async_shape.specs.Next.{StepOutcome, remote_moved, outcome}
use Rattle.async_shape.specs.View.{View, view_at}
use Rattle.async_shape.specs.Phase.{AnswerComes, Case}
use Rattle.async_shape.specs.Shape.{IsShaped}
use Rattle.ordered_links.specs.Packets.{is_request}
use Rattle.async_shape.specs.declared.config.RemoteState.{RemoteState}
use Rattle.async_shape.specs.declared.step.Step.TheVariants as step
use Rattle.async_shape.proofs.ShapeParts.{IsShaped-case}
use Rattle.async_shape.proofs.Phases.{down_answer-phase}
use Rattle.async_shape.proofs.RemoteInversion.{ReachesIdle, ReachesDue, down-by}
use Rattle.async_shape.proofs.StepInversion.{ArrivesDown, Down-outcome}
use Rattle.async_shape.proofs.Phases.{first-rest}
use Rattle.abstraction_map.specs.Abstraction.{Fate, fate_in, is_due, remote_fate, remote_part}
use Rattle.abstraction_map.specs.Abstraction.{part_in_view, abstraction}
use Rattle.abstraction_map.proofs.Fates.{fate_by, fate_in-take_request, remote_fate-is}
use Rattle.abstraction_map.proofs.ByCase.{waiting_part-heard, down_waiting-heard, part-idle}
use Rattle.abstraction_map.proofs.ByCase.{part-due, part-waiting}
use Rattle.abstraction_map.proofs.Frames.{after_remote, view_after, remote_step-stutter}
use Rattle.abstraction_map.proofs.Behind.{IsBehind, IsBehind-remote_step}
use Rattle.abstraction_map.proofs.WaitingRemote.{waits-to_give}
use Rattle.abstraction_map.proofs.Heard.{Hears, remote-hears}

-- A packet that arrives at an idle remote changes its slot at most.
down_idle-stays : (remote : RemoteState) (arrived : Packet)
    → ((down_idle remote arrived).place ≡ remote.place)
    × ((down_idle remote arrived).vars ≡ remote.vars)
down_idle-stays remote (packet.Request m v) = (refl, refl)
down_idle-stays remote packet.Ack = (refl, refl)
down_idle-stays remote packet.Nack = (refl, refl)
down_idle-stays remote (packet.Reply p v) = (refl, refl)

module _ (setting : Setting) (proper : IsProper setting.protocol) (c : Config)
    (shaped : IsShaped setting c) (j : ℕ) (within : j < count_of c) where
  -- the body of a remote
  abbrev body : Body
  body = setting.protocol.remote

  -- what is under way between the home and j
  abbrev now : View
  now = view_at setting.protocol c j

  -- the case of j
  case : Case setting now
  case = IsShaped-case setting c shaped j within

  -- the view of the remote where it stands so and the packet is gone
  abbrev moved : RemoteState → View
  moved remote = view_after setting.protocol c (Some (Down j)) j (at_remote remote None)

  -- It is a stutter where the step leaves this at the remote.
  abbrev Stutters : RemoteOutcome → Type 0
  Stutters left =
      abstraction setting.protocol (after_remote c (Some (Down j)) j left)
      ≡ abstraction setting.protocol c

  -- It is one where j stands where it stood and has done with the home's request what it had done.
  stutters : (remote : RemoteState)
      → fate_in now.up (is_due remote.place) ≡ fate_in now.up (is_due now.remote.place)
      → part_in_view body (moved remote) ≡ part_in_view body now
      → Stutters (at_remote remote None)
  stutters remote awaited stands =
      remote_step-stutter setting c shaped (Some (Down j)) j within (at_remote remote None) tt refl
      awaited stands

  -- ---- the remote is idle, or due

  -- an idle remote stands as it is
  idle-stutters : (arrived : Packet) → ReachesIdle setting now.remote arrived
      → Stutters (at_remote (down_idle now.remote arrived) None)
  idle-stutters arrived is =
      let remote = down_idle now.remote arrived in
      let stays = down_idle-stays now.remote arrived in
      stutters remote (ap (λ (p : Place). fate_in now.up (is_due p)) stays.0)
      (part-idle body (moved remote) is.state (stays.0 ∙ is.idle)
      ∙ ap (part is.state) stays.1
      ∙ sym (part-idle body now is.state is.idle))

  -- a due remote stands in its active state, whatever comes
  due-stutters : (arrived : Packet) → ReachesDue setting now.remote arrived
      → Stutters (at_remote now.remote None)
  due-stutters arrived is =
      stutters now.remote refl
      (part-due body (moved now.remote) is.guard is.due ∙ sym (part-due body now is.guard is.due))

  -- ---- the remote waits

  -- a request is dropped
  dropped-stutters : (m : ℕ) (v : Value) → first_packet now.down ≡ Some (packet.Request m v)
      → Stutters (at_remote now.remote None)
  dropped-stutters m v first =
      let comes = first-rest now.down (packet.Request m v) first in
      stutters now.remote refl
      (ap (λ (f : Fate). remote_part body now.remote.vars f now.remote.place)
      (fate_in-take_request now.down (drop 1 now.down) (request_of (m, v)) _ comes))

  -- what is known where an answer comes down first
  record IsHeard (g : GuardId) (answer : Packet) : Type 0 where
    became : remote_fate now ≡ fate_by answer
    hears : Hears body now.remote.vars g 0 answer

  -- An answer decides, and the remote hears it.
  heard : (g : GuardId) (answer : Packet) → now.remote.place ≡ Trans g
      → is_request answer ≡ false → first_packet now.down ≡ Some answer → IsHeard g answer
  heard g answer waits none first =
      let protocol = setting.protocol in
      let gets =
      down_answer-phase setting now answer (drop 1 now.down) case.in_phase none
      (first-rest now.down answer first) in
      let phase = AnswerComes gets.0 None answer now.awaited in
      let by = waits-to_give protocol now gets.0 proper case.typed gets.2.fits.0 in
      let waits_by = by.waits in
      let same : by.guard ≡ g = cc in
      record {
        became = remote_fate-is setting now phase gets.2;
        hears =
            subst (λ (h : GuardId). Hears body now.remote.vars h 0 answer) same
            (remote-hears setting proper by.guard by.rule gets.0.message by.out now.remote.vars 0
            answer gets.2.fits.2 by.there);
      }

  -- The remote goes where it stood in the abstraction.
  heard-stutters : (g : GuardId) (answer : Packet) → now.remote.place ≡ Trans g
      → is_request answer ≡ false → first_packet now.down ≡ Some answer
      → Stutters (at_remote (down_waiting body now.remote g answer) None)
  heard-stutters g answer waits none first =
      let is = heard g answer waits none first in
      let stands = is.hears.0 in
      let remote = remote_at now.remote stands in
      subst (λ (r : RemoteState). Stutters (at_remote r None))
      (sym (down_waiting-heard body now.remote g answer stands none is.hears.1))
      (stutters remote (ap (λ (p : Place). fate_in now.up (is_due p)) (sym waits))
      (sym (part-waiting body now g (fate_by answer) waits is.became
      ∙ waiting_part-heard body now.remote.vars g 0 answer stands is.hears.1)))

  -- a packet reaches a remote that waits
  waiting-stutters : (g : GuardId) (arrived : Packet) → now.remote.place ≡ Trans g
      → first_packet now.down ≡ Some arrived
      → Stutters (at_remote (down_waiting body now.remote g arrived) None)
  waiting-stutters g (packet.Request m v) waits first = dropped-stutters m v first
  waiting-stutters g packet.Ack waits first = heard-stutters g packet.Ack waits refl first
  waiting-stutters g packet.Nack waits first = heard-stutters g packet.Nack waits refl first
  waiting-stutters g (packet.Reply p v) waits first =
      heard-stutters g (packet.Reply p v) waits refl first

  -- ---- whom the packet reaches

  -- what is behind the arrival
  Down-by : (left : RemoteOutcome) → ArrivesDown setting c j now.remote left
      → IsBehind setting c (step.Down j) (remote_moved c (Some (Down j)) j left)
  Down-by left is =
      subst Stutters (sym is.outcome)
      (elim (down-by setting now.remote is.arrived) [
        | inl idle ↦ subst Stutters (sym idle.outcome) (idle-stutters is.arrived idle)
        | inr others ↦ elim others [
          | inl waiting ↦
              subst Stutters (sym waiting.outcome)
              (waiting-stutters waiting.guard is.arrived waiting.waits is.first)
          | inr due ↦ subst Stutters (sym due.outcome) (due-stutters is.arrived due)
        ]
      ])

-- A packet that arrives at remote j is a stutter.
pub Down-means : (setting : Setting) → IsProper setting.protocol → (c : Config)
    → IsShaped setting c → (j : ℕ) (o : StepOutcome) → outcome setting c (step.Down j) ≡ Some o
    → IsBehind setting c (step.Down j) o
Down-means setting proper c shaped j o did =
    IsBehind-remote_step setting c (Some (Down j)) j (step.Down j) (ArrivesDown setting c j) o
    (Down-outcome setting c j o did)
    (λ left within there is. Down-by setting proper c shaped j within left is)

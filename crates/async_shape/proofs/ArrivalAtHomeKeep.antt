-- A packet that arrives at the home keeps the shape.
use Rattle.std.proofs.Common.{◌≡◌, inl, inr, ℕ, ◌<◌, ◌≤◌, drop, Some, refl, sym, ap, subst, ◌∙◌}
use Rattle.std.proofs.Common.{arith}
use Rattle.proto_model.specs.Proper.{IsProper}
use Rattle.ordered_links.specs.Link.{Up}
use Rattle.ordered_links.specs.Lists.{first_packet}
use Rattle.ordered_links.specs.declared.packet.Packet.{Packet}
use Rattle.async_shape.specs.Setting.{Setting}
use Rattle.async_shape.specs.Config.{Config, count_of}
use Rattle.async_shape.specs.Outcome.{HomeOutcome}
use Rattle.async_shape.specs.HomeSteps.{request_from, up_answer, up_request, up_other, up}
use Rattle.async_shape.specs.Next.{StepOutcome, config_after, home_moved, outcome}
use Rattle.async_shape.specs.View.{view_at}
use Rattle.async_shape.specs.Phase.{IsTypedMessage, IsTypedPacket, Case}
use Rattle.async_shape.specs.Shape.{IsWhole, IsShaped}
use Rattle.async_shape.specs.declared.step.Step.TheVariants as step
use Rattle.async_shape.proofs.ArrivalInversion.{IsReached, up-by, IsNotOn-awaited, up_request-by}
use Rattle.async_shape.proofs.StepInversion.{Up-outcome}
use Rattle.async_shape.proofs.Phases.{up_free-phase}
use Rattle.async_shape.proofs.HomeMoves.{IsShaped-home_moved}
use Rattle.async_shape.proofs.ShapeParts.{IsShaped-whole, IsShaped-case}
use Rattle.async_shape.proofs.ArrivedAtHome.{Keeps, comes_up, typed_up}
use Rattle.async_shape.proofs.AnswerAtHomeKeeps.{answered_keeps}
use Rattle.async_shape.proofs.RequestAtHomeKeeps.{kept_keeps, refused_keeps, last_within}
use Rattle.async_shape.proofs.RequestAtHomeKeeps.{displaced_shaped}

module _ (setting : Setting) (proper : IsProper setting.protocol) (c : Config) (j : ℕ)
    (shaped : IsShaped setting c) (within : j < count_of c) where
  -- the part for the whole
  right : IsWhole setting c
  right = IsShaped-whole setting c shaped

  -- the case of each remote
  case_of : (q : ℕ) → q < count_of c → Case setting (view_at setting.protocol c q)
  case_of = IsShaped-case setting c shaped

  -- the configuration where a packet of j has arrived, and the home leaves this, has the shape
  abbrev LeavesShape : HomeOutcome → Type 0
  LeavesShape left = IsShaped setting (config_after c (home_moved c (Some (Up j)) left))

  -- what keeps the shape in the view of j keeps it
  kept_shaped : (left : HomeOutcome) → Keeps setting c j left → LeavesShape left
  kept_shaped left kept =
      IsShaped-home_moved setting c (Some (Up j)) left j within kept.put refl shaped kept.whole
      kept.alone kept.again

  -- a packet from a remote on which the home doesn't wait keeps the shape
  reached_shaped : (arrived : Packet)
      → first_packet (view_at setting.protocol c j).up ≡ Some arrived
      → IsReached setting (count_of c) c.home c.held j arrived
      → LeavesShape (up setting (count_of c) c.home c.held j arrived)
  reached_shaped arrived first reached =
      let v = view_at setting.protocol c j in
      let case = case_of j within in
      let free = IsNotOn-awaited setting.protocol c.home j reached.not_on in
      let sends =
      up_free-phase setting v arrived (drop 1 v.up) case.in_phase free
      (comes_up setting c j case arrived first) in
      let q = sends.0 in
      let request = request_from j q.message q.value in
      let typed : IsTypedMessage setting.protocol q.message q.value =
      subst (IsTypedPacket setting.protocol) sends.1 (typed_up setting c j case arrived first).0 in
      let did : up setting (count_of c) c.home c.held j arrived
      ≡ up_request setting (count_of c) c.home c.held request =
      reached.outcome
      ∙ ap (λ (p : Packet). up_other setting (count_of c) c.home c.held j p) sends.1 in
      let some : 1 ≤ setting.slots = let two = right.some_slots in omega arith in
      subst LeavesShape (sym did)
      (elim (up_request-by setting (count_of c) c.home c.held request some) [
        | inl kept ↦
            kept_shaped (up_request setting (count_of c) c.home c.held request)
            (kept_keeps setting c j right within case q sends.3 free sends.2 typed kept)
        | inr others ↦ elim others [
          | inl displacing ↦
              let last = displacing.last in
              let x_within =
              last_within setting c j shaped right within case q sends.3 free sends.2 typed last
              displacing.there in
              subst LeavesShape (sym displacing.outcome)
              (displaced_shaped setting c j shaped right within case q sends.3 free sends.2 typed
              last displacing.there displacing.idle (case_of last.from x_within))
          | inr refused ↦
              kept_shaped (up_request setting (count_of c) c.home c.held request)
              (refused_keeps setting c j right within case q sends.3 free sends.2 typed refused)
        ]
      ])

  -- any packet that arrives keeps the shape
  arrived_shaped : (arrived : Packet)
      → first_packet (view_at setting.protocol c j).up ≡ Some arrived
      → LeavesShape (up setting (count_of c) c.home c.held j arrived)
  arrived_shaped arrived first =
      elim (up-by setting (count_of c) c.home c.held j arrived) [
        | inl answered ↦
            subst LeavesShape (sym answered.outcome)
            (kept_shaped
            (up_answer setting.protocol.home c.home c.held j answered.on.waiting arrived)
            (answered_keeps setting proper c j right within (case_of j within) answered.on.waiting
            answered.on.waits answered.on.on arrived first))
        | inr reached ↦ reached_shaped arrived first reached
      ]

-- A packet that arrives at the home keeps the shape.
pub IsShaped-Up : (setting : Setting) → IsProper setting.protocol → (c : Config) (j : ℕ)
    (o : StepOutcome) → IsShaped setting c → outcome setting c (step.Up j) ≡ Some o
    → IsShaped setting (config_after c o)
IsShaped-Up setting proper c j o shaped did =
    let at = Up-outcome setting c j o did in
    let moves = at.1 in
    let is = moves.is in
    subst (λ (so : StepOutcome). IsShaped setting (config_after c so)) (sym moves.outcome)
    (subst
    (λ (left : HomeOutcome). IsShaped setting (config_after c (home_moved c (Some (Up j)) left)))
    (sym is.outcome)
    (arrived_shaped setting proper c j shaped at.0 is.arrived is.first))

-- What is known where a packet of a remote arrives at the home: the home waits on the remote, or
-- the packet is a request that it keeps, for which it makes room, or which it nacks.
use Rattle.std.proofs.Common.{◌≡◌, ◌⊎◌, inl, inr, ℕ, ◌<◌, ◌≤◌, drop, ap, ◌∙◌, arith}
use Rattle.ordered_links.specs.declared.packet.Packet.{Packet}
use Rattle.async_shape.specs.Setting.{Setting}
use Rattle.async_shape.specs.Config.{Config, count_of}
use Rattle.async_shape.specs.Outcome.{HomeOutcome}
use Rattle.async_shape.specs.HomeSteps.{request_from, up_answer, up_request, up_other}
use Rattle.async_shape.specs.View.{view_at}
use Rattle.async_shape.specs.Phase.{RequestGoes, as_packet}
use Rattle.async_shape.specs.Shape.{IsShaped}
use Rattle.async_shape.specs.declared.config.Request.{Request}
use Rattle.async_shape.proofs.ArrivalInversion.{WaitsOn, IsReached, IsNotOn-awaited, up-by, Fate}
use Rattle.async_shape.proofs.ArrivalInversion.{up_request-by}
use Rattle.async_shape.proofs.StepInversion.{ArrivesUp}
use Rattle.async_shape.proofs.Phases.{IsIn, up_free-phase, first-rest}
use Rattle.async_shape.proofs.ShapeParts.{IsShaped-whole, IsShaped-case}

module _ (setting : Setting) (c : Config) (j : ℕ) (arrived : Packet) where
  -- The home waits on j, and this packet of j arrives.
  pub record AnswerArrives (left : HomeOutcome) : Type 0 where
    pub on : WaitsOn c.home j
    pub outcome : left ≡ up_answer setting.protocol.home c.home c.held j on.waiting arrived

  -- The home doesn't wait on j, and what arrives is the request of j, which waits.
  pub record RequestArrives (left : HomeOutcome) : Type 0 where
    pub q : Request
    pub arrives : arrived ≡ as_packet q
    pub goes : IsIn setting (view_at setting.protocol c j) (RequestGoes q)
    pub outcome :
        left ≡ up_request setting (count_of c) c.home c.held (request_from j q.message q.value)
    pub fate : Fate setting (count_of c) c.home c.held (request_from j q.message q.value)

-- this packet of j arrives as the one or the other
abbrev pub Arrives : Setting → Config → ℕ → Packet → HomeOutcome → Type 0
Arrives setting c j arrived left =
    AnswerArrives setting c j arrived left ⊎ RequestArrives setting c j arrived left

module _ (setting : Setting) (c : Config) (shaped : IsShaped setting c) (j : ℕ)
    (within : j < count_of c) where
  -- where the home doesn't wait on j
  reached_by : (left : HomeOutcome) (is : ArrivesUp setting c j left)
      → IsReached setting (count_of c) c.home c.held j is.arrived
      → RequestArrives setting c j is.arrived left
  reached_by left is reached =
      let n = count_of c in
      let v = view_at setting.protocol c j in
      let sends =
      up_free-phase setting v is.arrived (drop 1 v.up)
      (IsShaped-case setting c shaped j within).in_phase
      (IsNotOn-awaited setting.protocol c.home j reached.not_on)
      (first-rest v.up is.arrived is.first) in
      let q = sends.0 in
      let some : 1 ≤ setting.slots =
      let two = (IsShaped-whole setting c shaped).some_slots in omega arith in
      record {
        q = q;
        arrives = sends.1;
        goes = sends.3;
        outcome = is.outcome ∙ reached.outcome
            ∙ ap (λ (p : Packet). up_other setting n c.home c.held j p) sends.1;
        fate =
            up_request-by setting n c.home c.held (request_from j q.message q.value) some;
      }

  -- the one or the other, by what the home waits for
  pub arrives-by : (left : HomeOutcome) (is : ArrivesUp setting c j left)
      → Arrives setting c j is.arrived left
  arrives-by left is = elim (up-by setting (count_of c) c.home c.held j is.arrived) [
    | inl answered ↦ inl (record { on = answered.on; outcome = is.outcome ∙ answered.outcome })
    | inr reached ↦ inr (reached_by left is reached)
  ]

-- How a run ends with its replay.
use Rattle.std.proofs.Common.{◌≡◌, ℕ, ◌+◌, min, true, [], ◌++◌, take, length, Some, None, sym, ◌∙◌}
use Rattle.std.proofs.Common.{ap, subst, refl, arith, inl, inr, ◌⊎◌, IfSome, append_assoc}
use Rattle.std.proofs.lemmas.List.{append-nil, take_min, take-append-le}
use Rattle.std.proofs.Math.Seq.{take-append-add}
use Rattle.std.specs.declared.option.Option.{Option}
use Rattle.std.specs.Io.KnownBytes.{append_known, IsAtEnd}
use Rattle.proto_model.specs.Tokens.{Text}
use Rattle.rv_base.specs.Whole.{TakesPart, TakesAtMost}
use Rattle.schedule_replay.specs.Play.{Play}
use Rattle.schedule_replay.specs.Played.{Stop, AtEnd, AtLine, TooMany, Halted, played, trace}
use Rattle.schedule_replay.specs.Replayed.{answer_of, LeavesAt, Decides, StopsSo, WritesSo}
use Rattle.schedule_replay.specs.Replayed.{is_decided}
use Rattle.schedule_replay.specs.declared.limits.Limits.{Limits}
use Rattle.schedule_replay.specs.declared.replaying.Replayed.{Replayed}
use Rattle.schedule_replay.specs.declared.replaying.Replayed.TheVariants as replay
use Rattle.rvc_top.specs.Texts.{bad_line_text, too_many_text}
use Rattle.rvc_top.specs.Commands.{said_at}
use Rattle.rvc_top.specs.Verdict.{IsSaid}
use Rattle.rvc_top.specs.Endings.{kind_of, IsDecided, PartWritten, Ends, IsOrFails}
use Rattle.rvc_top.specs.Reply.{Delivers, Concludes}
use Rattle.rvc_top.specs.declared.status.Status.{Status}
use Rattle.rvc_top.specs.declared.status.Status.TheVariants.{Done, ScheduleRefused}
use Rattle.rvc_top.specs.declared.status.Status.TheVariants.{WriteFault, NoMemory, ClaimBroken}
use Rattle.rvc_top.proofs.Conclusions.{status_by, error_by, said-status, said-text}
use Rattle.rvc_top.proofs.Conclusions.{by-conclusion, concluded-decided}
use Rattle.rvc_top.proofs.Endings.{ends-decided}

-- ---- fronts of what is said

-- what the sink has taken is a front of a text that begins so
front-longer : (before trace more : Text) (now : Option Text) (count : ℕ)
    → now ≡ Some (before ++ take count trace) → (n : ℕ)
    × (now ≡ Some (before ++ take n (trace ++ more)))
front-longer before trace more now count e = (
  min count (length trace),
  e ∙ ap (λ bytes. Some (before ++ bytes)) (sym (take_min count trace)
      ∙ sym (take-append-le (min count (length trace)) trace more (omega arith))),
)

-- a part of what follows the trace was taken too
front-behind : (before trace more : Text) (mid now : Option Text) → mid ≡ Some (before ++ trace)
    → TakesPart mid now more → (n : ℕ) × (now ≡ Some (before ++ take n (trace ++ more)))
front-behind before trace more mid now e part = (
  length trace + part.0,
  part.2 ∙ (ap (λ old. append_known old (take part.0 more)) e
      ∙ ap (λ bytes. Some bytes) (append_assoc before trace (take part.0 more)
      ∙ ap (λ bytes. before ++ bytes) (sym (take-append-add trace more part.0)))),
)

-- ---- how the run ends

module _ (stop : Stop) (trace before : Text) (fault : Type 0) (mid now : Option Text)
    (answer : Status) where
  -- a front of the trace is one of what is said
  partly-trace : (count : ℕ) → now ≡ Some (before ++ take count trace)
      → PartWritten (IsSaid (said_at stop trace)) before now
  partly-trace count e status text said =
      let front = front-longer before trace (error_by (answer_of stop)) now count e in (
        front.0,
        front.1 ∙ ap (λ bytes. Some (before ++ take front.0 bytes))
            (sym (said.1 ∙ said-text stop trace)),
      )

  -- the trace was written, and this text was to follow
  ends-behind : (error : Text) (status : Status) → status ≡ (said_at stop trace).status → trace
      ++ error ≡ (said_at stop trace).text → IsDecided status
      → mid ≡ Some (before ++ trace) → Delivers mid now error status answer
      → Ends (IsSaid (said_at stop trace)) fault before now answer
  ends-behind error status same text is wrote (inl w) =
      subst (Ends (IsSaid (said_at stop trace)) fault before now) (sym w.0)
      (ends-decided (kind_of status) is (IsSaid (said_at stop trace)) fault before now status (
        trace ++ error,
        (same, text),
        w.1 ∙ (ap (λ old. append_known old error) wrote
            ∙ ap (λ bytes. Some bytes) (append_assoc before trace error)),
      ))
  ends-behind error status same text is wrote (inr w) =
      let part : TakesPart mid now error = part-of w in
      let front = front-behind before trace error mid now wrote part in
      let partly : PartWritten (IsSaid (said_at stop trace)) before now =
      λ s t said. (
        front.0,
        front.1 ∙ ap (λ bytes. Some (before ++ take front.0 bytes))
            (text ∙ sym said.1),
      ) in
      cut w partly
    where
      part-of : ((answer ≡ WriteFault) × TakesPart mid now error)
          ⊎ ((answer ≡ NoMemory) × TakesPart mid now error) → TakesPart mid now error
      part-of (inl w) = w.1
      part-of (inr w) = w.1

      cut : ((answer ≡ WriteFault) × TakesPart mid now error)
          ⊎ ((answer ≡ NoMemory) × TakesPart mid now error)
          → PartWritten (IsSaid (said_at stop trace)) before now
          → Ends (IsSaid (said_at stop trace)) fault before now answer
      cut (inl w) partly = subst (Ends (IsSaid (said_at stop trace)) fault before now) (sym w.0)
          partly
      cut (inr w) partly = subst (Ends (IsSaid (said_at stop trace)) fault before now) (sym w.0)
          partly

  -- the trace was written, and nothing follows
  pub ends-there : (status : Status) → status ≡ (said_at stop trace).status → trace
      ++ [] ≡ (said_at stop trace).text → IsDecided status
      → mid ≡ Some (before ++ trace) → (answer ≡ status) × (now ≡ mid)
      → Ends (IsSaid (said_at stop trace)) fault before now answer
  ends-there status same text is wrote w =
      subst (Ends (IsSaid (said_at stop trace)) fault before now) (sym w.0)
      (ends-decided (kind_of status) is (IsSaid (said_at stop trace)) fault before now status
      (trace, (same, sym (append-nil trace) ∙ text), w.1 ∙ wrote))

  pub ends-cut : (status : Status) → (PartWritten (IsSaid (said_at stop trace)) before now
      → Ends (IsSaid (said_at stop trace)) fault before now status)
      → (count : ℕ) × (mid ≡ Some (before ++ take count trace)) → (answer ≡ status) × (now ≡ mid)
      → Ends (IsSaid (said_at stop trace)) fault before now answer
  ends-cut status lift front w =
      subst (Ends (IsSaid (said_at stop trace)) fault before now) (sym w.0)
      (lift (partly-trace front.0 (w.1 ∙ front.1)))

module _ {State Item : Type 0} (play : Play State Item) (limits : Limits) (start : State)
    (schedule : Text) (left : Option Text) where
  -- the status that is said is that of the replay's answer
  same-status : (r : Replayed) → Decides play limits start schedule left r
      → status_by r ≡ (said_at (played play limits start schedule).stop
      (trace play limits start schedule)).status
  same-status r d = ap status_by d.0 ∙ sym (said-status (played play limits start schedule).stop
      (trace play limits start schedule))

  same-text : (r : Replayed) → Decides play limits start schedule left r
      → trace play limits start schedule ++ error_by
      r ≡ (said_at (played play limits start schedule).stop (trace play limits start schedule)).text
  same-text r d = ap (λ (a : Replayed). trace play limits start schedule ++ error_by a) d.0
      ∙ sym (said-text (played play limits start schedule).stop (trace play limits start schedule))

  pub ends-replay : (before : Text) (mid now : Option Text) (replayed : Replayed) (answer : Status)
      → StopsSo play limits start schedule left replayed
      → WritesSo play limits start schedule left before mid replayed
      → Concludes mid now replayed answer
      → Ends (IsSaid (said_at (played play limits start schedule).stop
      (trace play limits start schedule)))
      (WritesSo play limits start schedule left before now replay.ReadFault) before now answer
  ends-replay before mid now replay.Done answer stops writes w =
      ends-there (played play limits start schedule).stop (trace play limits start schedule) before
      _ mid now answer Done (same-status replay.Done stops) (same-text replay.Done stops) tt
      writes w
  ends-replay before mid now (replay.BadLine line) answer stops writes w =
      ends-behind (played play limits start schedule).stop (trace play limits start schedule) before
      _ mid now answer (bad_line_text line) ScheduleRefused
      (same-status (replay.BadLine line) stops) (same-text (replay.BadLine line) stops) tt
      writes w
  ends-replay before mid now replay.TooManyLines answer stops writes w =
      ends-behind (played play limits start schedule).stop (trace play limits start schedule) before
      _ mid now answer too_many_text ScheduleRefused (same-status replay.TooManyLines stops)
      (same-text replay.TooManyLines stops) tt writes w
  ends-replay before mid now (replay.ClaimBroken claim) answer stops writes w =
      ends-there (played play limits start schedule).stop (trace play limits start schedule) before
      _ mid now answer ClaimBroken (same-status (replay.ClaimBroken claim) stops)
      (same-text (replay.ClaimBroken claim) stops) tt writes w
  ends-replay before mid now replay.ReadFault answer stops writes w =
      subst (Ends
      (IsSaid (said_at (played play limits start schedule).stop
      (trace play limits start schedule)))
      (WritesSo play limits start schedule left before now replay.ReadFault) before now)
      (sym w.0)
      (subst (λ (bytes : Option Text). WritesSo play limits start schedule left before bytes
      replay.ReadFault) (sym w.1) writes)
  ends-replay before mid now replay.WriteFault answer stops writes w =
      ends-cut (played play limits start schedule).stop (trace play limits start schedule) before _
      mid now answer WriteFault (λ p. p) writes w
  ends-replay before mid now replay.NoMemory answer stops writes w =
      ends-cut (played play limits start schedule).stop (trace play limits start schedule) before _
      mid now answer NoMemory (λ p. p) writes w

  -- a replay whose answer is decided has its stop
  decides : (r : Replayed) → is_decided r ≡ true → StopsSo play limits start schedule left r
      → Decides play limits start schedule left r
  decides replay.Done e stops = stops
  decides (replay.BadLine line) e stops = stops
  decides replay.TooManyLines e stops = stops
  decides (replay.ClaimBroken claim) e stops = stops
  decides replay.ReadFault e stops = absurd (cc)
  decides replay.WriteFault e stops = absurd (cc)
  decides replay.NoMemory e stops = absurd (cc)

  same-end : (r : Replayed) → StopsSo play limits start schedule left r
      → IsOrFails (said_at (played play limits start schedule).stop
      (trace play limits start schedule)).status (status_by r)
  same-end replay.Done stops = inl (same-status replay.Done stops)
  same-end (replay.BadLine line) stops = inl (same-status (replay.BadLine line) stops)
  same-end replay.TooManyLines stops = inl (same-status replay.TooManyLines stops)
  same-end (replay.ClaimBroken claim) stops = inl (same-status (replay.ClaimBroken claim) stops)
  same-end replay.ReadFault stops = inr (inl refl)
  same-end replay.WriteFault stops = inr (inr (inl refl))
  same-end replay.NoMemory stops = inr (inr (inr refl))

  pub exact-replay : (mid now : Option Text) (replayed : Replayed) (answer : Status)
      → StopsSo play limits start schedule left replayed → Concludes mid now replayed answer
      → IsOrFails (said_at (played play limits start schedule).stop
      (trace play limits start schedule)).status answer
  exact-replay mid now replayed answer stops w =
      by-conclusion (λ r s. StopsSo play limits start schedule left r
      → IsOrFails (said_at (played play limits start schedule).stop
      (trace play limits start schedule)).status s)
      same-end (λ r e. (λ x. inr (inr (inl refl)), λ x. inr (inr (inr refl)))) mid now replayed
      answer w stops

  -- a decided answer is the status that is said, and this is left of the schedule
  pub decided-replay : (mid now : Option Text) (replayed : Replayed) (answer : Status)
      → StopsSo play limits start schedule left replayed → Concludes mid now replayed answer
      → IsDecided answer
      → (answer ≡ (said_at (played play limits start schedule).stop
      (trace play limits start schedule)).status)
      × LeavesAt limits (played play limits start schedule).stop schedule left
  decided-replay mid now replayed answer stops w is =
      let same = concluded-decided mid now replayed answer w is in
      let d = decides replayed same.0 stops in
      (same.1 ∙ same-status replayed d, d.1)

  whole-left : (stop : Stop) → Done ≡ (said_at stop (trace play limits start schedule)).status
      → LeavesAt limits stop schedule left → left ≡ Some []
  whole-left AtEnd e leaves = leaves
  whole-left (AtLine line) e leaves = absurd (cc)
  whole-left TooMany e leaves = absurd (cc)
  whole-left (Halted lines claim) e leaves = absurd (cc)

  pub done-left : (mid now : Option Text) (replayed : Replayed)
      → StopsSo play limits start schedule left replayed → Concludes mid now replayed Done
      → left ≡ Some []
  done-left mid now replayed stops w =
      let d = decided-replay mid now replayed Done stops w tt in
      whole-left (played play limits start schedule).stop d.0 d.1

-- a schedule that a run is done with was read to its end, also where it doesn't tell its bytes
pub end-of-schedule : (most : ℕ) (old new : Option Text) → TakesAtMost most old new
    → IfSome old (λ schedule. new ≡ Some []) → IsAtEnd new
end-of-schedule most None None taken whole = tt
end-of-schedule most None (Some rest) taken whole = absurd (cc taken.2)
end-of-schedule most (Some schedule) new taken whole = subst IsAtEnd (sym whole) refl

-- What `run` writes is accepted by `audit`, and what that accepts prints a run.
use Rattle.std.proofs.Common.{◌≡◌, ℕ, Some, inl, inr, refl, sym, ap, ◌∙◌, subst}
use Rattle.proto_model.specs.Tokens.{Text}
use Rattle.proto_model.specs.Numbered.{CheckedProtocol, numbered}
use Rattle.proto_model.specs.declared.mode.Mode.{Mode}
use Rattle.star_check.proofs.WellFormed.{well_formed-proper}
use Rattle.schedule_replay.specs.ScheduleLimits.{schedule_limits}
use Rattle.schedule_replay.specs.Played.{Stop, AtEnd, AtLine, TooMany, Halted, played, trace}
use Rattle.run_replay.specs.RunTrace.{run_play, run_start}
use Rattle.trace_audit.specs.AuditedTrace.{Outcome, Accepted, RefusedAt, audited, audit_limits}
use Rattle.trace_audit.proofs.AcceptedRun.{accepted-run}
use Rattle.trace_soundness.specs.Passing.{IsAccepted}
use Rattle.trace_soundness.proofs.SayablePlain.{sayable-plain}
use Rattle.trace_soundness.proofs.TracePasses.{trace-passes}
use Rattle.rvc_top.specs.Texts.{audit_ok_text}
use Rattle.rvc_top.specs.Forms.{HoldsProtocol}
use Rattle.rvc_top.specs.Commands.{said_at, audit_said, describe}
use Rattle.rvc_top.specs.AuditedRuns.{EveryTraceIsAccepted, WhatIsAcceptedIsARun}
use Rattle.rvc_top.specs.declared.command.Command.TheVariants.{Run}
use Rattle.rvc_top.specs.declared.status.Status.TheVariants.{Done}

-- A schedule of which it is said that it is done was played to its end, and its text is the trace.
said-done : (stop : Stop) (text written : Text) → Done ≡ (said_at stop text).status
    → written ≡ (said_at stop text).text → (stop ≡ AtEnd) × (written ≡ text)
said-done AtEnd text written done is = (refl, is)
said-done (AtLine line) text written done is = absurd (cc)
said-done TooMany text written done is = absurd (cc)
said-done (Halted lines claim) text written done is = absurd (cc)

-- Of what is accepted it is said that it is.
accepted-said : (o : Outcome) → IsAccepted o
    → (events : ℕ) × (Done ≡ (audit_said o).status) × (audit_ok_text events ≡ (audit_said o).text)
accepted-said (Accepted events) is = (events, refl, refl)
accepted-said (RefusedAt line) is = absurd is

-- A trace of which it is said that the run is done is accepted.
done-accepted : (o : Outcome) (text : Text) → Done ≡ (audit_said o).status
    → text ≡ (audit_said o).text
    → (events : ℕ) × (o ≡ Accepted events) × (text ≡ audit_ok_text events)
done-accepted (Accepted events) text done is = (events, refl, is)
done-accepted (RefusedAt line) text done is = absurd (cc)

-- The trace of a schedule that is played to its end, of a protocol that a file holds.
held-passes : (n k : ℕ) (mode : Mode) → (describe (Some (Run n k mode))).Numbers
    → (file schedule : Text) (checked : CheckedProtocol) → HoldsProtocol file checked
    → (played run_play schedule_limits (run_start checked mode n k) schedule).stop ≡ AtEnd
    → IsAccepted (audited checked.protocol n
    (trace run_play schedule_limits (run_start checked mode n k) schedule))
held-passes n k mode numbers file schedule checked holds ends =
    let sayable = holds.2.sayable in
    subst (λ (c : CheckedProtocol).
    (played run_play schedule_limits (run_start c mode n k) schedule).stop ≡ AtEnd
    → IsAccepted (audited c.protocol n
    (trace run_play schedule_limits (run_start c mode n k) schedule))) (sym holds.4)
    (trace-passes (numbered holds.0) mode n k schedule (well_formed-proper holds.0 holds.3)
    (sayable-plain holds.0 sayable) numbers.0.0 numbers.0.1 numbers.1.0 numbers.1.1) ends

pub every-trace_accepted : EveryTraceIsAccepted
every-trace_accepted n k mode numbers file schedule written (inl refused) =
    let other = refused.0 in absurd (cc)
every-trace_accepted n k mode numbers file schedule written (inr (checked, holds, said)) =
    let start = run_start checked mode n k in
    let all = said-done (played run_play schedule_limits start schedule).stop
    (trace run_play schedule_limits start schedule) written said.0 said.1 in
    let passes : IsAccepted (audited checked.protocol n written) =
    subst (λ (text : Text). IsAccepted (audited checked.protocol n text)) (sym all.1)
    (held-passes n k mode numbers file schedule checked holds all.0) in
    let told = accepted-said (audited checked.protocol n written) passes in
    (told.0, inr (checked, holds, (told.1, told.2)))

pub accepted-is_run : WhatIsAcceptedIsARun
accepted-is_run n file written text (inl refused) = let other = refused.0 in absurd (cc)
accepted-is_run n file written text (inr (checked, holds, said)) =
    let found = done-accepted (audited checked.protocol n written) text said.0 said.1 in
    let run = accepted-run audit_limits checked.protocol n written found.0 found.1 in (
      checked,
      run.0,
      holds,
      run.2,
      found.2 ∙ ap audit_ok_text (sym run.1),
    )

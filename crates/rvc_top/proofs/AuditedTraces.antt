-- A run that audits its trace is one as its command is described.
use Rattle.std.proofs.Common.{◌≡◌, ℕ, Bool, true, false, [], Some, None, sym, ◌∙◌, ap, subst, refl}
use Rattle.std.proofs.Common.{IfOk, IfSome, IsSome, Result, Ok, Err, inl, inr}
use Rattle.std.proofs.lemmas.Option.{IfSome_then}
use Rattle.std.specs.Result.{ForOk}
use Rattle.std.specs.declared.option.Option.{Option}
use Rattle.proto_model.specs.Tokens.{Text}
use Rattle.proto_model.specs.Numbered.{CheckedProtocol}
use Rattle.rv_base.specs.Outside.{RisesWhere, MayRise}
use Rattle.rv_base.specs.Whole.{TakesAtMost}
use Rattle.schedule_replay.specs.ScheduleLimits.{most_taken}
use Rattle.schedule_replay.specs.Replayed.{LeavesAt}
use Rattle.trace_audit.specs.Auditing.{audit_start}
use Rattle.trace_audit.specs.AuditedTrace.{Outcome, Accepted, RefusedAt, audited, audit_limits}
use Rattle.trace_audit.specs.AuditedTrace.{stop_of}
use Rattle.trace_audit.specs.Audits.{AuditsSo, Finds, audit_failed, audit_wants}
use Rattle.trace_audit.specs.declared.auditing.Audited.{Audited}
use Rattle.trace_audit.specs.declared.auditing.Audited.TheVariants as audit
use Rattle.rvc_top.specs.Commands.{Said, WritesText, audit_said, audit_replay}
use Rattle.rvc_top.specs.Verdict.{IsSaid}
use Rattle.rvc_top.specs.Endings.{kind_of, IsDecided, IsOfSchedule, run_read_failed}
use Rattle.rvc_top.specs.Endings.{run_write_failed, run_wants, Ends, IsOrFails}
use Rattle.rvc_top.specs.FileRead.{reading_failed}
use Rattle.rvc_top.specs.Reply.{RepliesSo, RepliesToAudit, Finishes}
use Rattle.rvc_top.specs.Runs.{Seen, WantsStay, ReachesSchedule, IsReplay}
use Rattle.rvc_top.specs.declared.reply.Reply.{Reply}
use Rattle.rvc_top.specs.declared.reply.Failure.{Failure}
use Rattle.rvc_top.specs.declared.reply.Failure.TheVariants.{Read, NoMemory as WantsMemory}
use Rattle.rvc_top.specs.declared.status.Status.{Status}
use Rattle.rvc_top.specs.declared.status.Status.TheVariants.{Done, ReadFault}
use Rattle.rvc_top.specs.declared.status.Status.TheVariants.{WriteFault, NoMemory}
use Rattle.rvc_top.proofs.EveryRun.{task-one}
use Rattle.rvc_top.proofs.Endings.{told, by-delivery, ends-finished, partly-nothing}
use Rattle.rvc_top.proofs.Replays.{end-of-schedule}
use Rattle.rvc_top.proofs.Stays.{wants-stay}

-- ---- what is replied

-- what is said of a trace is a verdict
outcome-decided : (outcome : Outcome) → IsDecided (audit_said outcome).status
outcome-decided (Accepted events) = tt
outcome-decided (RefusedAt line) = tt

replied-decided : (said : Said) → IsDecided said.status → (reply : Result Reply Failure)
    → RepliesSo said reply → IfOk reply (λ r. IsDecided r.status)
replied-decided said is (Ok r) replies = subst IsDecided (sym replies.0) is
replied-decided said is (Err e) replies = tt

audit-ok : (audited : Audited) (reply : Result Reply Failure) → RepliesToAudit audited reply
    → IfOk reply (λ r. IsDecided r.status)
audit-ok (audit.Sound events) reply replies =
    replied-decided (audit_said (Accepted events)) tt reply replies
audit-ok (audit.BadLine line) reply replies =
    replied-decided (audit_said (RefusedAt line)) tt reply replies
audit-ok audit.ReadFault reply replies =
    subst (λ (r : Result Reply Failure). IfOk r (λ x. IsDecided x.status)) (sym replies) tt
audit-ok audit.NoMemory reply replies =
    subst (λ (r : Result Reply Failure). IfOk r (λ x. IsDecided x.status)) (sym replies) tt

for-ok : (P : Reply → Type 0) (reply : Result Reply Failure) → IfOk reply P → ForOk reply P
for-ok P (Ok r) p x e = let same : r ≡ x = cc in subst P same p
for-ok P (Err f) p x e = absurd (cc)

-- what is replied to a trace has the status of a verdict
pub audit-decided : (audited : Audited) (reply : Result Reply Failure)
    → RepliesToAudit audited reply → ForOk reply (λ r. IsDecided r.status)
audit-decided audited reply replies =
    for-ok (λ r. IsDecided r.status) reply (audit-ok audited reply replies)

none-broken : (broken : Option ℕ) → broken ≡ None → IsSome broken → ⊥
none-broken None e is = absurd (cc)
none-broken (Some claim) e is = absurd (cc)

-- ---- a trace of which something is said

-- what holds of the answer, where this is said
by-said : (P : Status → Type 0) (said : Said) (old new : Option Text)
    (reply : Result Reply Failure) (answer : Status) → RepliesSo said reply
    → Finishes old new reply answer → P said.status → P WriteFault → P NoMemory → P answer
by-said P said old new (Ok r) answer replies w x y z =
    by-delivery P old new r.text.items r.status answer w (subst P (sym replies.0) x) y z
by-said P said old new (Err Read) answer replies w x y z = absurd replies
by-said P said old new (Err WantsMemory) answer replies w x y z = subst P (sym w.0) z

said-ok : (said : Said) (reply : Result Reply Failure) → RepliesSo said reply
    → IfOk reply (λ r. IsSaid said r.status r.text.items)
said-ok said (Ok r) replies = replies
said-ok said (Err e) replies = tt

said-no_fault : (said : Said) (reply : Result Reply Failure) → RepliesSo said reply
    → reading_failed reply ≡ true → ⊥
said-no_fault said (Ok r) replies e = absurd (cc)
said-no_fault said (Err Read) replies e = replies
said-no_fault said (Err WantsMemory) replies e = absurd (cc)

decided-reaches : (outcome : Outcome) → ReachesSchedule (audit_said outcome).status
decided-reaches (Accepted events) = tt
decided-reaches (RefusedAt line) = tt

decided-unread : (outcome : Outcome)
    → run_read_failed (kind_of (audit_said outcome).status) ≡ false
decided-unread (Accepted events) = refl
decided-unread (RefusedAt line) = refl

accepted-done : (outcome : Outcome) → (audit_said outcome).status ≡ Done
    → (events : ℕ) × (outcome ≡ Accepted events)
accepted-done (Accepted events) e = (events, refl)
accepted-done (RefusedAt line) e = absurd (cc)

-- what is left where the trace is accepted
left-accepted : (outcome : Outcome) (text : Text) (left : Option Text)
    → (audit_said outcome).status ≡ Done → LeavesAt audit_limits (stop_of audit_limits outcome) text
    left → left ≡ Some []
left-accepted (Accepted events) text left e leaves = leaves
left-accepted (RefusedAt line) text left e leaves = absurd (cc)

module _ (n : ℕ) (protocol : CheckedProtocol) (schedule out : Seen) (answer : Status)
    (taken : TakesAtMost (most_taken audit_limits) schedule.old.bytes schedule.new.bytes)
    (writes : RisesWhere (run_write_failed (kind_of answer)) out.old.faults out.new.faults)
    (out_wants : MayRise (run_wants (kind_of answer)) out.old.wants out.new.wants) where
  -- this is found of the trace, and what follows from it is said
  module _ (outcome : Outcome) (reply : Result Reply Failure)
      (finds : IfSome schedule.old.bytes
      (λ text. Finds audit_limits (audit_start protocol.protocol n) text schedule.new.bytes
      outcome))
      (count : schedule.new.faults ≡ schedule.old.faults)
      (stay : WantsStay schedule)
      (ended : (events : ℕ) → outcome ≡ Accepted events → schedule.ended ≡ true)
      (replies : RepliesSo (audit_said outcome) reply)
      (finishes : Finishes out.old.bytes out.new.bytes reply answer) where
    found-bytes : (text : Text)
        → Finds audit_limits (audit_start protocol.protocol n) text schedule.new.bytes outcome
        → IfSome out.old.bytes (λ before.
        Ends (IsSaid (audit_said (audited protocol.protocol n text)))
        ((audit_replay n protocol).Leaves text schedule.new.bytes before out.new.bytes)
        before out.new.bytes answer)
    found-bytes text found = told out.old.bytes _ (λ before e.
        subst (λ (o : Outcome). Ends (IsSaid (audit_said o))
        ((audit_replay n protocol).Leaves text schedule.new.bytes before out.new.bytes)
        before out.new.bytes answer) (sym found.0)
        (ends-finished (IsSaid (audit_said outcome))
        (task-one (WritesText (audit_said outcome)) tt [] []) _ before out.new.bytes reply answer
        (said-ok (audit_said outcome) reply replies)
        (replied-decided (audit_said outcome) (outcome-decided outcome) reply replies)
        (λ failed nothing. absurd (said-no_fault (audit_said outcome) reply replies failed))
        (subst (λ (old : Option Text). Finishes old out.new.bytes reply answer) e finishes)))

    found-exact : (text : Text)
        → Finds audit_limits (audit_start protocol.protocol n) text schedule.new.bytes outcome
        → IsOrFails (audit_said (audited protocol.protocol n text)).status answer
    found-exact text found =
        subst (λ (o : Outcome). IsOrFails (audit_said o).status answer) (sym found.0)
        (by-said (IsOrFails (audit_said outcome).status) (audit_said outcome) out.old.bytes
        out.new.bytes reply answer replies finishes (inl refl) (inr (inr (inl refl)))
        (inr (inr (inr refl))))

    same-done : answer ≡ Done → (audit_said outcome).status ≡ Done
    same-done = by-said (λ s. s ≡ Done → (audit_said outcome).status ≡ Done) (audit_said outcome)
        out.old.bytes out.new.bytes reply answer replies finishes (λ e. e) (λ e. absurd (cc))
        (λ e. absurd (cc))

    same-schedule : IsOfSchedule answer → answer ≡ (audit_said outcome).status
    same-schedule = by-said (λ s. IsOfSchedule s → s ≡ (audit_said outcome).status)
        (audit_said outcome) out.old.bytes out.new.bytes reply answer replies finishes (λ e. refl)
        (λ e. absurd (cc)) (λ e. absurd (cc))

    unread : run_read_failed (kind_of answer) ≡ false
    unread = by-said (λ s. run_read_failed (kind_of s) ≡ false) (audit_said outcome) out.old.bytes
        out.new.bytes reply answer replies finishes (decided-unread outcome) refl refl

    pub found-replay : IsReplay (audit_replay n protocol) audit_limits schedule out answer
    found-replay = record {
      bytes = (
        λ broken s. absurd (none-broken None refl broken),
        IfSome_then schedule.old.bytes finds found-bytes,
      );
      exact = (
        λ broken s. absurd (none-broken None refl broken),
        IfSome_then schedule.old.bytes finds found-exact,
      );
      reaches = by-said ReachesSchedule (audit_said outcome) out.old.bytes out.new.bytes reply
          answer replies finishes (decided-reaches outcome) tt tt;
      schedule_count = subst (λ (b : Bool). RisesWhere b schedule.old.faults schedule.new.faults)
          (sym unread) count;
      write_count = writes;
      wants = λ fine. (stay, wants-stay out.old.wants out.new.wants answer out_wants fine);
      unasked = λ broken. absurd (none-broken None refl broken);
      schedule_end = λ e.
          let accepted = accepted-done outcome (same-done e) in (
            end-of-schedule (most_taken audit_limits) schedule.old.bytes schedule.new.bytes taken
                (IfSome_then schedule.old.bytes finds (λ text found.
                left-accepted outcome text schedule.new.bytes (same-done e) found.1)),
            ended accepted.0 accepted.1,
          );
      schedule_decided = λ e. IfSome_then schedule.old.bytes finds (λ text found. (
        same-schedule e ∙ ap (λ (o : Outcome). (audit_said o).status) (sym found.0),
        subst (λ (o : Outcome). LeavesAt audit_limits (stop_of audit_limits o) text
            schedule.new.bytes) (sym found.0) found.1,
      ));
      schedule_taken = taken;
    }

  -- nothing is written, since a read failed
  failed-replay : IfSome schedule.old.bytes (λ text. AuditsSo audit_limits
      (audit_start protocol.protocol n) text schedule.new.bytes audit.ReadFault)
      → RisesWhere true schedule.old.faults schedule.new.faults → WantsStay schedule
      → (answer ≡ ReadFault) × (out.new.bytes ≡ out.old.bytes)
      → IsReplay (audit_replay n protocol) audit_limits schedule out answer
  failed-replay breaks count stay w = record {
    bytes = (
      λ broken s. absurd (none-broken None refl broken),
      IfSome_then schedule.old.bytes breaks (λ text broke. told out.old.bytes _ (λ before e.
          subst (Ends (IsSaid (audit_said (audited protocol.protocol n text)))
          ((audit_replay n protocol).Leaves text schedule.new.bytes before out.new.bytes)
          before out.new.bytes) (sym w.0) (w.1 ∙ e, broke))),
    );
    exact = (
      λ broken s. absurd (none-broken None refl broken),
      told schedule.old.bytes _ (λ text e. inr (inl w.0)),
    );
    reaches = subst ReachesSchedule (sym w.0) tt;
    schedule_count = subst
        (λ (s : Status). RisesWhere (run_read_failed (kind_of s)) schedule.old.faults
        schedule.new.faults) (sym w.0) count;
    write_count = writes;
    wants = λ fine. (stay, wants-stay out.old.wants out.new.wants answer out_wants fine);
    unasked = λ broken. absurd (none-broken None refl broken);
    schedule_end = λ e. absurd (cc (sym w.0 ∙ e));
    schedule_decided = λ e. absurd (let s = subst IsOfSchedule w.0 e in cc);
    schedule_taken = taken;
  }

  -- nothing is written, since there was no memory
  wanting-replay : schedule.new.faults ≡ schedule.old.faults
      → (answer ≡ NoMemory) × (out.new.bytes ≡ out.old.bytes)
      → IsReplay (audit_replay n protocol) audit_limits schedule out answer
  wanting-replay count w = record {
    bytes = (
      λ broken s. absurd (none-broken None refl broken),
      told schedule.old.bytes _ (λ text here. told out.old.bytes _ (λ before e.
          subst (Ends (IsSaid (audit_said (audited protocol.protocol n text)))
          ((audit_replay n protocol).Leaves text schedule.new.bytes before out.new.bytes)
          before out.new.bytes) (sym w.0)
          (partly-nothing (IsSaid (audit_said (audited protocol.protocol n text)))
          (task-one (WritesText (audit_said (audited protocol.protocol n text))) tt [] []) ⊥ before
          out.new.bytes (w.1 ∙ e)))),
    );
    exact = (
      λ broken s. absurd (none-broken None refl broken),
      told schedule.old.bytes _ (λ text e. inr (inr (inr w.0))),
    );
    reaches = subst ReachesSchedule (sym w.0) tt;
    schedule_count = subst
        (λ (s : Status). RisesWhere (run_read_failed (kind_of s)) schedule.old.faults
        schedule.new.faults) (sym w.0) count;
    write_count = writes;
    wants = λ fine. absurd (fine w.0);
    unasked = λ broken. absurd (none-broken None refl broken);
    schedule_end = λ e. absurd (cc (sym w.0 ∙ e));
    schedule_decided = λ e. absurd (let s = subst IsOfSchedule w.0 e in cc);
    schedule_taken = taken;
  }

  -- the run ends with what is replied to the trace
  pub audited-replay : (audited : Audited) (reply : Result Reply Failure)
      → IfSome schedule.old.bytes (λ text. AuditsSo audit_limits
      (audit_start protocol.protocol n) text schedule.new.bytes audited)
      → RisesWhere (audit_failed audited) schedule.old.faults schedule.new.faults
      → MayRise (audit_wants audited) schedule.old.wants schedule.new.wants
      → ((events : ℕ) → audited ≡ audit.Sound events → schedule.ended ≡ true)
      → RepliesToAudit audited reply → Finishes out.old.bytes out.new.bytes reply answer
      → IsReplay (audit_replay n protocol) audit_limits schedule out answer
  audited-replay (audit.Sound events) reply audits count wants ended replies finishes =
      found-replay (Accepted events) reply audits count wants (λ e same. ended events refl) replies
      finishes
  audited-replay (audit.BadLine line) reply audits count wants ended replies finishes =
      found-replay (RefusedAt line) reply audits count wants (λ e same. absurd (cc)) replies
      finishes
  audited-replay audit.ReadFault reply audits count wants ended replies finishes =
      failed-replay audits count wants
      (subst (λ (r : Result Reply Failure). Finishes out.old.bytes out.new.bytes r answer) replies
      finishes)
  audited-replay audit.NoMemory reply audits count wants ended replies finishes =
      wanting-replay count
      (subst (λ (r : Result Reply Failure). Finishes out.old.bytes out.new.bytes r answer) replies
      finishes)

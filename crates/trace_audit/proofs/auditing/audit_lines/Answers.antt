-- Each turn keeps what was read and what was audited in step, and each answer says how it ends.
use Rattle.std.proofs.Common.{◌≡◌, ℕ, Bool, false, Some, [], ◌∷◌, ◌++◌, refl, sym, ◌∙◌, ap}
use Rattle.std.proofs.Common.{subst}
use Rattle.rv_base.specs.Outside.{RisesWhere, MayRise}
use Rattle.schedule_replay.specs.NextLine.{NextMoves, next_failed, next_wants}
use Rattle.schedule_replay.specs.Reading.{Reading}
use Rattle.schedule_replay.specs.declared.lines.NextLine.{NextLine}
use Rattle.trace_audit.specs.Audits.{audit_failed}
use Rattle.trace_audit.specs.Turns.{auditing_of, HearsNext}
use Rattle.trace_audit.specs.declared.auditing.Audited.{Audited}
use Rattle.trace_audit.proofs.AuditEnds.{HasAudited-start, within-limits, next-owes, next-few}
use Rattle.trace_audit.proofs.AuditEnds.{next-goes, goes-quiet, next-failed, next-wants, sound-ends}
use Rattle.trace_audit.proofs.auditing.audit_lines.Goals as goal

pub loop-answer-init : goal.loop-answer-init
loop-answer-init g c = record {
  done = [];
  audited = rw c.requires.start (HasAudited-start c.args.limits (auditing_of c.args.auditor.now)
      (g.Q.Source.left c.args.trace.now) c.requires.counted c.requires.events);
  same_limits = ap (λ (r : Reading). r.limits) c.requires.start;
  same_faults = refl;
  same_wants = refl;
}

pub returns-in-Some-clause-audits : goal.returns-in-Some-clause-audits
returns-in-Some-clause-audits g c =
    let so_far = c.loop-answer.invariant in
    let moves = within-limits c.args.limits c.loop-answer.lines.limits c.loop-answer.lines
    c.next-asked.new.self (g.Q.Source.left c.loop-answer.trace)
    (g.Q.Source.left c.next-asked.new.source) c.next-asked.result so_far.same_limits
    c.next-asked.ensures.moves in
    next-owes c.args.limits (auditing_of c.args.auditor.now)
    (g.Q.Source.left c.next-asked.new.source) c.next-asked.new.self
    (auditing_of c.hear_next.new.auditor) c.next-asked.result c.in-Some.answer so_far.audited
    moves c.in-Some.ensures

pub returns-in-Some-clause-taken : goal.returns-in-Some-clause-taken
returns-in-Some-clause-taken g c =
    let so_far = c.loop-answer.invariant in
    let moves = within-limits c.args.limits c.loop-answer.lines.limits c.loop-answer.lines
    c.next-asked.new.self (g.Q.Source.left c.loop-answer.trace)
    (g.Q.Source.left c.next-asked.new.source) c.next-asked.result so_far.same_limits
    c.next-asked.ensures.moves in
    next-few c.args.limits (auditing_of c.args.auditor.now)
    (g.Q.Source.left c.next-asked.new.source) c.next-asked.new.self c.next-asked.result
    so_far.audited moves

pub returns-in-Some-clause-cause : goal.returns-in-Some-clause-cause
returns-in-Some-clause-cause g c =
    let so_far = c.loop-answer.invariant in
    let now = g.Q.Source.faults c.next-asked.new.source in
    let failed : audit_failed c.in-Some.answer ≡ next_failed c.next-asked.result =
    next-failed c.args.limits (auditing_of c.args.auditor.now) (auditing_of c.loop-answer.auditor)
    (auditing_of c.hear_next.new.auditor) c.next-asked.new.self c.loop-answer.got
    c.next-asked.result c.in-Some.answer c.in-Some.ensures in
    subst (λ (rose : Bool). RisesWhere rose (g.Q.Source.faults c.args.trace.now) now) (sym failed)
    (subst (λ (before : ℕ). RisesWhere (next_failed c.next-asked.result) before now)
    so_far.same_faults c.next-asked.ensures.cause)

pub returns-in-Some-clause-wants : goal.returns-in-Some-clause-wants
returns-in-Some-clause-wants g c =
    let so_far = c.loop-answer.invariant in
    let now = g.Q.Source.wants c.next-asked.new.source in
    next-wants c.args.limits (auditing_of c.args.auditor.now) (auditing_of c.loop-answer.auditor)
    (auditing_of c.hear_next.new.auditor) c.next-asked.new.self c.loop-answer.got
    (g.Q.Source.wants c.args.trace.now) now c.next-asked.result c.in-Some.answer c.in-Some.ensures
    (subst (λ (before : ℕ). MayRise (next_wants c.next-asked.result) before now)
    so_far.same_wants c.next-asked.ensures.wants)

pub returns-in-Some-clause-ended : goal.returns-in-Some-clause-ended
returns-in-Some-clause-ended g c = λ events is.
    let so_far = c.loop-answer.invariant in
    let new = c.next-asked.new.self in
    let hears = subst (λ (answer : Audited). HearsNext c.args.limits
    (auditing_of c.loop-answer.auditor) (auditing_of c.hear_next.new.auditor) new
    c.loop-answer.got c.next-asked.result (Some answer)) is c.in-Some.ensures in
    let asked = sound-ends c.args.limits (auditing_of c.args.auditor.now)
    (auditing_of c.loop-answer.auditor) (auditing_of c.hear_next.new.auditor) new
    c.loop-answer.got events c.next-asked.result hears in
    let finds = subst (λ (asked : NextLine). NextMoves c.loop-answer.lines.limits
    c.loop-answer.lines new (g.Q.Source.left c.loop-answer.trace)
    (g.Q.Source.left c.next-asked.new.source) asked) asked c.next-asked.ensures.moves in
    c.next-asked.ensures.ends
    (λ over. absurd (let goes : c.loop-answer.lines.ended ≡ false = so_far.audited.goes in cc))
    finds.ended

pub loop-answer-preserved : goal.loop-answer-preserved
loop-answer-preserved g c =
    let so_far = c.loop-answer.invariant in
    let moves = within-limits c.args.limits c.loop-answer.lines.limits c.loop-answer.lines
    c.next-asked.new.self (g.Q.Source.left c.loop-answer.trace)
    (g.Q.Source.left c.next-asked.new.source) c.next-asked.result so_far.same_limits
    c.next-asked.ensures.moves in
    let quiet = goes-quiet c.args.limits (auditing_of c.args.auditor.now)
    (auditing_of c.loop-answer.auditor) (auditing_of c.hear_next.new.auditor)
    c.next-asked.new.self c.loop-answer.got c.next-asked.result c.in_default.ensures in
    let faults : g.Q.Source.faults c.next-asked.new.source
    ≡ g.Q.Source.faults c.loop-answer.trace =
    subst (λ (failed : Bool). RisesWhere failed (g.Q.Source.faults c.loop-answer.trace)
    (g.Q.Source.faults c.next-asked.new.source)) quiet.0 c.next-asked.ensures.cause in
    let wants : g.Q.Source.wants c.next-asked.new.source
    ≡ g.Q.Source.wants c.loop-answer.trace =
    subst (λ (lacks : Bool). MayRise lacks (g.Q.Source.wants c.loop-answer.trace)
    (g.Q.Source.wants c.next-asked.new.source)) quiet.1 c.next-asked.ensures.wants in
    record {
      done = so_far.done ++ c.next-asked.new.self.text ∷ [];
      audited = next-goes c.args.limits (auditing_of c.args.auditor.now)
          (g.Q.Source.left c.next-asked.new.source) c.next-asked.new.self
          (auditing_of c.hear_next.new.auditor) c.next-asked.result so_far.audited
          moves c.in_default.ensures;
      same_limits = c.next-asked.ensures.limits ∙ so_far.same_limits;
      same_faults = faults ∙ so_far.same_faults;
      same_wants = wants ∙ so_far.same_wants;
    }

-- So far the lines that were read were audited, and no call failed or had no memory.
use Rattle.std.proofs.Common.{◌≡◌, ◌-◌, ℕ, List}
use Rattle.trace_audit.specs.Turns.{auditing_of}
use Rattle.trace_audit.proofs.AuditEnds.{HasAudited}
use Rattle.trace_audit.proofs.auditing.audit_lines.Given as goal

abbrev pub invariant-loop-answer : goal.invariant-loop-answer
invariant-loop-answer g l = record {
  done : List (List ℕ);
  audited : HasAudited l.fn.limits (auditing_of l.fn.auditor) (g.Q.Source.left l.fn.trace)
      (g.Q.Source.left l.trace) l.lines (auditing_of l.auditor) l.got done;
  same_limits : l.lines.limits ≡ l.fn.limits;
  same_faults : g.Q.Source.faults l.trace ≡ g.Q.Source.faults l.fn.trace;
  same_wants : g.Q.Source.wants l.trace ≡ g.Q.Source.wants l.fn.trace;
}

-- how many lines may still be read
abbrev pub decreases-loop-answer : goal.decreases-loop-answer
decreases-loop-answer g l = l.fn.limits.lines - l.lines.got

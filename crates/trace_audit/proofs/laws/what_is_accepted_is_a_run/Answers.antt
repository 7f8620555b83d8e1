-- What is accepted prints a run, and its last configuration.
use Rattle.trace_audit.specs.AuditedTrace.{audit_limits}
use Rattle.trace_audit.proofs.AcceptedRun.{accepted-run}
use Rattle.trace_audit.proofs.laws.what_is_accepted_is_a_run.Goals as goal

pub returns : goal.returns
returns c = λ protocol n text found accepted.
    accepted-run audit_limits protocol n text found accepted

-- By the law of traces.
use Rattle.rvc_top.proofs.AuditedRuns.{every-trace_accepted}
use Rattle.rvc_top.proofs.audit_laws.every_trace_is_accepted.Goals as goal

pub returns : goal.returns
returns c = every-trace_accepted

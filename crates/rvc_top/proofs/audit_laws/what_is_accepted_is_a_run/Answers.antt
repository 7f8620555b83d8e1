-- By the law of the auditor.
use Rattle.rvc_top.proofs.AuditedRuns.{accepted-is_run}
use Rattle.rvc_top.proofs.audit_laws.what_is_accepted_is_a_run.Goals as goal

pub returns : goal.returns
returns c = accepted-is_run

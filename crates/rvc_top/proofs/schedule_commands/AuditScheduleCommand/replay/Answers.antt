-- The run ends with what is replied to the trace.
use Rattle.rvc_top.proofs.AuditedTraces.{audit-decided, audited-replay}
use Rattle.rvc_top.proofs.schedule_commands.AuditScheduleCommand.replay.Goals as goal

pub finish-requires : goal.finish-requires
finish-requires g c =
    audit-decided c.audit-audited.result c.audit_reply.result c.audit_reply.ensures

pub returns : goal.returns
returns g c =
    let audit = c.audit-audited.ensures in
    let finish = c.finish.ensures in
    audited-replay c.args.self.now.0 c.args.checked.now _ _ c.finish.result audit.taken
    finish.counts finish.wants c.audit-audited.result c.audit_reply.result audit.audits audit.cause
    audit.wants audit.ended c.audit_reply.ensures finish.bytes

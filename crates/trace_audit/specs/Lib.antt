pub mod Auditing
pub mod AuditedTrace
pub mod Audits
pub mod PrintedRun
pub mod Turns

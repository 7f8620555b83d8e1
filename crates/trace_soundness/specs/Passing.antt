-- What is found of a trace that is accepted.
use Rattle.trace_audit.specs.AuditedTrace.{Outcome, Accepted, RefusedAt}

-- The trace is accepted.
abbrev pub IsAccepted : Outcome → Type 0
IsAccepted (Accepted events) = Unit {0}
IsAccepted (RefusedAt line) = ⊥

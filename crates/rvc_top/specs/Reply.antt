-- What a reply is, and what writing it leaves.
use Rattle.std.specs.Prelude.{◌≡◌, ◌⊎◌, Option, Result, Ok, Err}
use Rattle.std.specs.Io.KnownBytes.{append_known}
use Rattle.proto_model.specs.Tokens.{Text}
use Rattle.rv_base.specs.Whole.{TakesPart}
use Rattle.schedule_replay.specs.declared.replaying.Replayed.{Replayed}
use Rattle.schedule_replay.specs.declared.replaying.Replayed.TheVariants as replay
use Rattle.rvc_top.specs.Texts.{bad_line_text, too_many_text}
use Rattle.trace_audit.specs.AuditedTrace.{Accepted, RefusedAt}
use Rattle.trace_audit.specs.declared.auditing.Audited.{Audited}
use Rattle.trace_audit.specs.declared.auditing.Audited.TheVariants as audit
use Rattle.rvc_top.specs.Commands.{Said, Task, audit_said}
use Rattle.rvc_top.specs.Verdict.{IsSaid, TaskVerdict}
use Rattle.rvc_top.specs.Endings.{Kind, Decided, ReadFailed, WriteFailed, Wanting, InWords, InFile}
use Rattle.rvc_top.specs.Endings.{InSchedule, ToEnd, kind_of}
use Rattle.rvc_top.specs.declared.reply.Reply.{Reply}
use Rattle.rvc_top.specs.declared.reply.Failure.{Failure}
use Rattle.rvc_top.specs.declared.reply.Failure.TheVariants.{Read, NoMemory as WantsMemory}
use Rattle.rvc_top.specs.declared.status.Status.{Status}
use Rattle.rvc_top.specs.declared.status.Status.TheVariants.{Done, ScheduleRefused, ReadFault}
use Rattle.rvc_top.specs.declared.status.Status.TheVariants.{WriteFault, NoMemory, ClaimBroken}

-- ---- a reply to a file

-- What a status comes of that the file alone decides.
abbrev pub FileDecidesKind : Kind → Type 0
FileDecidesKind (Decided InWords) = ⊥
FileDecidesKind (Decided InFile) = Unit {0}
FileDecidesKind (Decided InSchedule) = ⊥
FileDecidesKind (Decided ToEnd) = Unit {0}
FileDecidesKind ReadFailed = ⊥
FileDecidesKind WriteFailed = ⊥
FileDecidesKind Wanting = ⊥

-- The file alone decides so: it is refused, or the command is done with it.
abbrev pub FileDecides : Status → Type 0
FileDecides status = FileDecidesKind (kind_of status)

-- This is replied to the file by a command that does this, whatever the schedule holds.
abbrev pub IsReplyTo : Task → Text → Reply → Type 0
IsReplyTo task file reply =
    (schedule : Text) → TaskVerdict task file schedule reply.status reply.text.items

-- ---- a reply to a trace

-- This is replied, or there is no memory for the reply.
abbrev pub RepliesSo : Said → Result Reply Failure → Type 0
RepliesSo said (Ok reply) = IsSaid said reply.status reply.text.items
RepliesSo said (Err Read) = ⊥
RepliesSo said (Err WantsMemory) = Unit {0}

-- What is replied to a trace whose audit ended so. Where a read failed, or there was no memory,
-- that takes the reply's place.
abbrev pub RepliesToAudit : Audited → Result Reply Failure → Type 0
RepliesToAudit (audit.Sound events) reply = RepliesSo (audit_said (Accepted events)) reply
RepliesToAudit (audit.BadLine line) reply = RepliesSo (audit_said (RefusedAt line)) reply
RepliesToAudit audit.ReadFault reply = reply ≡ Err Read
RepliesToAudit audit.NoMemory reply = reply ≡ Err WantsMemory

-- ---- what is written

-- The bytes taken before and after a text was to be written, with which the run was to end so: the
-- text follows, and the run ends so; or a front of it follows and not the whole, and the run ends
-- with a write fault or for want of memory.
abbrev pub Delivers : Option Text → Option Text → Text → Status → Status → Type 0
Delivers old new text status answer =
    ((answer ≡ status) × (new ≡ append_known old text))
    ⊎ ((answer ≡ WriteFault) × TakesPart old new text)
    ⊎ ((answer ≡ NoMemory) × TakesPart old new text)

-- The bytes taken before and after a reply was to be written. Where there is none, nothing follows,
-- and the run ends with a read fault or for want of memory, as it says in place of the reply.
abbrev pub Finishes : Option Text → Option Text → Result Reply Failure → Status → Type 0
Finishes old new (Ok reply) answer = Delivers old new reply.text.items reply.status answer
Finishes old new (Err Read) answer = (answer ≡ ReadFault) × (new ≡ old)
Finishes old new (Err WantsMemory) answer = (answer ≡ NoMemory) × (new ≡ old)

-- The bytes taken between a replay that ended so and the end of the run, before and after, and how
-- the run ends: where the schedule is refused the text for it follows, or a front of that; else
-- nothing does.
abbrev pub Concludes : Option Text → Option Text → Replayed → Status → Type 0
Concludes old new replay.Done answer = (answer ≡ Done) × (new ≡ old)
Concludes old new (replay.BadLine line) answer =
    Delivers old new (bad_line_text line) ScheduleRefused answer
Concludes old new replay.TooManyLines answer =
    Delivers old new too_many_text ScheduleRefused answer
Concludes old new (replay.ClaimBroken claim) answer = (answer ≡ ClaimBroken) × (new ≡ old)
Concludes old new replay.ReadFault answer = (answer ≡ ReadFault) × (new ≡ old)
Concludes old new replay.WriteFault answer = (answer ≡ WriteFault) × (new ≡ old)
Concludes old new replay.NoMemory answer = (answer ≡ NoMemory) × (new ≡ old)

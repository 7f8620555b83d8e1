-- What the auditor's steps do: comparing a line, hearing the next one, concluding.
use Rattle.std.specs.Prelude.{◌≡◌, ◌⊎◌, ℕ, ◌+◌, Bool, true, false, Some, None, Result, Ok, Err}
use Rattle.std.specs.declared.option.Option.{Option}
use Rattle.schedule_replay.specs.Reading.{Reading}
use Rattle.schedule_replay.specs.declared.limits.Limits.{Limits}
use Rattle.schedule_replay.specs.declared.lines.NextLine.{NextLine}
use Rattle.schedule_replay.specs.declared.lines.NextLine.TheVariants as next
use Rattle.trace_audit.specs.Auditing.{Auditing, audit_line, is_whole}
use Rattle.trace_audit.specs.declared.auditor.Section.{Section}
use Rattle.trace_audit.specs.declared.auditor.Section.TheVariants.{Steps, States, Abstraction}
use Rattle.trace_audit.specs.declared.auditor.Auditor.{Auditor}
use Rattle.trace_audit.specs.declared.auditing.Audited.{Audited}
use Rattle.trace_audit.specs.declared.auditing.Audited.TheVariants.{Sound, BadLine, ReadFault}
use Rattle.trace_audit.specs.declared.auditing.Audited.TheVariants.{NoMemory}

-- How far the auditor has come.
abbrev pub auditing_of : Auditor → Auditing
auditing_of auditor = record {
  section = auditor.section;
  events = auditor.events;
  standing = auditor.machine;
}

-- how many lines were counted in this part
abbrev pub count_of : Section → ℕ
count_of (Steps told) = told
count_of States = 0
count_of (Abstraction seen) = seen

-- Something was tried: it came to what is computed, or nothing is.
abbrev pub ComesTo : {A : Type 0} → Bool → Option A → A → Type 0
ComesTo true computed new = computed ≡ Some new
ComesTo false computed new = computed ≡ None

-- The same unless memory ran out.
abbrev pub Tried : {A E : Type 0} → Result Bool E → Option A → A → Type 0
Tried (Ok came) computed new = ComesTo came computed new
Tried (Err e) computed new = Unit {0}

-- The line with this number was heard, and the trace goes on; or it is refused, because no LF ends
-- it or for what it says; or memory ran out.
abbrev pub HearsLine : Auditing → Auditing → Reading → ℕ → Option Audited → Type 0
HearsLine old new lines number None =
    (lines.ended ≡ false) × (audit_line old lines.text ≡ Some new)
HearsLine old new lines number (Some (Sound events)) = ⊥
HearsLine old new lines number (Some (BadLine bad)) =
    (bad ≡ number)
    × ((lines.ended ≡ true) ⊎ ((lines.ended ≡ false) × (audit_line old lines.text ≡ None)))
HearsLine old new lines number (Some ReadFault) = ⊥
HearsLine old new lines number (Some NoMemory) = Unit {0}

-- No line follows so many: the trace is whole, or the line behind them is missing.
abbrev pub Concludes : Auditing → ℕ → Audited → Type 0
Concludes at got (Sound events) = (is_whole at ≡ true) × (events ≡ at.events)
Concludes at got (BadLine bad) = (is_whole at ≡ false) × (bad ≡ got + 1)
Concludes at got ReadFault = ⊥
Concludes at got NoMemory = ⊥

-- The audit ends with what is concluded.
abbrev pub EndsSo : Auditing → ℕ → Option Audited → Type 0
EndsSo at got None = ⊥
EndsSo at got (Some answer) = Concludes at got answer

-- What asking for the next line, which follows so many, leads to.
abbrev pub HearsNext : Limits → Auditing → Auditing → Reading → ℕ → NextLine → Option Audited
    → Type 0
HearsNext limits old new lines got (next.Got number) result =
    HearsLine old new lines number result
HearsNext limits old new lines got next.End result = EndsSo old got result
HearsNext limits old new lines got (next.TooLong number) result = result ≡ Some (BadLine number)
HearsNext limits old new lines got next.TooMany result =
    result ≡ Some (BadLine (limits.lines + 1))
HearsNext limits old new lines got next.ReadFault result = result ≡ Some ReadFault
HearsNext limits old new lines got next.NoMemory result = result ≡ Some NoMemory

-- What the auditor says of what `run` writes, and of what it accepts.
use Rattle.std.specs.Prelude.{◌≡◌, ℕ, List, length, Some}
use Rattle.proto_model.specs.Tokens.{Text}
use Rattle.proto_model.specs.Numbered.{CheckedProtocol}
use Rattle.proto_model.specs.declared.mode.Mode.{Mode}
use Rattle.proto_model.specs.declared.rendezvous.Event.{Event}
use Rattle.trace_audit.specs.PrintedRun.{PrintsRun}
use Rattle.rvc_top.specs.Texts.{audit_ok_text}
use Rattle.rvc_top.specs.Forms.{checked_form}
use Rattle.rvc_top.specs.Commands.{Task, describe}
use Rattle.rvc_top.specs.Verdict.{TaskVerdict}
use Rattle.rvc_top.specs.declared.command.Command.TheVariants.{Run, Audit}
use Rattle.rvc_top.specs.declared.status.Status.TheVariants.{Done}

-- what `run` does, with n remotes and k slots, in this mode
abbrev pub run_task : ℕ → ℕ → Mode → Task
run_task n k mode = (describe (Some (Run n k mode))).task

-- what `audit` does, with n remotes
abbrev pub audit_task : ℕ → Task
audit_task n = (describe (Some (Audit n))).task

-- Each text that `run` writes where it is done is accepted by `audit`, for the same file and as
-- many remotes, whatever the schedule was, the mode and the slots.
abbrev pub EveryTraceIsAccepted : Type 0
EveryTraceIsAccepted =
    (n k : ℕ) (mode : Mode) → (describe (Some (Run n k mode))).Numbers
    → (file schedule trace : Text) → TaskVerdict (run_task n k mode) file schedule Done trace
    → (events : ℕ) × TaskVerdict (audit_task n) file trace Done (audit_ok_text events)

-- Each trace that `audit` accepts prints a run of the rendezvous meaning of the file's protocol, of
-- as many events as are told.
abbrev pub WhatIsAcceptedIsARun : Type 0
WhatIsAcceptedIsARun =
    (n : ℕ) (file trace text : Text) → TaskVerdict (audit_task n) file trace Done text
    → (checked : CheckedProtocol) × (events : List Event) × checked_form.Holds file checked
    × PrintsRun checked.protocol n trace events × (text ≡ audit_ok_text (length events))

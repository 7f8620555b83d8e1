-- That what is booted runs as the protocol's file does.
use Rattle.std.specs.Prelude.{◌↔◌, ℕ, Some}
use Rattle.proto_model.specs.Tokens.{Text}
use Rattle.proto_model.specs.Numbered.{numbered}
use Rattle.proto_model.specs.declared.mode.Mode.{Mode}
use Rattle.proto_model.specs.declared.protocol.Protocol.{Protocol}
use Rattle.rvc_top.specs.Forms.{checked_form}
use Rattle.rvc_top.specs.Stores.{stored_image, IsStorable}
use Rattle.rvc_top.specs.Commands.{Task, describe}
use Rattle.rvc_top.specs.Verdict.{TaskVerdict}
use Rattle.rvc_top.specs.AuditedRuns.{run_task}
use Rattle.rvc_top.specs.declared.command.Command.TheVariants.{Boot}
use Rattle.rvc_top.specs.declared.status.Status.{Status}

-- what `boot` does, with n remotes and k slots
abbrev pub boot_task : ℕ → ℕ → Task
boot_task n k = (describe (Some (Boot n k))).task

-- Booting the image that is stored of a protocol in a mode has the verdict that running a file of
-- this protocol in this mode has, whatever the schedule.
abbrev pub BootsAsRun : Type 0
BootsAsRun =
    (p : Protocol) (mode : Mode) (file : Text) (n k : ℕ) (schedule : Text) (status : Status)
    (text : Text)
    → IsStorable p → checked_form.Holds file (numbered p)
    → TaskVerdict (boot_task n k) (stored_image p mode) schedule status text
    ↔ TaskVerdict (run_task n k mode) file schedule status text

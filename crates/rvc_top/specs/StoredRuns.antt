-- That what is stored is booted, text of the one into file of the other.
use Rattle.std.specs.Prelude.{◌↔◌, ℕ, Some}
use Rattle.proto_model.specs.Tokens.{Text}
use Rattle.proto_model.specs.declared.mode.Mode.{Mode}
use Rattle.rvc_top.specs.Commands.{Task, describe}
use Rattle.rvc_top.specs.Verdict.{TaskVerdict}
use Rattle.rvc_top.specs.AuditedRuns.{run_task}
use Rattle.rvc_top.specs.BootedRuns.{boot_task}
use Rattle.rvc_top.specs.declared.command.Command.TheVariants.{Store}
use Rattle.rvc_top.specs.declared.status.Status.{Status}
use Rattle.rvc_top.specs.declared.status.Status.TheVariants.{Done}

-- what `store` does, in this mode
abbrev pub store_task : Mode → Task
store_task mode = (describe (Some (Store mode))).task

-- What `store` writes of a file, where it is done, `boot` takes: it has the verdict on it that
-- `run` has on the file in the same mode, whatever the schedule, with as many remotes and slots.
abbrev pub WhatIsStoredIsBooted : Type 0
WhatIsStoredIsBooted =
    (mode : Mode) (file unread image : Text) → TaskVerdict (store_task mode) file unread Done image
    → (n k : ℕ) (schedule : Text) (status : Status) (text : Text)
    → TaskVerdict (boot_task n k) image schedule status text
    ↔ TaskVerdict (run_task n k mode) file schedule status text

-- What no event of the file's protocol can break, no run of a command can.
use Rattle.std.specs.Prelude.{◌≡◌, ◌≢◌, ℕ, ◌++◌, Some, codes}
use Rattle.proto_model.specs.Tokens.{Text}
use Rattle.proto_model.specs.Numbered.{CheckedProtocol}
use Rattle.proto_model.specs.declared.mode.Mode.{Mode}
use Rattle.proto_model.specs.declared.rendezvous.RvConfig.{RvConfig}
use Rattle.event_runs.specs.Reached.{IsReached, TakesPlace}
use Rattle.every_schedule.specs.KeptClaims.{EventsKeepClaims}
use Rattle.rvc_top.specs.Forms.{checked_form}
use Rattle.rvc_top.specs.Stores.{image_form}
use Rattle.rvc_top.specs.Commands.{Task, describe}
use Rattle.rvc_top.specs.Verdict.{TaskVerdict}
use Rattle.rvc_top.specs.AuditedRuns.{run_task}
use Rattle.rvc_top.specs.BootedRuns.{boot_task}
use Rattle.rvc_top.specs.declared.boot.Booted.{Booted}
use Rattle.rvc_top.specs.declared.command.Command.TheVariants.{Run, Boot, Drive}
use Rattle.rvc_top.specs.declared.command.Driving.{Driving}
use Rattle.rvc_top.specs.declared.status.Status.{Status}
use Rattle.rvc_top.specs.declared.status.Status.TheVariants.{Done, ClaimBroken}

-- what `drive` does with these numbers
abbrev pub drive_task : Driving → Task
drive_task d = (describe (Some (Drive d))).task

-- Where events keep each claim of the file, with n remotes, `run` doesn't end at a broken claim, in
-- either mode, with any number of slots, and whatever the schedule.
abbrev pub NoRunBreaksAClaim : Type 0
NoRunBreaksAClaim =
    (n k : ℕ) (mode : Mode) → (describe (Some (Run n k mode))).Numbers
    → (file schedule : Text) (checked : CheckedProtocol) (status : Status) (text : Text)
    → checked_form.Holds file checked → EventsKeepClaims checked n
    → TaskVerdict (run_task n k mode) file schedule status text → status ≢ ClaimBroken

-- The same of `boot`, where events keep each claim of the file that is stored in the image.
abbrev pub NoBootBreaksAClaim : Type 0
NoBootBreaksAClaim =
    (n k : ℕ) → (describe (Some (Boot n k))).Numbers
    → (file schedule : Text) (booted : Booted) (status : Status) (text : Text)
    → image_form.Holds file booted → EventsKeepClaims booted.checked n
    → TaskVerdict (boot_task n k) file schedule status text → status ≢ ClaimBroken

-- Where some event takes place in each configuration that events reach, `drive` is done, and the
-- last line of what it writes is `stopped no`.
abbrev pub NoDriveStops : Type 0
NoDriveStops =
    (d : Driving) → (describe (Some (Drive d))).Numbers
    → (file schedule : Text) (checked : CheckedProtocol) (status : Status) (text : Text)
    → checked_form.Holds file checked
    → ((at : RvConfig) → IsReached checked.protocol d.remotes at → TakesPlace checked.protocol at)
    → TaskVerdict (drive_task d) file schedule status text
    → (status ≡ Done) × ((lines : Text) × (text ≡ lines ++ codes "stopped no\n"))

-- That each run of `run` and of `boot` whose file isn't refused is shown.
use Rattle.std.specs.Prelude.{◌≡◌, ℕ, Some}
use Rattle.proto_model.specs.Tokens.{Text}
use Rattle.proto_model.specs.Numbered.{CheckedProtocol}
use Rattle.proto_model.specs.declared.mode.Mode.{Mode}
use Rattle.rvc_top.specs.Forms.{checked_form}
use Rattle.rvc_top.specs.Stores.{image_form}
use Rattle.rvc_top.specs.Commands.{describe}
use Rattle.rvc_top.specs.Verdict.{TaskVerdict}
use Rattle.rvc_top.specs.AuditedRuns.{run_task}
use Rattle.rvc_top.specs.BootedRuns.{boot_task}
use Rattle.rvc_top.specs.Shown.{IsShown}
use Rattle.rvc_top.specs.declared.boot.Booted.{Booted}
use Rattle.rvc_top.specs.declared.command.Command.TheVariants.{Run, Boot}
use Rattle.rvc_top.specs.declared.status.Status.{Status}
use Rattle.rvc_top.specs.declared.status.Status.TheVariants.{FileRefused}

-- The file holds a protocol, and the run is shown on its controllers.
abbrev pub IsShownOfFile : ℕ → ℕ → Mode → Text → Text → Status → Text → Type 0
IsShownOfFile n k mode file schedule status text =
    (checked : CheckedProtocol) × checked_form.Holds file checked
    × IsShown n k mode checked schedule status text

-- The file is a control store, and the run is shown on the controllers of its protocol in its mode.
abbrev pub IsShownOfImage : ℕ → ℕ → Text → Text → Status → Text → Type 0
IsShownOfImage n k file schedule status text =
    (booted : Booted) × image_form.Holds file booted
    × IsShown n k booted.mode booted.checked schedule status text

-- Whatever the verdict of `run` is where the file isn't refused, the run is shown so.
abbrev pub EveryRunIsShown : Type 0
EveryRunIsShown =
    (n k : ℕ) (mode : Mode) → (describe (Some (Run n k mode))).Numbers
    → (file schedule : Text) (status : Status) (text : Text)
    → TaskVerdict (run_task n k mode) file schedule status text → (status ≡ FileRefused → ⊥)
    → IsShownOfFile n k mode file schedule status text

-- And so it is of `boot`.
abbrev pub EveryBootIsShown : Type 0
EveryBootIsShown =
    (n k : ℕ) → (describe (Some (Boot n k))).Numbers
    → (file schedule : Text) (status : Status) (text : Text)
    → TaskVerdict (boot_task n k) file schedule status text → (status ≡ FileRefused → ⊥)
    → IsShownOfImage n k file schedule status text

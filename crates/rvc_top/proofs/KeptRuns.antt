-- What no event of the file's protocol can break, no run of `run`, `boot` or `drive` can.
use Rattle.std.proofs.Common.{◌≢◌, ℕ, ◌≤◌, refl, sym, ◌∙◌}
use Rattle.proto_model.specs.Tokens.{Text}
use Rattle.proto_model.specs.Numbered.{CheckedProtocol}
use Rattle.proto_model.specs.Proper.{IsProper}
use Rattle.proto_model.specs.declared.mode.Mode.{Mode}
use Rattle.schedule_replay.specs.ScheduleLimits.{schedule_limits}
use Rattle.schedule_replay.specs.Played.{Stop, AtEnd, AtLine, TooMany, Halted, played, trace}
use Rattle.run_replay.specs.RunTrace.{run_play, run_start}
use Rattle.drive_report.specs.Drive.{summary}
use Rattle.every_run.proofs.NeverStops.{driven-goes_on}
use Rattle.every_schedule.specs.KeptClaims.{EventsKeepClaims}
use Rattle.every_schedule.proofs.KeptClaims.{run-keeps}
use Rattle.rvc_top.specs.Commands.{said_at, run_replay, boot_replay, drive_text, done}
use Rattle.rvc_top.specs.Commands.{driven_setting}
use Rattle.rvc_top.specs.Forms.{checked_form}
use Rattle.rvc_top.specs.Stores.{image_form}
use Rattle.rvc_top.specs.KeptRuns.{NoRunBreaksAClaim, NoBootBreaksAClaim, NoDriveStops}
use Rattle.rvc_top.specs.declared.boot.Booted.{Booted}
use Rattle.rvc_top.specs.declared.status.Status.TheVariants.{ClaimBroken}
use Rattle.rvc_top.proofs.EveryRun.{file-says}
use Rattle.rvc_top.proofs.Forms.{checked_form-is}
use Rattle.rvc_top.proofs.StoreForms.{image_form-is}
use Rattle.rvc_top.proofs.StoppedNo.{last-line}
use Rattle.rvc_top.proofs.RunRefines.{held-proper, booted-proper}

-- A schedule that doesn't stop at a broken claim isn't said to.
said-not_broken : (stop : Stop) (text : Text) → ((lines claim : ℕ) → stop ≢ Halted lines claim)
    → (said_at stop text).status ≢ ClaimBroken
said-not_broken AtEnd text whole e = absurd (cc)
said-not_broken (AtLine line) text whole e = absurd (cc)
said-not_broken TooMany text whole e = absurd (cc)
said-not_broken (Halted lines claim) text whole e = whole lines claim refl

-- What is said of a schedule of steps of a proper protocol isn't that a claim is broken.
replay-not_broken : (n k : ℕ) (mode : Mode) (checked : CheckedProtocol) → IsProper checked.protocol
    → ((1 ≤ n) × (n ≤ 64)) × ((2 ≤ k) × (k ≤ 64)) → EventsKeepClaims checked n
    → (schedule : Text) → ((run_replay n k mode checked).says schedule).status ≢ ClaimBroken
replay-not_broken n k mode checked proper numbers keeps schedule =
    said-not_broken (played run_play schedule_limits (run_start checked mode n k) schedule).stop
    (trace run_play schedule_limits (run_start checked mode n k) schedule)
    (run-keeps checked mode n k proper numbers.0.0 numbers.0.1 numbers.1.0 numbers.1.1 keeps
    schedule_limits schedule).whole

pub no-run_broken : NoRunBreaksAClaim
no-run_broken n k mode numbers file schedule checked status text holds keeps verdict broken =
    let said =
    file-says checked_form checked_form-is
    (λ (c : CheckedProtocol). (run_replay n k mode c).says schedule) file checked holds status text
    verdict in
    replay-not_broken n k mode checked (held-proper file checked holds) numbers keeps schedule
    (sym said.0 ∙ broken)

pub no-boot_broken : NoBootBreaksAClaim
no-boot_broken n k numbers file schedule booted status text holds keeps verdict broken =
    let said =
    file-says image_form image_form-is
    (λ (b : Booted). (boot_replay n k b).says schedule) file booted holds status text verdict in
    replay-not_broken n k booted.mode booted.checked (booted-proper file booted holds) numbers keeps
    schedule (sym said.0 ∙ broken)

pub no-drive_stops : NoDriveStops
no-drive_stops d numbers file schedule checked status text holds moves verdict =
    let said =
    file-says checked_form checked_form-is (λ (c : CheckedProtocol). done (drive_text d c)) file
    checked holds status text verdict in
    let setting = driven_setting d checked in
    let goes_on =
    driven-goes_on setting d.remotes (held-proper file checked holds) numbers.0.0 numbers.0.1
    numbers.1.0 numbers.1.1 moves d.turns d.seed in
    let ends = last-line (summary setting d.remotes d.turns d.seed) goes_on in
    (said.0, (ends.0, said.1 ∙ ends.1))

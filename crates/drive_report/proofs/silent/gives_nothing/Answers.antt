-- The guard is no output, or the home waits.
use Rattle.std.proofs.Common.{sym, refl, ◌∙◌}
use Rattle.rv_base.proofs.Lists.{is_false}
use Rattle.async_machine.specs.Standing.{setting, config}
use Rattle.drive_report.specs.declared.forms.Form.TheVariants as form
use Rattle.drive_report.proofs.EnabledFrames.{waiting-none}
use Rattle.drive_report.proofs.SilentForms.{sends-none}
use Rattle.drive_report.proofs.silent.gives_nothing.Goals as goal

pub returns-in-Idle : goal.returns-in-Idle
returns-in-Idle g c silent j =
    let machine = c.args.machine.now in
    sends-none (setting machine) (config g.L.Links.lists machine) c.in-Idle.state c.args.g
    (sym c.in-Idle.ensures) (sym c.home_gives.ensures ∙ is_false c.home_gives.result silent) j

pub returns-in-Waits : goal.returns-in-Waits
returns-in-Waits g c silent j =
    let machine = c.args.machine.now in
    waiting-none (setting machine) (config g.L.Links.lists machine) c.in-Waits.field-0
    (sym c.in-Waits.ensures) (form.HomeSend c.args.g) refl j

-- The home waits.
use Rattle.std.proofs.Common.{sym, ◌∙◌}
use Rattle.async_machine.specs.Standing.{setting, config}
use Rattle.drive_report.proofs.EnabledFrames.{waiting-none}
use Rattle.drive_report.proofs.silent.waits.Goals as goal

pub returns-in-Waits : goal.returns-in-Waits
returns-in-Waits g c silent b =
    let machine = c.args.machine.now in
    waiting-none (setting machine) (config g.L.Links.lists machine) c.in-Waits.field-0
    (sym c.in-Waits.ensures) c.args.form (sym c.is_at_home.ensures ∙ silent) b

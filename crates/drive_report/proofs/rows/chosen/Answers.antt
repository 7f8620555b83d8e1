-- The rows hold few steps, and these are the enabled ones.
use Rattle.std.proofs.Common.{sym, ap, subst, ◌∙◌}
use Rattle.async_shape.proofs.ShapeParts.{IsShaped-whole}
use Rattle.async_machine.specs.Standing.{setting, config}
use Rattle.drive_report.specs.Drive.{step_chosen}
use Rattle.drive_report.specs.Rows.{steps_in, AreFew}
use Rattle.drive_report.proofs.ReadyRows.{rows-hold, rows-few}
use Rattle.drive_report.proofs.rows.chosen.Goals as goal

pub chosen_in-requires : goal.chosen_in-requires
chosen_in-requires g c =
    let machine = c.args.machine.now in
    let stands = config g.L.Links.lists machine in
    let few = (IsShaped-whole (setting machine) stands c.shaped.ensures).few_remotes in
    subst AreFew (sym c.requires) (rows-few (setting machine) stands few)

pub returns : goal.returns
returns g c =
    let machine = c.args.machine.now in
    let stands = config g.L.Links.lists machine in
    c.chosen_in.ensures
    ∙ ap (step_chosen c.args.x) (ap steps_in c.requires ∙ rows-hold (setting machine) stands)

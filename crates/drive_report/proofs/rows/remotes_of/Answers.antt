-- A configuration with the shape has at most 64 remotes.
use Rattle.std.proofs.Common.{arith}
use Rattle.async_shape.proofs.ShapeParts.{IsShaped-whole}
use Rattle.async_machine.specs.Standing.{setting, config}
use Rattle.drive_report.proofs.rows.remotes_of.Goals as goal

pub returns-clause-few : goal.returns-clause-few
returns-clause-few g c =
    let machine = c.args.machine.now in
    let stands = config g.L.Links.lists machine in
    let few = (IsShaped-whole (setting machine) stands c.shaped.ensures).few_remotes in
    omega (arith, few, c.n.ensures)

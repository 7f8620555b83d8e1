-- The home has as many variables as its body.
use Rattle.async_machine.specs.Standing.{config}
use Rattle.run_replay.proofs.Shown.{home-vars}
use Rattle.run_replay.proofs.state_lines.put_home_standing.Goals as goal

pub put_vars-requires : goal.put_vars-requires
put_vars-requires g c =
    let machine = c.args.machine.now in
    rw (c.home_vars.ensures, c.home.ensures.value, c.table-table.ensures)
    (home-vars machine.table machine.slots (config g.L.Links.lists machine) c.shaped.ensures)

-- The remote has as many variables as its body.
use Rattle.async_machine.specs.Standing.{config}
use Rattle.run_replay.proofs.Shown.{remote-vars}
use Rattle.run_replay.proofs.state_lines.put_standing.Goals as goal

pub put_vars-requires : goal.put_vars-requires
put_vars-requires g c =
    let machine = c.args.machine.now in
    rw (c.remote_vars.ensures, c.remote.ensures.value, c.table-table.ensures)
    (remote-vars machine.table machine.slots (config g.L.Links.lists machine) c.shaped.ensures
    c.args.j c.requires)

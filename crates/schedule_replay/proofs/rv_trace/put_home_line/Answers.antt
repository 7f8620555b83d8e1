-- The home stands in a configuration, so it has a rendezvous line.
use Rattle.schedule_replay.proofs.ShownParts.{vars-length}
use Rattle.schedule_replay.proofs.rv_trace.put_home_line.Goals as goal

pub rv_line-requires-clause-vars : goal.rv_line-requires-clause-vars
rv_line-requires-clause-vars c =
    let machine = c.args.machine.now in
    let many = vars-length machine.protocol.home machine.config.home c.config.ensures.standing.home
    in
    rw (c.config.ensures.value, c.home.ensures.value, c.protocol.ensures) many

-- The remote stands in a configuration, so it has a rendezvous line.
use Rattle.std.proofs.Common.{sym}
use Rattle.schedule_replay.proofs.ShownParts.{vars-length, remote-stands}
use Rattle.schedule_replay.proofs.rv_trace.put_remote_line.Goals as goal

pub rv_line-requires-clause-vars : goal.rv_line-requires-clause-vars
rv_line-requires-clause-vars c =
    let machine = c.args.machine.now in
    let there = c.in-Some.ensures in
    let stands = remote-stands machine.protocol.remote machine.config.remotes c.args.j
    c.in-Some.part.now there.standing.remotes (sym there.value) in
    rw (c.remote.ensures.value, c.protocol.ensures)
    (vars-length machine.protocol.remote c.in-Some.part.now stands)

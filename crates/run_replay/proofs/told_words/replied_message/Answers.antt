-- The remote is there, and due by this guard.
use Rattle.std.proofs.Common.{◌<◌, length, arith, sym, ◌∙◌}
use Rattle.controller_table.specs.Sound.{protocol_of}
use Rattle.run_replay.proofs.MessagesBehind.{due-message}
use Rattle.run_replay.proofs.told_words.replied_message.Goals as goal

pub returns : goal.returns
returns g c =
    let machine = c.args.machine.now in
    let within : c.args.j < length machine.remotes =
    omega (arith, c.if-j-from.false, c.from.ensures, c.n.ensures) in
    (rw (c.remote_vars-vars.ensures, c.table.ensures) at c.remote_gives.ensures)
    ∙ sym (due-message (protocol_of machine.table) machine.remotes c.args.j c.in-Due.g within
    c.in-Due.ensures)

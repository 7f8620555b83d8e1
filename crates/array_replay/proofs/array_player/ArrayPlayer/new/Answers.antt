-- The array starts over the table of the protocol.
use Rattle.std.proofs.Common.{ap, ◌∙◌}
use Rattle.array_replay.specs.Standing.{running_of}
use Rattle.array_replay.proofs.ToldInLine.{begins-so}
use Rattle.array_replay.proofs.array_player.ArrayPlayer.new.Goals as goal

pub returns : goal.returns
returns c =
    ap running_of c.in_ok-array.ensures
    ∙ begins-so c.args.checked.now.protocol c.args.table.now c.args.n c.args.k c.args.lines
    c.requires.table

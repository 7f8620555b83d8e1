-- What is appended is the number of the cache line and the block of its controllers.
use Rattle.array_replay.specs.Standing.{running_of, line_config}
use Rattle.array_replay.proofs.ToldInLine.{line-there, block-placed}
use Rattle.array_replay.proofs.array_player.play_meant.Goals as goal

pub returns-clause-tells : goal.returns-clause-tells
returns-clause-tells c =
    let array = c.args.lines.now.array in
    let at = c.args.at in
    block-placed (running_of array) at.item at.line c.args.step (line_config array at.line)
    c.requires.meant (line-there array at.line c.requires.there) c.put_in_line-so_far.result
    c.play_step-written.result.1 c.args.out.now.items c.put_in_line-so_far.new.out.items
    c.play_step-written.new.out.items c.put_in_line-so_far.ensures c.play_step-written.ensures.tells

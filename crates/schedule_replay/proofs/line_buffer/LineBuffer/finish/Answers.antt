-- The last line is one of as many as there may be.
use Rattle.std.proofs.Common.{◌<◌, length, arith}
use Rattle.schedule_replay.proofs.LinesTurns.{below-limit}
use Rattle.schedule_replay.proofs.line_buffer.LineBuffer.finish.Goals as goal

pub overflow_add-self : goal.overflow_add-self
overflow_add-self c =
    let some : 0 < length c.args.self.now.part.items = grind arith in
    omega (arith, below-limit c.args.self.now c.requires.vacant some)

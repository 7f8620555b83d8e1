-- The turns before the last one took bytes of the line.
use Rattle.std.proofs.Common.{◌∙◌}
use Rattle.schedule_replay.specs.AtHand.{ahead_of}
use Rattle.schedule_replay.proofs.Taking.{Took-trans}
use Rattle.schedule_replay.proofs.LinesTurns.{later-moves}
use Rattle.schedule_replay.proofs.line_buffer.LineBuffer.read.Goals as goal

pub returns-in-Some-clause-moves : goal.returns-in-Some-clause-moves
returns-in-Some-clause-moves g c =
    let so_far = c.loop-answer.invariant in
    later-moves c.args.self.now c.loop-answer.self c.turn.new.self
    (g.Q.Source.left c.args.source.now) (g.Q.Source.left c.loop-answer.source)
    (g.Q.Source.left c.turn.new.source)
    c.in-Some.answer so_far.taken so_far.count c.in-Some.ensures.moves.1

pub loop-answer-preserved : goal.loop-answer-preserved
loop-answer-preserved g c =
    let so_far = c.loop-answer.invariant in
    let steps = c.in_default.ensures.moves in
    record {
      taken = Took-trans (g.Q.Source.left c.args.source.now) (g.Q.Source.left c.loop-answer.source)
          (g.Q.Source.left c.turn.new.source) (ahead_of c.args.self.now)
          (ahead_of c.loop-answer.self) (ahead_of c.turn.new.self) so_far.taken steps.taken;
      count = record {
        limits = steps.count.limits ∙ so_far.count.limits;
        got = steps.count.got ∙ so_far.count.got;
        ended = steps.count.ended ∙ so_far.count.ended;
      };
      goes = steps.count.ended ∙ so_far.goes;
      vacant = steps.vacant;
      spent = steps.spent;
      same_count = c.in_default.ensures.cause ∙ so_far.same_count;
      same_wants = c.in_default.ensures.wants ∙ so_far.same_wants;
    }

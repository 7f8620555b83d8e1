-- So far each byte that was taken stands ahead, and no read failed or had no memory.
use Rattle.std.proofs.Common.{◌≡◌, ◌+◌, ◌-◌, length, false}
use Rattle.schedule_replay.specs.NextLine.{Took}
use Rattle.schedule_replay.specs.AtHand.{SameCount, ahead_of}
use Rattle.schedule_replay.specs.declared.line_buffer.Held.TheVariants.{Nothing}
use Rattle.schedule_replay.proofs.line_buffer.LineBuffer.read.Given as goal

abbrev pub invariant-loop-answer : goal.invariant-loop-answer
invariant-loop-answer g l = record {
  taken : Took (g.Q.Source.left l.fn.source) (g.Q.Source.left l.source) (ahead_of l.fn.self)
      (ahead_of l.self);
  count : SameCount l.fn.self l.self;
  goes : l.self.ended ≡ false;
  vacant : l.self.held ≡ Nothing;
  spent : l.self.start ≡ l.self.end;
  same_count : g.Q.Source.faults l.source ≡ g.Q.Source.faults l.fn.source;
  same_wants : g.Q.Source.wants l.source ≡ g.Q.Source.wants l.fn.source;
}

abbrev pub decreases-loop-answer : goal.decreases-loop-answer
decreases-loop-answer g l = l.fn.self.limits.line + 257 - length (ahead_of l.self)

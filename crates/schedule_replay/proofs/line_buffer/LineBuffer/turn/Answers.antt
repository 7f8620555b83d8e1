-- What a read gave, and what that decides.
use Rattle.std.proofs.Common.{Bool, sym, subst}
use Rattle.rv_base.specs.Outside.{RisesWhere}
use Rattle.schedule_replay.proofs.LinesTurns.{then-moves, then-lacks}
use Rattle.schedule_replay.proofs.line_buffer.LineBuffer.turn.Goals as goal

pub returns-in-Ready-clause-moves : goal.returns-in-Ready-clause-moves
returns-in-Ready-clause-moves g c =
    let bytes = c.in-Ready.ensures.bytes in
    then-moves c.args.self.now c.fill.new.self c.at_hand.new.self
    (g.Q.Source.left c.args.source.now) (g.Q.Source.left c.fill.new.source)
    c.at_hand.result c.in-Ready.ensures.kept c.requires.spent bytes.0 bytes.1 c.at_hand.ensures

pub returns-in-End-clause-cause : goal.returns-in-End-clause-cause
returns-in-End-clause-cause g c =
    subst (λ (rose : Bool). RisesWhere rose (g.Q.Source.faults c.args.source.now)
    (g.Q.Source.faults c.fill.new.source)) (sym c.finish.ensures.quiet) c.in-End.ensures.cause

pub returns-in-NoMemory-clause-moves : goal.returns-in-NoMemory-clause-moves
returns-in-NoMemory-clause-moves g c = (
  c.in-NoMemory.ensures.kept.count.limits,
  then-lacks c.args.self.now c.fill.new.self (g.Q.Source.left c.args.source.now)
      (g.Q.Source.left c.fill.new.source)
      c.in-NoMemory.ensures.kept c.requires.spent c.requires.vacant c.in-NoMemory.ensures.bytes.1,
)

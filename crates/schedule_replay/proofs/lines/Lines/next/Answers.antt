-- What the bytes at hand decide, or more of them.
use Rattle.std.proofs.Common.{subst}
use Rattle.schedule_replay.specs.AtHand.{reading_of, Carries}
use Rattle.schedule_replay.specs.NextLine.{NextMoves}
use Rattle.schedule_replay.specs.Reading.{Reading}
use Rattle.schedule_replay.proofs.Further.{Waits-moves}
use Rattle.schedule_replay.proofs.LinesTurns.{Carries-waits}
use Rattle.schedule_replay.proofs.lines.Lines.next.Goals as goal

pub returns-in-Some-clause-moves : goal.returns-in-Some-clause-moves
returns-in-Some-clause-moves g c =
    let left = g.Q.Source.left c.args.source.now in
    subst (λ (old : Reading). NextMoves old.limits old (reading_of c.at_hand.new.self) left left
    c.in-Some.answer) c.self.view_is (c.in-Some.ensures.3 left)

pub returns-clause-moves : goal.returns-clause-moves
returns-clause-moves g c =
    let old = c.self.inside.buffer in
    let mid = c.at_hand.new.self in
    let before = g.Q.Source.left c.args.source.now in
    let after = g.Q.Source.left c.read.new.source in
    let carries : Carries old mid = c.in_default.ensures in
    subst (λ (r : Reading). NextMoves r.limits r (reading_of c.read.new.self) before after
    c.read.result) c.self.view_is
    (Waits-moves (reading_of old) (reading_of mid) (reading_of c.read.new.self) before after
    c.read.result (Carries-waits old mid carries) c.read.ensures.moves)

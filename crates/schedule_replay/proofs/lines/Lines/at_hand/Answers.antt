-- What the bytes at hand decide.
use Rattle.std.proofs.Common.{subst}
use Rattle.schedule_replay.specs.AtHand.{reading_of}
use Rattle.schedule_replay.specs.NextLine.{AtHandMoves}
use Rattle.schedule_replay.specs.Reading.{Reading}
use Rattle.schedule_replay.proofs.LinesTurns.{hand-moves}
use Rattle.schedule_replay.proofs.lines.Lines.at_hand.Goals as goal

pub returns : goal.returns
returns c =
    subst (λ (old : Reading). AtHandMoves old (reading_of c.at_hand.new.self) c.at_hand.result)
    c.self.view_is
    (hand-moves c.self.inside.buffer c.at_hand.new.self c.at_hand.result c.at_hand.ensures)

-- What is said is what the reader of lines says, before or after what is kept was written.
use Rattle.schedule_replay.specs.NextLine.{Waits}
use Rattle.schedule_replay.proofs.Further.{Waits-moves, Waits-lacks}
use Rattle.schedule_replay.proofs.Asked.{asked-moves, asked-wrote}
use Rattle.schedule_replay.proofs.replaying.ask.Goals as goal

pub returns-in-Some-clause-moves : goal.returns-in-Some-clause-moves
returns-in-Some-clause-moves g c =
    let left = g.Q.Source.left c.args.schedule.now in
    asked-moves c.args.lines.now.limits c.args.lines.now c.at_hand.new.self left left c.in-Some.next
    c.said.result c.said.ensures (c.in-Some.ensures.3 left)

pub returns-in-Whole-clause-moves : goal.returns-in-Whole-clause-moves
returns-in-Whole-clause-moves g c =
    let before = g.Q.Source.left c.args.schedule.now in
    let after = g.Q.Source.left c.next.new.source in
    let waits : Waits c.args.lines.now c.at_hand.new.self = c.in_default.ensures in
    asked-moves c.args.lines.now.limits c.args.lines.now c.next.new.self before after c.next.result
    c.said-in-Whole.result c.said-in-Whole.ensures
    (Waits-moves c.args.lines.now c.at_hand.new.self c.next.new.self before after c.next.result
    waits c.next.ensures.moves)

pub returns-in-Whole-clause-bytes : goal.returns-in-Whole-clause-bytes
returns-in-Whole-clause-bytes g c =
    asked-wrote c.args.kept.now.items c.flush.new.kept.items (g.O.Sink.taken c.args.out.now)
    (g.O.Sink.taken c.flush.new.out)
    c.next.result c.said-in-Whole.result c.said-in-Whole.ensures c.flush.ensures.none
    c.in-Whole.ensures.bytes

pub returns-in-NoMemory-clause-moves : goal.returns-in-NoMemory-clause-moves
returns-in-NoMemory-clause-moves g c =
    Waits-lacks c.args.lines.now c.at_hand.new.self (g.Q.Source.left c.args.schedule.now)
    c.in_default.ensures

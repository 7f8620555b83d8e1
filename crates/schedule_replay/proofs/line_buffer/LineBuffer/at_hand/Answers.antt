-- The pending bytes are looked through for an LF, and the answer is that of the line at hand.
use Rattle.std.proofs.Common.{Some, sym, ◌∙◌, ap}
use Rattle.std.specs.List.{position}
use Rattle.schedule_replay.specs.TextLines.{is_lf}
use Rattle.schedule_replay.proofs.LinesTurns.{slice-pending, opened-hand}
use Rattle.schedule_replay.proofs.line_buffer.LineBuffer.at_hand.Goals as goal

pub close-requires-clause-ends : goal.close-requires-clause-ends
close-requires-clause-ends c = ap (position is_lf) (sym (slice-pending c.open.new.self))
    ∙ sym c.in-Some.ensures

pub carry-requires-clause-no_lf : goal.carry-requires-clause-no_lf
carry-requires-clause-no_lf c = ap (position is_lf) (sym (slice-pending c.open.new.self))
    ∙ sym c.in-None.ensures

pub returns-in-Some : goal.returns-in-Some
returns-in-Some c = opened-hand c.args.self.now c.open.new.self c.close.new.self
    (Some c.close.result) c.open.ensures c.close.ensures

pub returns-in-None : goal.returns-in-None
returns-in-None c = opened-hand c.args.self.now c.open.new.self c.carry.new.self c.carry.result
    c.open.ensures c.carry.ensures

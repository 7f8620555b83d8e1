-- One more turn: it went on, or the run has stopped.
use Rattle.std.proofs.Common.{ap₂, ◌∙◌}
use Rattle.async_machine.specs.Standing.{setting_of, setting}
use Rattle.drive_report.specs.Counted.{counted_config}
use Rattle.drive_report.specs.Drive.{drive_from}
use Rattle.drive_report.specs.Turns.{nothing_counted, counted_to_end}
use Rattle.drive_report.proofs.DrivenTurns.{turn-goes_on, turn-counts, turn-ends}
use Rattle.drive_report.proofs.driven.turns.Goals as goal

pub returns-then-not-turn : goal.returns-then-not-turn
returns-then-not-turn c =
    let l = c.loop-done in
    let from = setting c.args.machine.now in
    let first = counted_config c.args.machine.now in
    let whole =
    counted_to_end from nothing_counted first (drive_from from c.args.count first c.args.seed) in
    turn-ends (setting l.machine) from (ap₂ setting_of l.invariant.table l.invariant.slots)
    c.args.count l.done c.loop-done-test.true (counted_config l.machine)
    (counted_config c.turn.new.machine) l.x c.number_after-x.result c.number_after-x.ensures
    l.summary
    c.turn.new.so_far whole l.invariant.whole c.turn.result c.turn.ensures.turn
    c.if-not-turn.true

pub loop-done-preserved : goal.loop-done-preserved
loop-done-preserved c =
    let l = c.loop-done in
    let from = setting c.args.machine.now in
    let first = counted_config c.args.machine.now in
    let whole =
    counted_to_end from nothing_counted first (drive_from from c.args.count first c.args.seed) in
    let same = ap₂ setting_of l.invariant.table l.invariant.slots in
    let counts =
    turn-counts (setting l.machine) from same c.args.count l.done c.loop-done-test.true
    (counted_config l.machine) (counted_config c.turn.new.machine) l.x c.number_after-x.result
    c.number_after-x.ensures l.summary c.turn.new.so_far whole l.invariant.whole c.turn.result
    c.turn.ensures.turn c.if-not-turn.false l.invariant.few in
    record {
      table = c.turn.ensures.kept.0 ∙ l.invariant.table;
      slots = c.turn.ensures.kept.1 ∙ l.invariant.slots;
      rows = c.turn.ensures.rows;
      packets = c.turn.ensures.packets;
      few = counts.0;
      going = counts.1 ∙ l.invariant.going;
      whole =
          turn-goes_on (setting l.machine) from same c.args.count l.done c.loop-done-test.true
          (counted_config l.machine) (counted_config c.turn.new.machine) l.x
          c.number_after-x.result c.number_after-x.ensures l.summary c.turn.new.so_far whole
          l.invariant.whole c.turn.result c.turn.ensures.turn c.if-not-turn.false;
    }

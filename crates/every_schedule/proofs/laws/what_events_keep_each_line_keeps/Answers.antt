-- Each line stands where events lead.
use Rattle.std.proofs.Common.{sym, subst}
use Rattle.std.specs.List.{AllByRecursion}
use Rattle.rv_base.proofs.Lists.{AllByRecursion-weaker}
use Rattle.schedule_replay.specs.TextLines.{lines_of}
use Rattle.schedule_replay.proofs.PlayedItems.{all_lines}
use Rattle.async_shape.specs.Config.{Config}
use Rattle.abstraction_map.specs.Abstraction.{abstraction}
use Rattle.line_array.specs.ArrayConfig.{array_start}
use Rattle.line_array.specs.ArrayNext.{array_at_end}
use Rattle.array_replay.specs.ArrayTrace.{ArrayRunning, array_play, array_begin}
use Rattle.array_replay.proofs.LinesOfRuns.{of_items}
use Rattle.every_run.proofs.ToldLeads.{ComesTo}
use Rattle.every_schedule.proofs.LinesCome.{array-comes}
use Rattle.every_schedule.proofs.laws.what_events_keep_each_line_keeps.Goals as goal

pub returns-clause-steps : goal.returns-clause-steps
returns-clause-steps g c setting n lines proper some few two most each steps =
    AllByRecursion-weaker (ComesTo setting n)
    (λ (d : Config). g.P.Property.has (abstraction setting.protocol d))
    (array_at_end setting (array_start setting.protocol n lines) steps).lines
    (λ d comes. each (abstraction setting.protocol d) comes.reached)
    (array-comes setting proper n lines steps some few two most)

pub returns-clause-schedules : goal.returns-clause-schedules
returns-clause-schedules g c protocol mode n k lines proper some few two most each limits schedule =
    let first = array_begin protocol mode n k lines in
    let is = of_items first (lines_of schedule) _
    (all_lines array_play limits first (lines_of schedule)) in
    subst (λ (at : ArrayRunning).
    AllByRecursion (λ (d : Config). g.P.Property.has (abstraction protocol d)) at.config.lines)
    (sym is.state)
    (returns-clause-steps g c first.setting n lines proper some few two most each is.steps)

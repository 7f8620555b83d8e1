-- The steps that are taken are a run, whatever the network does.
use Rattle.std.proofs.Common.{sym, subst}
use Rattle.schedule_replay.specs.TextLines.{lines_of}
use Rattle.schedule_replay.proofs.PlayedItems.{all_lines}
use Rattle.async_shape.specs.Config.{Config}
use Rattle.async_shape.specs.Run.{config_at_end}
use Rattle.abstraction_map.specs.Abstraction.{abstraction}
use Rattle.lossy_replay.specs.LossyTrace.{LossyRunning, lossy_play, lossy_start}
use Rattle.lossy_replay.specs.StepsTaken.{steps_taken}
use Rattle.lossy_replay.proofs.TakenRuns.{of_taken}
use Rattle.every_run.proofs.ToldLeads.{end-comes, start-comes}
use Rattle.every_schedule.proofs.laws.what_events_keep_networks_keep.Goals as goal

pub returns-clause-items : goal.returns-clause-items
returns-clause-items g c protocol mode n k proper some few two most each items =
    let first = lossy_start protocol mode n k in
    let taken = steps_taken first items in
    let comes =
    end-comes first.setting proper n first.config taken
    (start-comes first.setting proper n some few two most) in
    subst (λ (d : Config). g.P.Property.has (abstraction protocol d))
    (sym (of_taken first items).config)
    (each (abstraction protocol (config_at_end first.setting first.config taken)) comes.reached)

pub returns-clause-schedules : goal.returns-clause-schedules
returns-clause-schedules g c protocol mode n k proper some few two most each limits schedule =
    let first = lossy_start protocol mode n k in
    let is = all_lines lossy_play limits first (lines_of schedule) in
    subst (λ (at : LossyRunning). g.P.Property.has (abstraction protocol at.config)) (sym is.state)
    (returns-clause-items g c protocol mode n k proper some few two most each is.items)

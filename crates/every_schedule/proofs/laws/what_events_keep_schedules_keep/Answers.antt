-- What is played is a run.
use Rattle.std.proofs.Common.{sym, subst}
use Rattle.schedule_replay.specs.TextLines.{lines_of}
use Rattle.async_shape.specs.Run.{config_at_end}
use Rattle.abstraction_map.specs.Abstraction.{abstraction}
use Rattle.run_replay.specs.RunTrace.{Running, run_start}
use Rattle.run_replay.proofs.PlayedRuns.{of_run}
use Rattle.every_run.proofs.ToldLeads.{end-comes, start-comes}
use Rattle.every_schedule.proofs.laws.what_events_keep_schedules_keep.Goals as goal

pub returns : goal.returns
returns g c checked mode n k proper some few two most each limits schedule =
    let first = run_start checked mode n k in
    let is = of_run limits first (lines_of schedule) in
    let comes =
    end-comes first.setting proper n first.config is.steps
    (start-comes first.setting proper n some few two most) in
    subst (λ (at : Running). g.P.Property.has (abstraction checked.protocol at.config))
    (sym is.state)
    (each (abstraction checked.protocol (config_at_end first.setting first.config is.steps))
    comes.reached)

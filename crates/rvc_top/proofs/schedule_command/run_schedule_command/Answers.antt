-- The run ends as its file is refused, or as the replay by the value that it holds does.
use Rattle.std.proofs.Common.{refl}
use Rattle.rvc_top.specs.Runs.{seen_source}
use Rattle.rvc_top.proofs.ReplayedRuns.{run-held, run-refused}
use Rattle.rvc_top.proofs.schedule_command.run_schedule_command.Goals as goal

pub returns-in-Ok-Holds : goal.returns-in-Ok-Holds
returns-in-Ok-Holds g c =
    let found = c.in-Ok-Holds in
    run-held g.row.T-Value.Denot g.T.Value.FromFile.form c.requires.form
    g.T.ScheduleCommand.limits (g.T.ScheduleCommand.replayed c.args.command.now)
    (seen_source g.P.Source.left g.P.Source.faults g.P.Source.wants
    g.P.Source.ended c.args.file.now c.from_file.new.file) _ _ c.replay.result
    found.field-0 found.ensures.bytes found.ensures.count found.ensures.wants found.ensures.end
    found.ensures.taken found.value found.field-0-is c.replay.ensures

pub returns-in-Ok-Refused : goal.returns-in-Ok-Refused
returns-in-Ok-Refused g c =
    let found = c.in-Ok-Refused in
    let refusal = c.refusal in
    run-refused g.row.T-Value.Denot g.T.Value.FromFile.form c.requires.form
    g.T.ScheduleCommand.limits (g.T.ScheduleCommand.replayed c.args.command.now)
    (seen_source g.P.Source.left g.P.Source.faults g.P.Source.wants
    g.P.Source.ended c.args.file.now c.from_file.new.file) _ _ c.finish.result found.field-0
    found.ensures.bytes found.ensures.count found.ensures.wants found.ensures.end
    found.ensures.taken record { at = refl; same = refl } refusal.result
    (rw refusal.ensures.text found.field-0-is) refusal.ensures.status c.finish.ensures.bytes
    c.finish.ensures.counts c.finish.ensures.wants

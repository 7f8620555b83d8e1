-- Step by step, from what the start stands for.
use Rattle.std.proofs.Common.{subst}
use Rattle.proto_model.specs.declared.rendezvous.RvConfig.{RvConfig}
use Rattle.event_runs.specs.Reached.{Leads}
use Rattle.async_shape.specs.Config.{start}
use Rattle.async_shape.specs.Run.{config_at_end}
use Rattle.async_shape.proofs.Start.{IsShaped-start}
use Rattle.abstraction_map.specs.Abstraction.{abstraction}
use Rattle.abstraction_map.proofs.StartMeans.{abstraction-start}
use Rattle.every_run.specs.ToldEvents.{told_events}
use Rattle.every_run.proofs.ToldLeads.{steps-lead}
use Rattle.every_run.proofs.laws.events_lead_where_interleavings_mean.Goals as goal

pub returns : goal.returns
returns c setting n proper some few two most steps =
    let first = start setting.protocol n in
    subst (λ (from : RvConfig). Leads setting.protocol (told_events setting first steps) from
    (abstraction setting.protocol (config_at_end setting first steps)))
    (abstraction-start setting.protocol n)
    (steps-lead setting proper first steps (IsShaped-start setting n proper some few two most))

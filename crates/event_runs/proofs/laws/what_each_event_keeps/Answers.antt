-- By the events, one after another.
use Rattle.proto_model.specs.Rendezvous.{rv_start}
use Rattle.event_runs.proofs.Leading.{Leads-keep}
use Rattle.event_runs.proofs.laws.what_each_event_keeps.Goals as goal

pub returns : goal.returns
returns g c = λ protocol n starts keeps d reached.
    Leads-keep protocol g.P.Property.has keeps reached.events (rv_start protocol n) d
    reached.leads starts

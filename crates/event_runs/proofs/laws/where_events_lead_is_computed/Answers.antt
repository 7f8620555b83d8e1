-- By the events, one after another.
use Rattle.event_runs.proofs.Leading.{Leads-after, after-Leads, Leads-append}
use Rattle.event_runs.proofs.laws.where_events_lead_is_computed.Goals as goal

pub returns : goal.returns
returns c = record {
  computed = λ protocol events b d.
      (Leads-after protocol events b d, after-Leads protocol events b d);
  joined = Leads-append;
}

-- No events lead to the start, and one event more leads on.
use Rattle.std.proofs.Common.{[], refl}
use Rattle.event_runs.proofs.Leading.{IsReached-step}
use Rattle.event_runs.proofs.laws.events_reach_on.Goals as goal

pub returns : goal.returns
returns c = record {
  starts = λ protocol n. record { events = []; leads = refl };
  goes_on = IsReached-step;
}

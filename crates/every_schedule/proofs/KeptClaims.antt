-- Where events keep each claim of a file, no claim is broken wherever a schedule of steps or of
-- events leads.
use Rattle.std.proofs.Common.{◌≡◌, ℕ, ◌≤◌, List, [], Option, Some, None, unwrap_or, refl}
use Rattle.proto_model.specs.Numbered.{CheckedProtocol}
use Rattle.proto_model.specs.Proper.{IsProper}
use Rattle.proto_model.specs.RendezvousNext.{rv_next}
use Rattle.proto_model.specs.declared.mode.Mode.{Mode}
use Rattle.proto_model.specs.declared.rendezvous.RvConfig.{RvConfig}
use Rattle.proto_model.specs.declared.rendezvous.Event.{Event}
use Rattle.proto_model.proofs.Steps.{RvStep-next}
use Rattle.rendezvous_meaning.specs.Claims.{AllHold, remote_states}
use Rattle.rendezvous_meaning.specs.Standing.{Standing}
use Rattle.rendezvous_meaning.proofs.BrokenClaims.{none-broken}
use Rattle.schedule_replay.specs.Played.{played}
use Rattle.schedule_replay.specs.TextLines.{lines_of}
use Rattle.schedule_replay.specs.RvPlay.{Watched, watched_after, rv_play, rv_watched}
use Rattle.schedule_replay.specs.declared.limits.Limits.{Limits}
use Rattle.event_runs.specs.Reached.{IsReached}
use Rattle.event_runs.proofs.Leading.{IsReached-step}
use Rattle.async_shape.specs.declared.step.Step.{Step}
use Rattle.abstraction_map.specs.Abstraction.{abstraction}
use Rattle.run_replay.specs.RunTrace.{Running, running_after, run_halts, run_play, run_start}
use Rattle.every_run.proofs.ToldLeads.{ComesTo, step-comes, start-comes}
use Rattle.every_schedule.specs.KeptClaims.{EventsKeepClaims}
use Rattle.every_schedule.proofs.PlayedStates.{EndsWell, played-well}

-- ---- a schedule of steps

-- The controllers of a proper protocol stand where events lead, and events keep the claims.
pub record RunsWell (n : ℕ) (running : Running) : Type 0 where
  pub proper : IsProper running.setting.protocol
  pub comes : ComesTo running.setting n running.config
  pub keeps :
      (at : RvConfig) → IsReached running.setting.protocol n at
      → AllHold running.claims (remote_states at)

step-runs : (n : ℕ) (running : Running) (s : Step) → RunsWell n running
    → RunsWell n (running_after running s)
step-runs n running s well = record {
  proper = well.proper;
  comes = step-comes running.setting well.proper n running.config s well.comes;
  keeps = well.keeps;
}

runs-calm : (n : ℕ) (running : Running) → RunsWell n running → run_halts running ≡ None
runs-calm n running well =
    let stands = abstraction running.setting.protocol running.config in
    none-broken running.claims (remote_states stands) (well.keeps stands well.comes.reached)

pub run-keeps : (checked : CheckedProtocol) (mode : Mode) (n k : ℕ) → IsProper checked.protocol
    → 1 ≤ n → n ≤ 64 → 2 ≤ k → k ≤ 64 → EventsKeepClaims checked n
    → (limits : Limits) (schedule : List ℕ)
    → EndsWell (RunsWell n) (played run_play limits (run_start checked mode n k) schedule)
run-keeps checked mode n k proper some few two most keeps limits schedule =
    let first = run_start checked mode n k in
    played-well run_play (RunsWell n) (step-runs n) (runs-calm n) limits first (lines_of schedule)
    (record {
      proper = proper;
      comes = start-comes first.setting proper n some few two most;
      keeps = keeps;
    })

-- ---- a schedule of events

-- The machine stands where events lead, and events keep the claims.
pub record WatchedWell (n : ℕ) (watched : Watched) : Type 0 where
  pub reached : IsReached watched.standing.protocol n watched.standing.config
  pub keeps :
      (at : RvConfig) → IsReached watched.standing.protocol n at
      → AllHold watched.claims (remote_states at)

-- events reach where an event leads, or where the machine stays
reached_or_same : (n : ℕ) (standing : Standing) (e : Event) (to : Option RvConfig)
    → rv_next standing.protocol standing.config e ≡ to
    → IsReached standing.protocol n standing.config
    → IsReached standing.protocol n (unwrap_or to standing.config)
reached_or_same n standing e None leads reached = reached
reached_or_same n standing e (Some d) leads reached =
    IsReached-step standing.protocol n e standing.config d reached
    (RvStep-next standing.protocol standing.config e d leads)

event-watched : (n : ℕ) (watched : Watched) (e : Event) → WatchedWell n watched
    → WatchedWell n (watched_after watched e)
event-watched n watched e well = record {
  reached =
      reached_or_same n watched.standing e
      (rv_next watched.standing.protocol watched.standing.config e) refl well.reached;
  keeps = well.keeps;
}

watched-calm : (n : ℕ) (watched : Watched) → WatchedWell n watched → rv_play.halts watched ≡ None
watched-calm n watched well =
    none-broken watched.claims (remote_states watched.standing.config)
    (well.keeps watched.standing.config well.reached)

pub watched-keeps : (checked : CheckedProtocol) (n : ℕ) → EventsKeepClaims checked n
    → (limits : Limits) (schedule : List ℕ)
    → EndsWell (WatchedWell n) (played rv_play limits (rv_watched checked n) schedule)
watched-keeps checked n keeps limits schedule =
    played-well rv_play (WatchedWell n) (event-watched n) (watched-calm n) limits
    (rv_watched checked n) (lines_of schedule)
    (record { reached = record { events = []; leads = refl }; keeps = keeps })

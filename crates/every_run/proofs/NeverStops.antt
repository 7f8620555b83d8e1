-- Where an event takes place in each configuration that events reach, a run that a number chooses
-- doesn't stop before its last turn: where it stops none does.
use Rattle.std.proofs.Common.{◌≡◌, ℕ, ◌≤◌, Bool, true, false, refl}
use Rattle.proto_model.specs.Proper.{IsProper}
use Rattle.proto_model.specs.declared.rendezvous.RvConfig.{RvConfig}
use Rattle.event_runs.specs.Reached.{IsReached, TakesPlace}
use Rattle.async_shape.specs.Setting.{Setting}
use Rattle.async_shape.specs.Config.{start}
use Rattle.async_shape.specs.Run.{config_at_end}
use Rattle.abstraction_map.specs.Abstraction.{abstraction}
use Rattle.drive_report.specs.Drive.{drive_run}
use Rattle.drive_report.proofs.DrivenTurns.{stopped-still}
use Rattle.every_run.proofs.ToldLeads.{end-comes, start-comes}

never : (stopped : Bool) → (stopped ≡ true → ⊥) → stopped ≡ false
never true refuted = absurd (refuted refl)
never false refuted = refl

pub driven-goes_on : (setting : Setting) (n : ℕ) → IsProper setting.protocol → 1 ≤ n → n ≤ 64
    → 2 ≤ setting.slots → setting.slots ≤ 64
    → ((at : RvConfig) → IsReached setting.protocol n at → TakesPlace setting.protocol at)
    → (turns seed : ℕ) → (drive_run setting n turns seed).stopped ≡ false
driven-goes_on setting n proper some few two most each turns seed =
    let driven = drive_run setting n turns seed in
    let first = start setting.protocol n in
    let comes =
    end-comes setting proper n first driven.steps
    (start-comes setting proper n some few two most) in
    let moves =
    each (abstraction setting.protocol (config_at_end setting first driven.steps))
    comes.reached in
    never driven.stopped
    (λ stopped.
    stopped-still setting n proper some few two most turns seed stopped moves.event moves.next
    moves.step)

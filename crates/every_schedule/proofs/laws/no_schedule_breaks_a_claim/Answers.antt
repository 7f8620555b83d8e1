-- No claim is broken wherever a schedule leads.
use Rattle.every_schedule.proofs.KeptClaims.{run-keeps, watched-keeps}
use Rattle.every_schedule.proofs.laws.no_schedule_breaks_a_claim.Goals as goal

pub returns-clause-steps : goal.returns-clause-steps
returns-clause-steps c checked mode n k proper some few two most keeps limits schedule =
    (run-keeps checked mode n k proper some few two most keeps limits schedule).whole

pub returns-clause-events : goal.returns-clause-events
returns-clause-events c checked n keeps limits schedule =
    (watched-keeps checked n keeps limits schedule).whole

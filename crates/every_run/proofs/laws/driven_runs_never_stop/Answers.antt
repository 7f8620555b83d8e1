-- An event takes place where such a run would stop.
use Rattle.every_run.proofs.NeverStops.{driven-goes_on}
use Rattle.every_run.proofs.laws.driven_runs_never_stop.Goals as goal

pub returns : goal.returns
returns c = driven-goes_on

-- Each configuration of each run is shaped, and so refined.
use Rattle.abstraction_map.proofs.Refined.{IsRefined-run}
use Rattle.abstraction_map.proofs.laws.every_run_refines.Goals as goal

pub returns : goal.returns
returns c setting n proper some few two most steps =
    IsRefined-run setting n proper some few two most steps

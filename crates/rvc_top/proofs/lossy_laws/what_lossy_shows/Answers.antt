-- By the steps that are taken.
use Rattle.rvc_top.proofs.LossyRuns.{every-lossy-shown}
use Rattle.rvc_top.proofs.lossy_laws.what_lossy_shows.Goals as goal

pub returns : goal.returns
returns c = every-lossy-shown

-- What is written is the plain form.
use Rattle.rvc_top.proofs.ShownRuns.{every-run-shown}
use Rattle.rvc_top.proofs.headline.what_run_shows.Goals as goal

pub returns : goal.returns
returns c = every-run-shown

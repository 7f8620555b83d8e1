-- Each run has a verdict.
use Rattle.rvc_top.proofs.EveryRun.{every-run-decided}
use Rattle.rvc_top.proofs.laws.every_run_is_decided.Goals as goal

pub returns : goal.returns
returns c = every-run-decided

-- No run has two verdicts.
use Rattle.rvc_top.proofs.EveryRun.{every-verdict-one}
use Rattle.rvc_top.proofs.laws.every_verdict_is_one.Goals as goal

pub returns : goal.returns
returns c = every-verdict-one

-- The image and the file hold the same.
use Rattle.rvc_top.proofs.BootsAsRun.{boots-as-run}
use Rattle.rvc_top.proofs.store_laws.booting_is_running.Goals as goal

pub returns : goal.returns
returns c = boots-as-run

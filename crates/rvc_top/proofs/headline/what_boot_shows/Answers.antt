-- What is written is the plain form.
use Rattle.rvc_top.proofs.ShownRuns.{every-boot-shown}
use Rattle.rvc_top.proofs.headline.what_boot_shows.Goals as goal

pub returns : goal.returns
returns c = every-boot-shown

-- The image that is stored is the one that is booted.
use Rattle.rvc_top.proofs.StoredRuns.{stored-booted}
use Rattle.rvc_top.proofs.boot_laws.what_is_stored_is_booted.Goals as goal

pub returns : goal.returns
returns c = stored-booted

-- No claim is broken wherever a schedule leads, and no run that a number chooses stops.
use Rattle.rvc_top.proofs.KeptRuns.{no-run_broken, no-boot_broken, no-drive_stops}
use Rattle.rvc_top.proofs.kept_laws.what_events_keep_runs_keep.Goals as goal

pub returns : goal.returns
returns c = record { run = no-run_broken; boot = no-boot_broken; drive = no-drive_stops }

-- The remote isn't idle.
use Rattle.drive_report.proofs.silent.is_silent.Goals as goal

pub returns-in-RemoteTau : goal.returns-in-RemoteTau
returns-in-RemoteTau g c silent b = rw c.in-RemoteTau.is (c.is_busy.ensures silent b)

-- The exit status of the program.
use Rattle.std.specs.Prelude.{ℕ}
use Rattle.rvc_top.specs.declared.status.Status.{Status}
use Rattle.rvc_top.specs.declared.status.Status.TheVariants.{Done, Usage, FileRefused}
use Rattle.rvc_top.specs.declared.status.Status.TheVariants.{ScheduleRefused, ReadFault}
use Rattle.rvc_top.specs.declared.status.Status.TheVariants.{WriteFault, NoMemory, ClaimBroken}

-- The number with which the program ends, by the way in which its run ended: 0 where all was done,
-- 1 where the words have no form, 2 where the file is refused, 3 where the schedule is, 4 where a
-- source failed, 5 where the sink failed, 6 where there was no memory, 7 where a claim of the file
-- is broken.
abbrev pub status_number : Status → ℕ
status_number Done = 0
status_number Usage = 1
status_number FileRefused = 2
status_number ScheduleRefused = 3
status_number ReadFault = 4
status_number WriteFault = 5
status_number NoMemory = 6
status_number ClaimBroken = 7

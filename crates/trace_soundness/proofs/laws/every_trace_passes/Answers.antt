-- By the lines of the schedule.
use Rattle.proto_model.specs.Numbered.{numbered}
use Rattle.star_check.proofs.WellFormed.{well_formed-proper}
use Rattle.trace_soundness.proofs.SayablePlain.{sayable-plain}
use Rattle.trace_soundness.proofs.TracePasses.{trace-passes}
use Rattle.trace_soundness.proofs.laws.every_trace_passes.Goals as goal

pub returns : goal.returns
returns c = λ protocol sayable well_formed mode n k some few two most schedule.
    trace-passes (numbered protocol) mode n k schedule (well_formed-proper protocol well_formed)
    (sayable-plain protocol sayable) some few two most

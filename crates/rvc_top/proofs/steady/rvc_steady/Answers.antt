-- Sources and sinks that never fail end no run.
use Rattle.std.proofs.Common.{Some, ap, arith}
use Rattle.rvc_top.specs.Commands.{asked}
use Rattle.rvc_top.specs.Verdict.{Verdict}
use Rattle.rvc_top.specs.Endings.{kind_of, run_write_failed, FaultLeaves}
use Rattle.rvc_top.proofs.Endings.{rose-where, where-told, decided-else, decided-whole}
use Rattle.rvc_top.proofs.Complete.{no-fault}
use Rattle.rvc_top.proofs.steady.rvc_steady.Goals as goal

pub returns-clause-read_fault : goal.returns-clause-read_fault
returns-clause-read_fault c e =
    no-fault (asked c.args.words.now) 0 0 0 0 _
    (λ reads rose. omega (arith, rose))
    (λ reads rose. omega (arith, rose)) (c.rvc.ensures.read_fault e)

pub returns-clause-write_fault : goal.returns-clause-write_fault
returns-clause-write_fault c e =
    let rose = rose-where (run_write_failed (kind_of c.rvc.result)) 0 0
    (ap (λ s. run_write_failed (kind_of s)) e) c.rvc.ensures.write_count in
    omega (arith, rose)

pub returns-clause-whole : goal.returns-clause-whole
returns-clause-whole c memory =
    let words = c.args.words.now in
    let file = c.args.file.now.left in
    let schedule = c.args.schedule.now.left in
    let before = c.args.out.now.taken in
    let now = Some c.rvc.new.out.taken in
    let result = c.rvc.result in
    let left = Some c.rvc.new.schedule.left in
    decided-whole (kind_of result)
    (decided-else result (returns-clause-read_fault c) (returns-clause-write_fault c) memory)
    (Verdict words file schedule)
    (FaultLeaves (asked words) 0 0 file schedule left before now) before now result
    (where-told (asked words) file schedule _ c.rvc.ensures.bytes)

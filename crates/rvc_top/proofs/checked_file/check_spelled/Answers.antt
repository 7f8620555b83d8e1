-- The first fault of a protocol is at an item, which has a line.
use Rattle.std.proofs.Common.{◌≡◌, ◌<◌, Some, length, get_or, sym, ap, subst, ◌∙◌, arith}
use Rattle.std.specs.Prelude.{slice_get}
use Rattle.std.proofs.lemmas.Option.{slice_get-get_or}
use Rattle.proto_model.specs.Faults.{first_fault}
use Rattle.star_check.specs.declared.checked.CheckError.{CheckError}
use Rattle.star_check.specs.Tells.{Tells}
use Rattle.rvc_top.proofs.FirstFault.{first_fault-within}
use Rattle.rvc_top.proofs.checked_file.check_spelled.Goals as goal

pub bounds-as_slice-fault : goal.bounds-as_slice-fault
bounds-as_slice-fault c =
    let p = c.args.spelled.protocol in
    let fault = c.in-Err-Refused.fault in
    let first : first_fault p ≡ Some (fault.item, fault.code) =
    subst (λ (e : CheckError). Tells e (first_fault p)) c.in-Err-Refused.field-0-is
    c.in-Err-Refused.ensures.refused in
    let within = first_fault-within p fault.item fault.code first in
    omega (arith, within, ap length c.as_slice.ensures, c.requires)

pub returns-in-Err-Refused : goal.returns-in-Err-Refused
returns-in-Err-Refused c =
    let p = c.args.spelled.protocol in
    let fault = c.in-Err-Refused.fault in
    let lines = c.as_slice.result.now in
    let first : first_fault p ≡ Some (fault.item, fault.code) =
    subst (λ (e : CheckError). Tells e (first_fault p)) c.in-Err-Refused.field-0-is
    c.in-Err-Refused.ensures.refused in
    let within = first_fault-within p fault.item fault.code first in
    let here : fault.item < length lines = omega
    (arith, within, ap length c.as_slice.ensures, c.requires) in (
      fault.item,
      fault.code,
      get_or lines fault.item 0,
      first,
      ap (λ xs. slice_get xs fault.item)
          (sym c.as_slice.ensures) ∙ slice_get-get_or lines fault.item 0 here,
      c.in_ok-fault_on-in-Err-Refused.ensures,
    )

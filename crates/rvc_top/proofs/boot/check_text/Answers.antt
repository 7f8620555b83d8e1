-- Bytes that spell a protocol are the laid-out text of that one or of none.
use Rattle.std.proofs.Common.{◌≡◌, ◌++◌, Some, sym, ap, subst, ◌∙◌}
use Rattle.proto_model.specs.Tokens.{Text}
use Rattle.proto_model.specs.LaidOut.{laid_out}
use Rattle.proto_model.specs.Faults.{first_fault}
use Rattle.star_check.specs.declared.checked.CheckError.{CheckError}
use Rattle.star_check.specs.Tells.{Tells}
use Rattle.rvc_top.proofs.Booting.{no_text-other, no_text-fault, other-text}
use Rattle.rvc_top.proofs.boot.check_text.Goals as goal

pub returns-then-ne : goal.returns-then-ne
returns-then-ne c =
    let p = c.args.protocol in
    let text = c.args.text.now in
    let again = c.as_slice.result.now in
    let same : again ≡ laid_out p =
    c.as_slice.ensures.value ∙ (c.in_ok-print.ensures.text
    ∙ ap (λ (t : Text). t ++ laid_out p) c.new-laid_out.ensures.items) in
    no_text-other text p c.requires.spells (λ is.
    other-text again text c.ne.result c.ne.ensures c.if-ne.true (same ∙ sym is))

pub returns-in-Err-Refused : goal.returns-in-Err-Refused
returns-in-Err-Refused c =
    let p = c.args.protocol in
    let fault = c.in-Err-Refused.field-0-0 in
    let first : first_fault p ≡ Some (fault.item, fault.code) =
    subst (λ (e : CheckError). Tells e (first_fault p)) c.in-Err-Refused.field-0-is
    c.in-Err-Refused.ensures.refused in
    no_text-fault c.args.text.now p (fault.item, fault.code) c.requires.spells first

-- A text that a number has leads well and is UTF-8, so `parse` reads it.
use Rattle.std.proofs.Common.{arith, ◌<◌, ◌^◌, subst, sym}
use Rattle.rv_base.specs.Numbers.{ReadsNumber}
use Rattle.rv_base.proofs.DecimalText.{decimal-LeadsWell, decimal-IsUtf8, parse-ReadsNumber}
use Rattle.rv_base.proofs.numerals.number_written.Goals as goal

pub returns-then-not-leads_well : goal.returns-then-not-leads_well
returns-then-not-leads_well c n le same =
    let fits : n < 2 ^ 64 = omega (arith, le) in
    let leads = c.leads_well.ensures.1 (decimal-LeadsWell c.args.text.now n fits same) in
    absurd (cc)

pub returns-in-Err : goal.returns-in-Err
returns-in-Err c n le same = c.in-Err.ensures.cases.0
    (decimal-IsUtf8 c.args.text.now n (omega (arith, le)) same)

pub returns-in-Ok : goal.returns-in-Ok
returns-in-Ok c =
    let leads = c.leads_well.ensures.0 c.if-not-leads_well.false in
    let text = c.in-Ok.ensures.cases.0 in
    subst (λ r. ReadsNumber c.args.text.now _ r) (sym c.ok.ensures.value)
    (parse-ReadsNumber c.args.text.now c.parse.result leads
    (rw text at c.parse.ensures.value.0))

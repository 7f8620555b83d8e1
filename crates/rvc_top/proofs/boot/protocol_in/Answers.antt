-- Bytes that spell no protocol are the laid-out text of none.
use Rattle.std.proofs.Common.{subst}
use Rattle.protocol_reader.specs.Answer.{HasCause}
use Rattle.protocol_reader.specs.declared.error.ReadError.{ReadError}
use Rattle.rvc_top.proofs.Booting.{no_text-fault_line}
use Rattle.rvc_top.proofs.boot.protocol_in.Goals as goal

pub returns-in-Err-Syntax : goal.returns-in-Err-Syntax
returns-in-Err-Syntax c =
    let text = c.args.text.now in
    let cause =
    subst (λ (e : ReadError). HasCause text e) c.in-Err-Syntax.field-0-is
    c.in-Err-Syntax.ensures.cause in
    no_text-fault_line text c.in-Err-Syntax.field-0-0 cause.1

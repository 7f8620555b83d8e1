-- `read` answers as the reading of the file says.
use Rattle.std.proofs.Common.{ap, subst, sym, ◌∙◌, arith}
use Rattle.std.proofs.lemmas.Result.{err_from_is_err_and}
use Rattle.protocol_reader.specs.Reading.{At, file}
use Rattle.protocol_reader.specs.Reads.{Fails}
use Rattle.protocol_reader.proofs.File.{file_takes}
use Rattle.protocol_reader.proofs.ReadAnswers.{at_is, refused_cause, refused_only, refused_at}
use Rattle.protocol_reader.proofs.ReadAnswers.{read_only, read_no_fault}
use Rattle.protocol_reader.proofs.read.Goals as goal

pub returns-in_err-protocol-clause-cause : goal.returns-in_err-protocol-clause-cause
returns-in_err-protocol-clause-cause c =
    let r = err_from_is_err_and c.from_residual.result c.from_residual.ensures.1 in
    let at =
    at_is c.new-cursor.result c.args.bytes.now c.new-cursor.ensures.lexemes
    c.new-cursor.ensures.lines in
    let h = subst (λ (a : At). Fails (file a) c.in_err-protocol.field-0.0) at
    c.in_err-protocol.ensures in
    rw (r.1, r.2) (refused_cause c.args.bytes.now c.in_err-protocol.field-0.0 (omega arith) h)

pub returns-in_err-protocol-clause-only : goal.returns-in_err-protocol-clause-only
returns-in_err-protocol-clause-only c = λ p _ s.
    let r = err_from_is_err_and c.from_residual.result c.from_residual.ensures.1 in
    let at =
    at_is c.new-cursor.result c.args.bytes.now c.new-cursor.ensures.lexemes
    c.new-cursor.ensures.lines in
    let h = subst (λ (a : At). Fails (file a) c.in_err-protocol.field-0.0) at
    c.in_err-protocol.ensures in
    rw (r.1, r.2) (refused_only c.args.bytes.now c.in_err-protocol.field-0.0 h p s)

pub returns-in_err-protocol-clause-syntax : goal.returns-in_err-protocol-clause-syntax
returns-in_err-protocol-clause-syntax c = λ line _ f.
    let r = err_from_is_err_and c.from_residual.result c.from_residual.ensures.1 in
    let at =
    at_is c.new-cursor.result c.args.bytes.now c.new-cursor.ensures.lexemes
    c.new-cursor.ensures.lines in
    let h = subst (λ (a : At). Fails (file a) c.in_err-protocol.field-0.0) at
    c.in_err-protocol.ensures in
    rw (r.1, r.2) (refused_at c.args.bytes.now c.in_err-protocol.field-0.0 h line f)

pub returns-clause-found : goal.returns-clause-found
returns-clause-found c =
    let at =
    at_is c.new-cursor.result c.args.bytes.now c.new-cursor.ensures.lexemes
    c.new-cursor.ensures.lines in
    let h = file_takes c.args.bytes.now c.in_ok-protocol.protocol c.file.new.cursor
    (ap file (sym at) ∙ c.in_ok-protocol.ensures) in
    (omega arith, h.0, c.into_lines-lines.ensures ∙ h.1)

pub returns-clause-only : goal.returns-clause-only
returns-clause-only c = λ p _ s.
    let at =
    at_is c.new-cursor.result c.args.bytes.now c.new-cursor.ensures.lexemes
    c.new-cursor.ensures.lines in
    read_only c.args.bytes.now c.in_ok-protocol.protocol c.file.new.cursor
    (ap file (sym at) ∙ c.in_ok-protocol.ensures) p s

pub returns-clause-syntax : goal.returns-clause-syntax
returns-clause-syntax c = λ line _ f.
    let at =
    at_is c.new-cursor.result c.args.bytes.now c.new-cursor.ensures.lexemes
    c.new-cursor.ensures.lines in
    read_no_fault c.args.bytes.now c.in_ok-protocol.protocol c.file.new.cursor
    (ap file (sym at) ∙ c.in_ok-protocol.ensures) line f

use Rattle.std.proofs.Common.{[], subst, ap}
use Rattle.rv_base.specs.Appended.{Appends}
use Rattle.proto_model.specs.Tokens.{Text}
use Rattle.proto_model.specs.LaidOut.{lines_of, laid_out}
use Rattle.proto_model.proofs.LaidMarks.{laid-marks_of}
use Rattle.proto_model.proofs.LaidOutSpells.{laid_out_spells}
use Rattle.proto_model.proofs.layout.print.Goals as goal

pub returns-clause-text : goal.returns-clause-text
returns-clause-text c =
    let p = c.args.protocol.now in
    let laid = c.protocol.ensures c.replace.result.items [] c.new-writer.ensures in
    rw (c.finish-text.ensures.text, c.finish-text.ensures.result)
    (subst (λ (start : Text). Appends (laid_out p) c.protocol.new.self.result start
    c.protocol.new.self.text.items) (ap (λ v. v.items) c.replace.ensures.value)
    (subst (λ (text : Text). Appends text c.protocol.new.self.result c.replace.result.items
    c.protocol.new.self.text.items) (laid-marks_of (lines_of p)) laid.text))

pub returns-clause-spells : goal.returns-clause-spells
returns-clause-spells c = laid_out_spells c.args.protocol.now

-- Each item of the protocol that is read has a line.
use Rattle.std.proofs.Common.{length, ap, ◌∙◌}
use Rattle.protocol_reader.proofs.ItemLines.{item_lines-length}
use Rattle.rvc_top.proofs.file.file_of.Goals as goal

pub returns-in-Ok-clause-lines : goal.returns-in-Ok-clause-lines
returns-in-Ok-clause-lines c =
    let found = c.in-Ok.ensures.found in
    ap length found.2 ∙ item_lines-length c.args.bytes.now c.in-Ok.spelled.protocol found.1

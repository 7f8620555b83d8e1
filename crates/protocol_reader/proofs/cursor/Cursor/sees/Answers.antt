use Rattle.std.proofs.Common.{◌∙◌, sym, ap}
use Rattle.protocol_reader.specs.Reading.{sees}
use Rattle.protocol_reader.proofs.CursorView.{sees_here}
use Rattle.protocol_reader.proofs.cursor.Cursor.sees.Goals as goal

pub returns : goal.returns
returns c =
    let inside = c.self.inside in
    let word = c.args.word.now in
    c.eq.ensures ∙ sym (sees_here word inside.text.now inside.line inside.rest.now inside.lines)
    ∙ ap (sees word) c.self.view_is

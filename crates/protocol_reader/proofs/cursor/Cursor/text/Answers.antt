use Rattle.std.proofs.Common.{◌∙◌, sym, ap}
use Rattle.protocol_reader.specs.Reading.{text_at}
use Rattle.protocol_reader.proofs.CursorView.{text_here}
use Rattle.protocol_reader.proofs.cursor.Cursor.text.Goals as goal

pub returns : goal.returns
returns c =
    let inside = c.self.inside in
    sym (text_here inside.text.now inside.line inside.rest.now inside.lines)
    ∙ ap text_at c.self.view_is

use Rattle.std.proofs.Common.{◌∙◌, sym, ap}
use Rattle.protocol_reader.specs.Reading.{at_end}
use Rattle.protocol_reader.proofs.CursorView.{end_here}
use Rattle.protocol_reader.proofs.cursor.Cursor.is_at_end.Goals as goal

pub returns : goal.returns
returns c =
    let inside = c.self.inside in
    c.is_empty.ensures ∙ sym (end_here inside.text.now inside.line inside.rest.now inside.lines)
    ∙ ap at_end c.self.view_is

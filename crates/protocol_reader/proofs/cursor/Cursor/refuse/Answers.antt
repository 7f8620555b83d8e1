use Rattle.std.proofs.Common.{◌∙◌, sym, ap}
use Rattle.protocol_reader.specs.declared.error.ReadError.TheVariants.{Syntax}
use Rattle.protocol_reader.specs.Reading.{line_at}
use Rattle.protocol_reader.proofs.CursorView.{line_here}
use Rattle.protocol_reader.proofs.cursor.Cursor.refuse.Goals as goal

pub returns : goal.returns
returns c =
    let inside = c.self.inside in
    ap Syntax
    (sym (line_here inside.text.now inside.line inside.rest.now inside.lines)
    ∙ ap line_at c.self.view_is)

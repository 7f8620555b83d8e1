use Rattle.std.proofs.Common.{◌≡◌, ◌≢◌, [], ◌∙◌, sym, ap}
use Rattle.proto_model.specs.Tokens.{part}
use Rattle.protocol_reader.specs.Reading.{text_at, after}
use Rattle.protocol_reader.proofs.CursorView.{text_here, after_here}
use Rattle.protocol_reader.proofs.cursor.Cursor.advance.Goals as goal

pub returns : goal.returns
returns c =
    let inside = c.self.inside in
    let shown = text_here inside.text.now inside.line inside.rest.now inside.lines in
    let some : inside.text.now ≢ [] =
    λ (e : inside.text.now ≡ []). c.requires (sym (ap text_at c.self.view_is) ∙ shown ∙ e) in
    ap (λ ls. record { lexemes = ls; lines = inside.lines }) (sym c.next_lexeme-next.ensures.cut)
    ∙ sym (after_here inside.text.now inside.line inside.rest.now inside.lines some)
    ∙ ap (after (part [])) c.self.view_is

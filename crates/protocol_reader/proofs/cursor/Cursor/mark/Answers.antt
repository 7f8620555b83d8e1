use Rattle.std.proofs.Common.{[], ◌∙◌, ap}
use Rattle.std.proofs.lemmas.Result.{on_ok_weaker}
use Rattle.proto_model.specs.Tokens.{item}
use Rattle.protocol_reader.specs.Reading.{At, after}
use Rattle.protocol_reader.proofs.CursorView.{marked_here}
use Rattle.protocol_reader.proofs.cursor.Cursor.mark.Goals as goal

pub returns-clause-lines : goal.returns-clause-lines
returns-clause-lines c =
    let inside = c.self.inside in
    let marked = marked_here inside.text.now inside.line inside.rest.now inside.lines in
    on_ok_weaker c.push.result
    (λ pushed. pushed ∙ marked ∙ ap (λ (a : At). (after (item []) a).lines) c.self.view_is)
    c.push.ensures.ok

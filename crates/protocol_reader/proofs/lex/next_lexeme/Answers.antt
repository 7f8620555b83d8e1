use Rattle.std.proofs.Common.{◌≡◌, ◌∙◌, take, drop, sym, ap, arith}
use Rattle.proto_model.specs.Tokens.{Text}
use Rattle.protocol_reader.specs.Front.{lexemes_from}
use Rattle.protocol_reader.proofs.FrontCut.{lexeme_size, lexeme_in_front}
use Rattle.protocol_reader.proofs.lex.next_lexeme.Goals as goal

pub returns-clause-cut : goal.returns-clause-cut
returns-clause-cut c =
    let bytes = c.after_gap-line.result.0.now in
    let line = c.after_gap-line.result.1 in
    let size : lexeme_size bytes ≡ c.min-size.result = omega arith in
    c.after_gap-line.ensures.cut ∙ lexeme_in_front line bytes c.after_gap-line.ensures.lexeme
    ∙ ap (λ n. lexemes_from (take n bytes) line (drop n bytes)) size
    ∙ ap (λ (x : Text). lexemes_from x line (drop c.min-size.result bytes))
    (sym c.split_at.ensures.front)
    ∙ ap (λ (x : Text). lexemes_from c.split_at.result.0.now line x) (sym c.split_at.ensures.back)

-- A text that is seen is no empty one, and the cursor goes on behind it, with its line.
use Rattle.std.proofs.Common.{◌≡◌, refl, sym, ◌∙◌}
use Rattle.protocol_reader.specs.Reading.{At, text_at}
use Rattle.protocol_reader.proofs.Tokens.{sees_some, after_item}
use Rattle.protocol_reader.proofs.grammar.token.begins.Goals as goal

same_text : (at marked : At) → marked.lexemes ≡ at.lexemes → text_at marked ≡ text_at at
unfolding text_at
same_text at marked e = rw e refl

pub advance-requires : goal.advance-requires
advance-requires c = λ h.
    sees_some c.args.word.now c.args.cursor.now c.requires
    (sym c.sees.ensures ∙ c.if-not-sees.false)
    (sym (same_text c.args.cursor.now c.mark.new.self c.in_ok-mark.ensures.lexemes) ∙ h)

pub returns-clause-taken : goal.returns-clause-taken
returns-clause-taken c =
    c.advance.ensures
    ∙ after_item c.args.word.now c.args.cursor.now c.mark.new.self c.in_ok-mark.ensures.lexemes
    c.in_ok-mark.ensures.lines

-- A text that is seen is no empty one, and the cursor goes on behind it.
use Rattle.std.proofs.Common.{sym, ◌∙◌}
use Rattle.protocol_reader.proofs.Tokens.{sees_some, after_part}
use Rattle.protocol_reader.proofs.grammar.token.takes.Goals as goal

pub advance-requires : goal.advance-requires
advance-requires c =
    sees_some c.args.word.now c.args.cursor.now c.requires
    (sym c.sees-seen.ensures ∙ c.if-seen.true)

pub returns-then-seen-clause-taken : goal.returns-then-seen-clause-taken
returns-then-seen-clause-taken c =
    rw c.if-seen.true (c.advance.ensures ∙ after_part c.args.word.now c.args.cursor.now)

-- A number is no empty text, and it is what the rule reads.
use Rattle.std.proofs.Common.{Ok, sym, ap, ◌∙◌}
use Rattle.protocol_reader.specs.Reading.{At, text_at, number_in}
use Rattle.protocol_reader.proofs.Tokens.{after_part}
use Rattle.protocol_reader.proofs.Numbers.{number_some, number_seen}
use Rattle.protocol_reader.proofs.grammar.number.number.Goals as goal

pub advance-requires : goal.advance-requires
advance-requires c =
    number_some (text_at c.args.cursor.now) c.in-Some.number
    (ap number_in (sym c.text.ensures) ∙ sym c.number_in.ensures ∙ c.in-Some.is)

pub returns : goal.returns
returns c =
    let at = c.args.cursor.now in
    number_seen at c.in-Some.number
    (ap number_in (sym c.text.ensures) ∙ sym c.number_in.ensures ∙ c.in-Some.is)
    ∙ ap (λ (a : At). Ok (c.in-Some.number, a))
    (sym (after_part (text_at at) at) ∙ sym c.advance.ensures)

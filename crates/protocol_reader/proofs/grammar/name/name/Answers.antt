-- A name's bytes are word bytes, it is no empty text, and it is what the rule reads.
use Rattle.std.proofs.Common.{List, ℕ, Ok, sym, ap, ◌∙◌}
use Rattle.proto_model.specs.Tokens.{part}
use Rattle.protocol_reader.specs.Reading.{At, text_at, after, is_name}
use Rattle.protocol_reader.proofs.Tokens.{is_name_is, name_some, name_seen, after_part}
use Rattle.protocol_reader.proofs.grammar.name.name.Goals as goal

pub new-requires : goal.new-requires
new-requires c =
    (is_name_is c.text-text.result.now (sym c.is_name.ensures ∙ c.if-not-is_name.false)).each

pub advance-requires : goal.advance-requires
advance-requires c = λ h.
    name_some c.text-text.result.now
    (is_name_is c.text-text.result.now (sym c.is_name.ensures ∙ c.if-not-is_name.false))
    (c.text-text.ensures ∙ h)

pub returns : goal.returns
returns c =
    let at = c.args.cursor.now in
    name_seen at
    (ap is_name (sym c.text-text.ensures) ∙ sym c.is_name.ensures ∙ c.if-not-is_name.false)
    ∙ ap (λ (t : List ℕ). Ok (t, after (part (text_at at)) at))
    (sym c.text-text.ensures ∙ sym c.in_ok-name.ensures)
    ∙ ap (λ (a : At). Ok (c.in_ok-name.name, a))
    (sym (after_part (text_at at) at) ∙ sym c.advance.ensures)

-- The text of a value without floats is its compact text, behind which the LF stands.
use Rattle.std.proofs.Common.{ℕ, List, [], ◌∷◌, ◌++◌, ap, ◌∙◌}
use Rattle.serde_json.specs.Written.{has_float, compact_text}
use Rattle.table_printer.specs.TableJson.{table_json}
use Rattle.table_printer.proofs.NoFloat.{table-no_float}
use Rattle.table_printer.proofs.json.whole_json.Goals as goal

pub returns : goal.returns
unfolding table_json
returns c =
    let table = c.args.table.now in
    let value_is = c.in_ok-table_value.ensures in
    let text_is = c.in_ok-bytes.ensures.text (ap has_float value_is ∙ table-no_float table)
    ∙ ap compact_text value_is in
    c.in_ok-push.ensures.items ∙ ap (λ (text : List ℕ). text ++ 10 ∷ []) text_is

-- The set has as many members as it has bits.
use Rattle.std.proofs.Common.{filter, sym, ◌∙◌}
use Rattle.std.specs.List.{range_with_len}
use Rattle.std.proofs.lemmas.List.{length-map}
use Rattle.proto_model.specs.NumberSets.{has_number}
use Rattle.drive_report.specs.Forms.{step_of}
use Rattle.drive_report.proofs.EnabledNumbers.{set-ones}
use Rattle.drive_report.proofs.rows.Row.len.Goals as goal

pub returns-clause-value : goal.returns-clause-value
returns-clause-value c =
    let row = c.args.self in
    let members = filter (has_number row.enabled) (range_with_len 0 row.count) in
    set-ones row.enabled row.count c.requires.enabled
    ∙ sym (length-map members (step_of row.form))

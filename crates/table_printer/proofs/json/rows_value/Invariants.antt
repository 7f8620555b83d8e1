-- So far the values are those of the first rows.
use Rattle.std.proofs.Common.{◌≡◌, take, map}
use Rattle.serde_json.specs.View.{view}
use Rattle.table_printer.specs.TableJson.{row_data}
use Rattle.table_printer.proofs.json.rows_value.Given as goal

abbrev pub invariant-loop-row : goal.invariant-loop-row
invariant-loop-row l = map view l.values.items ≡ map (row_data l.messages l.controller.body)
    (take l.row-index l.row-items)

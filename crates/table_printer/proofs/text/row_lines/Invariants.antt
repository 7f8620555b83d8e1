-- So far the lines of the first rows are written.
use Rattle.std.proofs.Common.{◌≡◌, take, string_bytes}
use Rattle.std.specs.List.{flat_map}
use Rattle.table_printer.specs.TableText.{row_line}
use Rattle.table_printer.proofs.text.row_lines.Given as goal

abbrev pub invariant-loop-row : goal.invariant-loop-row
invariant-loop-row l = string_bytes l.text ≡ flat_map (row_line l.messages l.controller.body)
    (take l.row-index l.row-items)

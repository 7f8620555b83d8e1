-- So far the lines of the first messages are written.
use Rattle.std.proofs.Common.{◌≡◌, take, string_bytes}
use Rattle.rv_base.specs.Lists.{flat_from}
use Rattle.table_printer.specs.TableText.{message_line}
use Rattle.table_printer.proofs.text.message_lines.Given as goal

abbrev pub invariant-loop-message : goal.invariant-loop-message
invariant-loop-message l = string_bytes l.text ≡ flat_from (message_line l.messages l.replies) 0
    (take l.message l.messages)

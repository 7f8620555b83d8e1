-- So far the values are those of the first messages.
use Rattle.std.proofs.Common.{◌≡◌, take, map}
use Rattle.rv_base.specs.Lists.{map_from}
use Rattle.serde_json.specs.View.{view}
use Rattle.table_printer.specs.TableJson.{message_data}
use Rattle.table_printer.proofs.json.messages_value.Given as goal

abbrev pub invariant-loop-message : goal.invariant-loop-message
invariant-loop-message l = map view l.values.items ≡ map_from (message_data l.messages l.replies) 0
    (take l.message l.messages)

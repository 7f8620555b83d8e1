-- The line of a message is written behind those before it.
use Rattle.std.proofs.Common.{◌<◌, length, arith}
use Rattle.rv_base.proofs.Lists.{flat_from-one_more}
use Rattle.table_printer.specs.TableText.{message_line}
use Rattle.table_printer.proofs.text.message_lines.Goals as goal

pub loop-message-preserved : goal.loop-message-preserved
loop-message-preserved c =
    let messages = c.args.messages.now in
    let info = c.index-messages-message.result in
    let within : c.loop-message.message < length messages = omega arith in
    let more = flat_from-one_more (message_line messages c.args.replies.now) messages
    c.loop-message.message info within in
    cc (more, c.in_ok-push_str.ensures.bytes, c.deref.ensures, c.in_ok-message_line.ensures)

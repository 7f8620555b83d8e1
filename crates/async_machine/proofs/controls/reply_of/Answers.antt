-- The reply among the table's replies is that of the protocol.
use Rattle.std.proofs.Common.{ℕ, List, Option, ap, ◌∙◌}
use Rattle.controller_table.specs.Rows.{reply_at}
use Rattle.controller_table.specs.Sound.{protocol_of}
use Rattle.async_shape.proofs.RepliesThere.{reply_at-is}
use Rattle.async_machine.proofs.controls.reply_of.Goals as goal

pub returns : goal.returns
returns c =
    let table = c.args.table.now in
    c.reply_among.ensures
    ∙ ap (λ (replies : List (Option ℕ)). reply_at replies c.args.message)
    (c.replies.ensures.value ∙ c.replies.ensures.sound.replies)
    ∙ reply_at-is (protocol_of table) table.mode c.args.message

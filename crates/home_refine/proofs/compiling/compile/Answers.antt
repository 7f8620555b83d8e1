-- The parts of the table are those of the protocol.
use Rattle.std.proofs.Common.{◌≡◌, ◌∙◌, ap}
use Rattle.proto_model.specs.Pairs.{replies_of}
use Rattle.controller_table.specs.Rows.{home_rows_of, remote_rows_of}
use Rattle.request_reply.proofs.Replies.{replies_in-replies_of}
use Rattle.home_refine.proofs.CopiedParts.{MakesTable-parts, table_of-parts}
use Rattle.home_refine.proofs.compiling.compile.Goals as goal

pub new-requires : goal.new-requires
new-requires c =
    let protocol = c.args.checked.now.protocol in
    let replies : c.in_ok-replies.replies ≡ replies_of protocol c.args.mode =
    c.in_ok-replies.ensures
    ∙ replies_in-replies_of protocol c.args.mode c.in_ok-pairs.pairs c.in_ok-pairs.ensures in
    MakesTable-parts protocol c.args.mode _ _ _ _ _ c.messages.ensures.proper
    (record {
      name = c.in_ok-copy.ensures ∙ c.name.ensures;
      messages = c.in_ok-copied_messages.ensures ∙ c.messages.ensures.value;
      home = c.in_ok-home.ensures.body;
      remote = c.in_ok-remote.ensures.body;
    })
    replies
    (c.in_ok-home.ensures.rows
    ∙ ap (λ rs. home_rows_of protocol.messages rs protocol.home) (c.as_slice.ensures ∙ replies))
    (c.in_ok-remote.ensures.rows
    ∙ ap (λ rs. remote_rows_of protocol.messages rs protocol.remote)
    (c.as_slice-2.ensures ∙ replies))

pub returns-clause-table : goal.returns-clause-table
returns-clause-table c =
    let protocol = c.args.checked.now.protocol in
    let replies : c.in_ok-replies.replies ≡ replies_of protocol c.args.mode =
    c.in_ok-replies.ensures
    ∙ replies_in-replies_of protocol c.args.mode c.in_ok-pairs.pairs c.in_ok-pairs.ensures in
    c.in_ok-table.ensures.parts
    ∙ table_of-parts protocol c.args.mode _ _ _ _ _
    (record {
      name = c.in_ok-copy.ensures ∙ c.name.ensures;
      messages = c.in_ok-copied_messages.ensures ∙ c.messages.ensures.value;
      home = c.in_ok-home.ensures.body;
      remote = c.in_ok-remote.ensures.body;
    })
    replies
    (c.in_ok-home.ensures.rows
    ∙ ap (λ rs. home_rows_of protocol.messages rs protocol.home) (c.as_slice.ensures ∙ replies))
    (c.in_ok-remote.ensures.rows
    ∙ ap (λ rs. remote_rows_of protocol.messages rs protocol.remote)
    (c.as_slice-2.ensures ∙ replies))

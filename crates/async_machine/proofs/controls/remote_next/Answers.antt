-- The one row with the guard's key tells where it goes.
use Rattle.std.proofs.Common.{◌≡◌, ℕ, List, Option, option_copied, sym, ap, subst, ◌∙◌}
use Rattle.controller_table.specs.OneRow.{IsOnlyRow}
use Rattle.controller_table.specs.Rows.{remote_rows_of}
use Rattle.controller_table.specs.Sound.{protocol_of}
use Rattle.controller_table.specs.declared.rows.Place.{Place}
use Rattle.controller_table.specs.declared.rows.Trigger.{Trigger}
use Rattle.async_machine.specs.Keys.{remote_key}
use Rattle.async_machine.proofs.Rows.{Leads, remote-leads, told}
use Rattle.async_machine.proofs.controls.remote_next.Goals as goal

pub returns : goal.returns
returns c = λ rule there same.
    let table = c.args.table.now in
    let protocol = protocol_of table in
    let sound = c.replies.ensures.sound in
    let key = remote_key table.replies c.args.g rule.kind in
    let asked : c.remote_key-at.result ≡ key =
    c.remote_key-at.ensures
    ∙ ap (λ (rs : List (Option ℕ)). remote_key rs c.args.g c.args.kind) c.replies.ensures.value
    ∙ ap (remote_key table.replies c.args.g) (sym same) in
    let rows = remote_rows_of protocol.messages table.replies protocol.remote in
    let all : rows ≡ table.remote.rows =
    ap (λ (rs : List (Option ℕ)). remote_rows_of protocol.messages rs protocol.remote) sound.replies
    ∙ sym sound.remote_rows in
    c.next_told.ensures
    ∙ told key rule table.remote.rows (option_copied c.remote_row.result)
    (subst (Leads key rule) all
    (remote-leads protocol.messages table.replies protocol.remote c.args.g rule there))
    (subst (λ (k : Place × Trigger). IsOnlyRow table.remote.rows k.0 k.1
    (option_copied c.remote_row.result)) asked c.remote_row.ensures)

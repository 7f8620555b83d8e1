-- The one row with the guard's key tells where it goes.
use Rattle.std.proofs.Common.{◌≡◌, ℕ, List, Option, option_copied, sym, ap, subst, ◌∙◌}
use Rattle.controller_table.specs.OneRow.{IsOnlyRow}
use Rattle.controller_table.specs.Rows.{home_rows_of}
use Rattle.controller_table.specs.Sound.{protocol_of}
use Rattle.controller_table.specs.declared.rows.Place.{Place}
use Rattle.controller_table.specs.declared.rows.Trigger.{Trigger}
use Rattle.async_machine.specs.Keys.{home_key}
use Rattle.async_machine.proofs.Rows.{Leads, home-leads, told}
use Rattle.async_machine.proofs.controls.home_next.Goals as goal

pub returns : goal.returns
returns c = λ rule there same.
    let table = c.args.table.now in
    let protocol = protocol_of table in
    let sound = c.replies.ensures.sound in
    let key = home_key table.replies c.args.g rule.kind in
    let asked : c.home_key-at.result ≡ key =
    c.home_key-at.ensures
    ∙ ap (λ (rs : List (Option ℕ)). home_key rs c.args.g c.args.kind) c.replies.ensures.value
    ∙ ap (home_key table.replies c.args.g) (sym same) in
    let rows = home_rows_of protocol.messages table.replies protocol.home in
    let all : rows ≡ table.home.rows =
    ap (λ (rs : List (Option ℕ)). home_rows_of protocol.messages rs protocol.home) sound.replies
    ∙ sym sound.home_rows in
    c.next_told.ensures
    ∙ told key rule table.home.rows (option_copied c.home_row.result)
    (subst (Leads key rule) all
    (home-leads protocol.messages table.replies protocol.home c.args.g rule there))
    (subst (λ (k : Place × Trigger). IsOnlyRow table.home.rows k.0 k.1
    (option_copied c.home_row.result)) asked c.home_row.ensures)

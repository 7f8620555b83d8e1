-- The rows are the table's, or the text tells how they differ.
use Rattle.std.proofs.Common.{refl, subst}
use Rattle.controller_table.specs.Sound.{table_in}
use Rattle.control_store.specs.Compared.{Compares}
use Rattle.control_store.specs.declared.comparing.Compared.{Compared}
use Rattle.rvc_top.proofs.Booting.{rows-hold, rows-refuse, tells-none, tells-some}
use Rattle.rvc_top.proofs.boot.rows_behind.Goals as goal

pub returns-in-None : goal.returns-in-None
returns-in-None c =
    let file = c.args.bytes.now in
    let head = c.args.head.now in
    let table = table_in c.args.checked.protocol head.mode in
    let found = c.in_ok-found.found in
    let told = c.in_ok-text_for in
    rows-hold file head c.args.checked table c.requires.text refl c.requires.begins
    (subst (λ (x : Compared). Compares head file table x)
    (tells-none _ found told.field-0 c.in-None.is told.ensures) c.in_ok-found.ensures)

pub returns-in-Some : goal.returns-in-Some
returns-in-Some c =
    let file = c.args.bytes.now in
    let head = c.args.head.now in
    let table = table_in c.args.checked.protocol head.mode in
    let found = c.in_ok-found.found in
    let told = c.in_ok-text_for in
    rows-refuse file head c.args.checked table c.requires.text refl found c.in-Some.why.items
    c.requires.short c.requires.begins c.in_ok-found.ensures
    (tells-some _ found told.field-0 c.in-Some.why c.in-Some.is told.ensures)

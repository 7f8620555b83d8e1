-- The mark and the four numbers are a head.
use Rattle.std.proofs.Common.{length, ap, ◌∙◌}
use Rattle.proto_model.specs.declared.mode.Mode.{Mode}
use Rattle.controller_table.specs.declared.controller.Controller.{Controller}
use Rattle.controller_table.specs.declared.rows.Row.{Row}
use Rattle.std.proofs.Common.{List}
use Rattle.control_store.specs.Image.{mark, eight, mode_number}
use Rattle.control_store.proofs.WordsWritten.{five-written, head-written}
use Rattle.control_store.proofs.writing.append_head.Goals as goal

pub returns : goal.returns
returns c =
    let table = c.args.table.now in
    let mode = c.mode_number.result in
    let home = length c.as_slice-home.result.now in
    let remote = length c.as_slice-remote.result.now in
    let old = c.args.out.now.items in
    let new = c.append_eight.new.out.items in
    head-written mode (mode_number table.mode) c.args.text home (length table.home.rows) remote
    (length table.remote.rows) c.append_eight.result old new
    (c.mode_number.ensures ∙ ap (λ (m : Mode). mode_number m) c.mode.ensures)
    (ap (λ (rows : List Row). length rows) c.as_slice-home.ensures
    ∙ ap (λ (x : Controller). length x.rows) c.home.ensures.value)
    (ap (λ (rows : List Row). length rows) c.as_slice-remote.ensures
    ∙ ap (λ (x : Controller). length x.rows) c.remote.ensures.value)
    (five-written mark (eight mode) (eight c.args.text) (eight home) (eight remote)
    c.append-so_far.result c.append_eight-so_far.result c.append_eight-so_far-2.result
    c.append_eight-so_far-3.result c.append_eight.result old c.append-so_far.new.out.items
    c.append_eight-so_far.new.out.items c.append_eight-so_far-2.new.out.items
    c.append_eight-so_far-3.new.out.items new c.append-so_far.ensures
    c.append_eight-so_far.ensures c.append_eight-so_far-2.ensures c.append_eight-so_far-3.ensures
    c.append_eight.ensures)

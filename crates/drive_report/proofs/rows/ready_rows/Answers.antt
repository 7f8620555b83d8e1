-- All rows were pushed.
use Rattle.std.proofs.Common.{ℕ, map, ap, ◌∙◌}
use Rattle.async_machine.specs.Standing.{setting, config}
use Rattle.proto_model.specs.Proper.{most_guards}
use Rattle.drive_report.specs.Rows.{all_forms, ready_row}
use Rattle.drive_report.proofs.RowsPushed.{all-rows_pushed, all_forms-are}
use Rattle.drive_report.proofs.rows.ready_rows.Goals as goal

pub returns : goal.returns
returns g c =
    let machine = c.args.machine.now in
    let give = ready_row (setting machine) (config g.L.Links.lists machine) in
    let n = c.remotes_of-n.result in
    all-rows_pushed give most_guards n c.new-all.result.items c.push_row.new.all.items
    c.push_row-2.new.all.items c.push_rows.new.all.items c.push_row-3.new.all.items
    c.push_rows-2.new.all.items c.push_row-4.new.all.items c.push_row-5.new.all.items
    c.push_row-6.new.all.items c.push_row-7.new.all.items c.push_row-8.new.all.items
    c.new-all.ensures.items c.in_ok-push_row.ensures c.in_ok-push_row-2.ensures
    c.in_ok-push_rows.ensures c.in_ok-push_row-3.ensures c.in_ok-push_rows-2.ensures
    c.in_ok-push_row-4.ensures c.in_ok-push_row-5.ensures c.in_ok-push_row-6.ensures
    c.in_ok-push_row-7.ensures c.in_ok-push_row-8.ensures
    ∙ ap (map give) (all_forms-are n)
    ∙ ap (λ (k : ℕ). map give (all_forms k)) c.remotes_of-n.ensures.value

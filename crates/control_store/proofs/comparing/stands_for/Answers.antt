-- The word stands for one row at most, and that one is compared.
use Rattle.std.proofs.Common.{Some, sym, subst, ◌∙◌}
use Rattle.controller_table.specs.declared.rows.Row.{Row}
use Rattle.control_store.specs.RowWord.{DecodesRow}
use Rattle.control_store.proofs.Undone.{row_word-same}
use Rattle.control_store.proofs.SameRow.{same_row-same, same_row-equal}
use Rattle.control_store.proofs.comparing.stands_for.Goals as goal

pub returns-in-Some : goal.returns-in-Some
returns-in-Some c =
    let found = c.in-Some.found in
    let wanted = c.args.row.now in
    let is = c.in-Some.ensures in (
      λ yes. subst (λ (r : Row). DecodesRow c.args.word.now (Some r))
          (same_row-same found wanted (sym c.eq.ensures ∙ yes)) is,
      λ stands. c.eq.ensures
          ∙ same_row-equal found wanted
          (row_word-same found wanted (sym is.1 ∙ stands.1)),
    )

-- The row that is found is the only one with its key.
use Rattle.std.proofs.Common.{ℕ, Option, subst, sym}
use Rattle.controller_table.specs.Indexed.{Finds}
use Rattle.controller_table.proofs.Finding.{finds-only}
use Rattle.controller_table.proofs.index.Index.row.Goals as goal

pub returns-in-Some : goal.returns-in-Some
returns-in-Some c =
    finds-only c.args.rows.now c.args.at c.args.on c.in-Some.place.now _ c.requires.differ
    (subst (λ (found : Option ℕ). Finds c.args.rows.now c.args.at c.args.on found)
    (sym c.in-Some.ensures.value)
    (c.requires.finds (record { at = c.args.at; on = c.args.on })))

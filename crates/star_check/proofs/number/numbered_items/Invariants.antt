-- So far the first items are numbered.
use Rattle.std.proofs.Common.{◌≡◌, map, take}
use Rattle.star_check.proofs.number.numbered_items.Given as goal

abbrev pub invariant-loop-item : goal.invariant-loop-item
invariant-loop-item g l = l.forms ≡ map (g.T.Numbered.form l.scope) (take l.item-index l.items)

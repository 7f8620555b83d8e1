-- One more row is indexed.
use Rattle.std.proofs.Common.{ℕ, ◌+◌, take, Option, refl, subst, sym}
use Rattle.std.specs.HashMap.{get}
use Rattle.controller_table.specs.Indexed.{Finds}
use Rattle.controller_table.specs.contracts.index.KeyPartialEq.TheImpl.{ghosts}
use Rattle.controller_table.proofs.Finding.{finds-next}
use Rattle.controller_table.proofs.index.Index.new.Goals as goal

pub loop-place-preserved : goal.loop-place-preserved
loop-place-preserved c = λ key.
    subst (λ (found : Option ℕ). Finds (take (c.loop-place.place + 1) c.args.rows.now) key.at key.on
    found) (sym (c.in_ok-insert.ensures.updates.0 key))
    (finds-next c.args.rows.now c.loop-place.place _ (get ghosts.eq c.loop-place.places key) _ key
    c.loop-place-test.true refl refl (c.loop-place.invariant key))

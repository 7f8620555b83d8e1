-- So far the first rows are indexed.
use Rattle.std.proofs.Common.{take}
use Rattle.std.specs.HashMap.{get}
use Rattle.controller_table.specs.Indexed.{Finds}
use Rattle.controller_table.specs.contracts.index.KeyPartialEq.TheImpl.{ghosts}
use Rattle.controller_table.specs.declared.index.Key.{Key}
use Rattle.controller_table.proofs.index.Index.new.Given as goal

abbrev pub invariant-loop-place : goal.invariant-loop-place
invariant-loop-place l = (key : Key)
    → Finds (take l.place l.rows) key.at key.on (get ghosts.eq l.places key)

-- The table is that of the protocol in the head's mode.
use Rattle.std.proofs.Common.{subst}
use Rattle.controller_table.specs.Sound.{Tabled}
use Rattle.control_store.specs.Compared.{Compares}
use Rattle.rvc_top.proofs.boot.rows_found.Goals as goal

pub returns : goal.returns
returns c =
    subst
    (λ (table : Tabled). Compares c.args.head.now c.args.bytes.now table c.compare.result)
    c.in_ok-table.ensures.table c.compare.ensures

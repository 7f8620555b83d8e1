-- So far the debts to the first remotes are written.
use Rattle.std.proofs.Common.{◌≡◌}
use Rattle.proto_model.specs.Continued.{Continues}
use Rattle.run_replay.specs.Listed.{is_nil, joined}
use Rattle.run_replay.proofs.Listing.{debts_below}
use Rattle.run_replay.proofs.state_lines.put_debts.Given as goal

abbrev pub invariant-loop-j : goal.invariant-loop-j
invariant-loop-j g l =
    let debts = debts_below l.machine.table.messages l.machine.home l.j in
    record {
      text : Continues (joined debts) l.fn.so_far l.fn.out.items l.so_far l.out.items;
      first : l.first ≡ is_nil debts;
    }

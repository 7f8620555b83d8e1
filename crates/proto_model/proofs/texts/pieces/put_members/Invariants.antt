-- So far the members below this number are written.
use Rattle.std.proofs.Common.{◌≡◌}
use Rattle.proto_model.specs.NumberSets.{members_below}
use Rattle.proto_model.specs.Continued.{Continues}
use Rattle.proto_model.proofs.Continuing.{joined, is_nil}
use Rattle.proto_model.proofs.texts.pieces.put_members.Given as goal

abbrev pub invariant-loop-node : goal.invariant-loop-node
invariant-loop-node l = record {
  text : Continues (joined (members_below l.set l.node)) l.fn.so_far l.fn.out.items l.so_far
      l.out.items;
  first : l.first ≡ is_nil (members_below l.set l.node);
}

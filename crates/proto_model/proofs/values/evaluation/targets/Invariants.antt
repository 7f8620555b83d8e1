-- So far the targets below this number are in the set.
use Rattle.std.proofs.Common.{◌≡◌}
use Rattle.proto_model.specs.NumberSets.{numbers_below}
use Rattle.proto_model.specs.Values.{may_meet}
use Rattle.proto_model.proofs.values.evaluation.targets.Given as goal

abbrev pub invariant-loop-node : goal.invariant-loop-node
invariant-loop-node l = l.set ≡ numbers_below (may_meet l.vars l.rule.kind) l.node

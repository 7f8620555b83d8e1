-- One more rule is bare.
use Rattle.std.proofs.Common.{refl, arith}
use Rattle.rv_base.proofs.Lists.{mapped_in_place}
use Rattle.proto_model.specs.Guards.{bare_rule}
use Rattle.controller_table.proofs.bare.clear_rules.Goals as goal

pub loop-rule-preserved : goal.loop-rule-preserved
loop-rule-preserved c =
    mapped_in_place bare_rule c.args.rules.now c.loop-rule.rules c.loop-rule.rule-index _
    c.rule-item.result (omega arith) c.loop-rule.invariant refl

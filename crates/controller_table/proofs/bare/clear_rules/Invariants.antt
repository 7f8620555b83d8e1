-- So far the first rules are bare, and the others are as they were.
use Rattle.std.proofs.Common.{◌≡◌, ◌++◌, map, take, drop}
use Rattle.proto_model.specs.Guards.{bare_rule}
use Rattle.controller_table.proofs.bare.clear_rules.Given as goal

abbrev pub invariant-loop-rule : goal.invariant-loop-rule
invariant-loop-rule l =
    l.rules ≡ map bare_rule (take l.rule-index l.fn.rules) ++ drop l.rule-index l.fn.rules

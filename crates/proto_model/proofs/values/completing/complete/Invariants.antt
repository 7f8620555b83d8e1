-- The assignments that are left lead to the completed variables.
use Rattle.std.proofs.Common.{◌≡◌, drop}
use Rattle.std.specs.List.{fold}
use Rattle.proto_model.specs.Values.{after_assign, completed}
use Rattle.proto_model.proofs.values.completing.complete.Given as goal

abbrev pub invariant-loop-change : goal.invariant-loop-change
invariant-loop-change l =
    fold (after_assign l.infos) l.vars (drop l.change-index l.rule.assigns) ≡ completed l.infos
    l.fn.vars l.fn.rule l.fn.partner l.fn.value

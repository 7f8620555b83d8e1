-- A local step has no target.
use Rattle.std.proofs.Common.{refl, sym, ap, ◌∙◌}
use Rattle.std.specs.List.{list_any, range_with_len}
use Rattle.proto_model.specs.Values.{may_meet}
use Rattle.proto_model.specs.declared.numbered.RuleKind.{RuleKind}
use Rattle.async_machine.proofs.Targets.{range-none}
use Rattle.async_machine.proofs.choosing.has_target.Goals as goal

pub returns-in-Tau : goal.returns-in-Tau
returns-in-Tau c =
    sym (ap (λ (kind : RuleKind). list_any (may_meet c.args.vars.now kind)
    (range_with_len 0 c.args.n)) c.in-Tau.is
    ∙ range-none _ 0 c.args.n (λ i. refl))

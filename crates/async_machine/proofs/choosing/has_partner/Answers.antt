-- The partner `home` has no target.
use Rattle.std.proofs.Common.{refl, sym, ap, ◌∙◌}
use Rattle.std.specs.List.{list_any, range_with_len}
use Rattle.proto_model.specs.Values.{is_target}
use Rattle.proto_model.specs.declared.numbered.RulePartner.{RulePartner}
use Rattle.async_machine.proofs.Targets.{range-none}
use Rattle.async_machine.proofs.choosing.has_partner.Goals as goal

pub returns-in-Home : goal.returns-in-Home
returns-in-Home c =
    sym (ap (λ (partner : RulePartner). list_any (is_target c.args.vars.now partner)
    (range_with_len 0 c.args.n)) c.in-Home.is
    ∙ range-none _ 0 c.args.n (λ i. refl))

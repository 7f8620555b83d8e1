-- One more state is bare.
use Rattle.std.proofs.Common.{◌≡◌, ◌∙◌, List, get_or, map, ap, arith}
use Rattle.rv_base.specs.Lends.{in_place}
use Rattle.rv_base.proofs.Lists.{mapped_in_place, in_place-map}
use Rattle.proto_model.specs.Guards.{bare_rule, bare_state}
use Rattle.proto_model.specs.declared.numbered.Rule.{Rule}
use Rattle.controller_table.proofs.WithNexts.{with_rules}
use Rattle.controller_table.proofs.bare.clear_states.Goals as goal

pub loop-state-preserved : goal.loop-state-preserved
loop-state-preserved c =
    let states = c.loop-state.states in
    let place = c.loop-state.state-index in
    let info = get_or states place c.state-item.result in
    let cleared : in_place info.rules c.clear_rules.new.rules ≡ map bare_rule info.rules =
    ap (in_place info.rules)
    (c.clear_rules.ensures ∙ ap (map bare_rule) c.as_mut_slice.ensures.value)
    ∙ in_place-map bare_rule info.rules in
    mapped_in_place bare_state c.args.states.now states place
    (with_rules info (in_place info.rules c.clear_rules.new.rules)) c.state-item.result
    (omega arith) c.loop-state.invariant
    (ap (λ (rules : List Rule). with_rules info rules) cleared)

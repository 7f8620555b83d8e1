-- The set of the targets so far is below the bit of the next remote.
use Rattle.std.proofs.Common.{◌≡◌, ℕ, ◌<◌, true, false, sym, ap, ◌∙◌, arith}
use Rattle.proto_model.specs.NumberSets.{has_number, numbers_below}
use Rattle.proto_model.specs.Values.{may_meet}
use Rattle.proto_model.proofs.NumberBits.{numbers_below-none, numbers_below-with}
use Rattle.proto_model.proofs.NumberBits.{numbers_below-without}
use Rattle.proto_model.proofs.NumberBits.{numbers_below-room, bit-small, has_number-numbers_below}
use Rattle.proto_model.proofs.values.evaluation.targets.Goals as goal
use Rattle.proto_model.proofs.values.evaluation.targets.Goals.{then-is_target, else-is_target}

pub loop-node-init : goal.loop-node-init
loop-node-init c = sym (numbers_below-none (may_meet c.args.vars.now c.args.rule.now.kind))

pub overflow_add-set : goal.overflow_add-set
overflow_add-set c =
    let test = may_meet c.args.vars.now c.args.rule.now.kind in
    let small : c.loop-node.node < 64 = omega arith in
    let room = numbers_below-room test c.loop-node.node small in
    let bit = bit-small c.loop-node.node small in
    omega (arith, room, bit, c.loop-node.invariant)

pub loop-node-preserved : goal.loop-node-preserved
loop-node-preserved c =
    let test = may_meet c.args.vars.now c.args.rule.now.kind in
    let small : c.loop-node.node < 64 = omega arith in
    let bit = bit-small c.loop-node.node small in
    elim c.if-is_target.branch [
      | then-is_target w ↦
          let is : test c.loop-node.node ≡ true = cc in
          omega (
            arith,
            numbers_below-with test c.loop-node.node is,
            bit,
            w.set-is,
            c.loop-node.invariant,
          )
      | else-is_target w ↦
          let is : test c.loop-node.node ≡ false = cc in
          omega (
            arith,
            numbers_below-without test c.loop-node.node is,
            w.set-is,
            c.loop-node.invariant,
          )
    ]

pub returns-clause-members : goal.returns-clause-members
returns-clause-members c = λ j.
    let test = may_meet c.args.vars.now c.args.rule.now.kind in
    let whole : c.loop-node.node ≡ c.args.n = omega arith in
    let set = c.loop-node.invariant ∙ ap (numbers_below test) whole in
    ap (λ (s : ℕ). has_number s j) set ∙ has_number-numbers_below test c.args.n j

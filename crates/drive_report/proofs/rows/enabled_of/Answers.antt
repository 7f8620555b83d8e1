-- The bit of each number whose step is enabled is added to the set, which is below it.
use Rattle.std.proofs.Common.{◌≡◌, ℕ, ◌<◌, Bool, true, false, sym, ap, ◌∙◌, arith}
use Rattle.async_shape.specs.Next.{is_enabled}
use Rattle.async_shape.specs.declared.step.Step.{Step}
use Rattle.async_machine.specs.Standing.{setting, config}
use Rattle.proto_model.proofs.NumberBits.{numbers_below-none, numbers_below-with}
use Rattle.proto_model.proofs.NumberBits.{numbers_below-without, numbers_below-room, bit-small}
use Rattle.drive_report.specs.Forms.{step_of}
use Rattle.drive_report.proofs.EnabledNumbers.{numbers_below-never}
use Rattle.drive_report.proofs.rows.enabled_of.Goals as goal
use Rattle.drive_report.proofs.rows.enabled_of.Goals.{then-is_enabled, else-is_enabled}

pub returns-then-is_silent : goal.returns-then-is_silent
returns-then-is_silent g c =
    let machine = c.args.machine.now in
    let test : ℕ → Bool =
    λ b.
    is_enabled (setting machine) (config g.L.Links.lists machine) (step_of c.args.form b) in
    sym (numbers_below-never test c.args.count (c.is_silent.ensures c.if-is_silent.true))

pub loop-number-init : goal.loop-number-init
loop-number-init g c =
    let machine = c.args.machine.now in
    sym (numbers_below-none
    (λ b. is_enabled (setting machine) (config g.L.Links.lists machine) (step_of c.args.form b)))

pub overflow_add-set : goal.overflow_add-set
overflow_add-set g c =
    let machine = c.args.machine.now in
    let number = c.loop-number.number in
    let test : ℕ → Bool =
    λ b.
    is_enabled (setting machine) (config g.L.Links.lists machine) (step_of c.args.form b) in
    let small : number < 64 = omega arith in
    let room = numbers_below-room test number small in
    let bit = bit-small number small in
    omega (arith, room, bit, c.loop-number.invariant)

pub loop-number-preserved : goal.loop-number-preserved
loop-number-preserved g c =
    let machine = c.args.machine.now in
    let number = c.loop-number.number in
    let enabled : Step → Bool = is_enabled (setting machine) (config g.L.Links.lists machine) in
    let test : ℕ → Bool = λ b. enabled (step_of c.args.form b) in
    let small : number < 64 = omega arith in
    let bit = bit-small number small in
    let answer : c.is_enabled.result ≡ test number =
    c.is_enabled.ensures
    ∙ ap enabled (c.step.ensures ∙ ap (step_of c.args.form) c.from.ensures) in
    elim c.if-is_enabled.branch [
      | then-is_enabled w ↦
          let is : test number ≡ true = sym answer ∙ cc in
          omega (
            arith,
            numbers_below-with test number is,
            bit,
            w.set-is,
            c.loop-number.invariant,
          )
      | else-is_enabled w ↦
          let is : test number ≡ false = sym answer ∙ cc in
          omega (
            arith,
            numbers_below-without test number is,
            w.set-is,
            c.loop-number.invariant,
          )
    ]

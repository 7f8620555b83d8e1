-- The lines that are made are an array at the start.
use Rattle.std.proofs.Common.{◌≡◌, replicate, ap, subst, ℕ, arith}
use Rattle.controller_table.specs.Sound.{protocol_of}
use Rattle.async_shape.specs.Config.{start}
use Rattle.line_array.specs.ArrayConfig.{ArrayConfig}
use Rattle.line_array.specs.Standing.{line_standing}
use Rattle.line_array.proofs.ArrayStart.{array-starts, IsArray-start}
use Rattle.line_array.proofs.array.Array.new.Goals as goal

pub invariant_of-result : goal.invariant_of-result
invariant_of-result c =
    let table = c.args.table.now in
    let ends : c.loop-made.made ≡ c.args.lines =
    omega (arith, c.loop-made.auto.made-end, c.loop-made-test.false) in
    let made : c.loop-made.machines.items
    ≡ replicate c.args.lines (line_standing table c.args.k (start (protocol_of table) c.args.n)) =
    subst (λ (m : ℕ). c.loop-made.machines.items
    ≡ replicate m (line_standing table c.args.k (start (protocol_of table) c.args.n))) ends
    c.loop-made.invariant in
    IsArray-start table c.args.k c.args.n c.args.lines c.in_ok-shared.shared
    c.in_ok-shared.ensures c.loop-made.machines.items made c.home.ensures.sound
    c.requires.remotes.0 c.requires.remotes.1 c.requires.slots.0 c.requires.slots.1
    c.requires.lines.0 c.requires.lines.1

pub returns : goal.returns
returns c =
    let table = c.args.table.now in
    let ends : c.loop-made.made ≡ c.args.lines =
    omega (arith, c.loop-made.auto.made-end, c.loop-made-test.false) in
    let made : c.loop-made.machines.items
    ≡ replicate c.args.lines (line_standing table c.args.k (start (protocol_of table) c.args.n)) =
    subst (λ (m : ℕ). c.loop-made.machines.items
    ≡ replicate m (line_standing table c.args.k (start (protocol_of table) c.args.n))) ends
    c.loop-made.invariant in
    ap (λ (config : ArrayConfig). record { table = table; slots = c.args.k; config = config })
    (array-starts table c.args.k c.args.n c.args.lines c.in_ok-shared.shared
    c.in_ok-shared.ensures c.loop-made.machines.items made)

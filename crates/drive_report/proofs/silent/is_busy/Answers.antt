-- The remote is there, and isn't idle.
use Rattle.std.proofs.Common.{ℕ, ◌<◌, sym, ap, subst, ◌∙◌}
use Rattle.async_shape.specs.Guards.{idle_state}
use Rattle.async_machine.specs.Standing.{setting, config}
use Rattle.drive_report.proofs.SilentForms.{taus-none}
use Rattle.drive_report.proofs.silent.is_busy.Goals as goal

pub returns-in-Trans : goal.returns-in-Trans
returns-in-Trans g c silent b =
    let machine = c.args.machine.now in
    let within =
    subst (λ (k : ℕ). c.args.j < k) (c.from.ensures ∙ c.n.ensures) c.if-j-from.false in
    taus-none (setting machine) (config g.L.Links.lists machine) c.args.j within
    (ap idle_state (sym c.in-Trans.ensures)) b

pub returns-in-Due : goal.returns-in-Due
returns-in-Due g c silent b =
    let machine = c.args.machine.now in
    let within =
    subst (λ (k : ℕ). c.args.j < k) (c.from.ensures ∙ c.n.ensures) c.if-j-from.false in
    taus-none (setting machine) (config g.L.Links.lists machine) c.args.j within
    (ap idle_state (sym c.in-Due.ensures)) b

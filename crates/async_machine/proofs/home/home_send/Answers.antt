-- The guard and the message are found as in the definition, and `pay` or `request` does the rest.
use Rattle.std.proofs.Common.{Some, None, sym, subst}
use Rattle.controller_table.specs.Rows.{guard_id}
use Rattle.async_machine.specs.Moves.{going}
use Rattle.async_machine.specs.Planned.{HomePlans}
use Rattle.async_machine.specs.Standing.{setting_of}
use Rattle.async_machine.proofs.Sent.{home_send-found}
use Rattle.async_machine.proofs.home.home_send.Goals as goal

pub returns-in-Some-clause-value : goal.returns-in-Some-clause-value
returns-in-Some-clause-value c =
    let home = c.args.home.now in
    let held = c.args.slots.now.held in
    let k = c.args.slots.now.size in
    let guard = c.in_ok-guard.guard in
    subst (HomePlans home held c.pay.result)
    (sym (home_send-found (setting_of c.args.table.now k) c.args.n home held c.args.g c.args.j
    c.in-Idle.state (going guard.0.now guard.1) c.in_ok-message.message (Some c.in-Some.owed)
    c.in-Idle.is (sym c.in_ok-guard.ensures.value) (sym c.if-not-guard_open.ensures)
    (sym c.if-not-is_target_of.ensures) (sym c.in_ok-message.ensures) (sym c.in-Some.ensures)))
    (c.pay.ensures.value k c.args.n held (guard_id c.in-Idle.state c.args.g))

pub returns-in-None-clause-value : goal.returns-in-None-clause-value
returns-in-None-clause-value c =
    let home = c.args.home.now in
    let held = c.args.slots.now.held in
    let guard = c.in_ok-guard.guard in
    let rule = going guard.0.now guard.1 in
    subst (HomePlans home held c.request.result)
    (sym (home_send-found (setting_of c.args.table.now c.args.slots.now.size) c.args.n home held
    c.args.g c.args.j c.in-Idle.state rule c.in_ok-message.message None
    c.in-Idle.is (sym c.in_ok-guard.ensures.value) (sym c.if-not-guard_open.ensures)
    (sym c.if-not-is_target_of.ensures) (sym c.in_ok-message.ensures) (sym c.in-None.ensures)))
    (c.request.ensures.value rule)

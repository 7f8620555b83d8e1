-- The remote that the step names is there, and has its links.
use Rattle.std.proofs.Common.{◌≡◌, ℕ, List, length, Option, Some, None, IfSome, sym, subst}
use Rattle.proto_model.specs.declared.numbered.Value.{Value}
use Rattle.async_shape.specs.Site.{site, arrival_link}
use Rattle.async_shape.specs.declared.config.RemoteState.{RemoteState}
use Rattle.async_machine.specs.Arriving.{IsLinked}
use Rattle.async_machine.specs.Planned.{Says, IsPlan}
use Rattle.async_machine.specs.Standing.{setting_of, config_of}
use Rattle.async_machine.specs.declared.planned.Planned.{Planned}
use Rattle.async_machine.proofs.Bounds.{in_range-linked, in_range-on_links, shaped-ack_slot}
use Rattle.async_machine.proofs.machine.Machine.plan.Goals as goal

pub arriving-arrived-requires : goal.arriving-arrived-requires
arriving-arrived-requires g c =
    let there = rw (← c.self.view_is) at c.if-not-names_some.ensures in
    in_range-on_links _ _ c.args.step c.self.invariant.shaped (sym there)

pub plan_of-requires-clause-linked : goal.plan_of-requires-clause-linked
plan_of-requires-clause-linked g c =
    let there = rw (← c.self.view_is) at c.if-not-names_some.ensures in
    let linked = in_range-linked _ _ c.args.step c.self.invariant.shaped (sym there) in
    subst (λ (remotes : List RemoteState). IsLinked (length remotes) c.args.step)
    (sym c.as_slice.ensures) linked

pub plan_of-requires-clause-room : goal.plan_of-requires-clause-room
plan_of-requires-clause-room g c = shaped-ack_slot _ _ c.self.invariant.shaped

-- the guard stands behind the plan
says-guard : (by : Option ℕ) (passed : Option (ℕ × Value)) (plan : Option Planned)
    → IfSome plan (Says by passed) → IfSome plan (λ plan. plan.guard ≡ by)
says-guard by passed None says = tt
says-guard by passed (Some plan) says = says.guard

-- and the message
says-message : (by : Option ℕ) (passed : Option (ℕ × Value)) (plan : Option Planned)
    → IfSome plan (Says by passed) → IfSome plan (λ plan. plan.message ≡ passed)
says-message by passed None says = tt
says-message by passed (Some plan) says = says.message

pub returns-clause-guard : goal.returns-clause-guard
returns-clause-guard g c =
    let links = g.L.Links.lists c.self.inside.links in
    let plan = c.plan_of.result in
    let plans = subst (λ (remotes : List RemoteState). IsPlan
    (setting_of c.self.inside.table.now c.self.inside.slots.size)
    (config_of c.self.inside.home c.self.inside.slots.held remotes links)
    (arrival_link (site c.args.step)) c.args.step plan)
    c.as_slice.ensures (c.plan_of.ensures links (sym c.arriving-arrived.ensures)) in
    rw (← c.self.view_is) (says-guard _ _ plan plans.says)

pub returns-clause-message : goal.returns-clause-message
returns-clause-message g c =
    let links = g.L.Links.lists c.self.inside.links in
    let plan = c.plan_of.result in
    let plans = subst (λ (remotes : List RemoteState). IsPlan
    (setting_of c.self.inside.table.now c.self.inside.slots.size)
    (config_of c.self.inside.home c.self.inside.slots.held remotes links)
    (arrival_link (site c.args.step)) c.args.step plan)
    c.as_slice.ensures (c.plan_of.ensures links (sym c.arriving-arrived.ensures)) in
    rw (← c.self.view_is) (says-message _ _ plan plans.says)

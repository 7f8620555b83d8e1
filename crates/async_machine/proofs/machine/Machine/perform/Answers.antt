-- The plan that is performed is the one of the step.
use Rattle.std.proofs.Common.{◌≡◌, ℕ, Option, Some, sym, subst, ap, ◌∙◌}
use Rattle.controller_table.specs.Sound.{Tabled}
use Rattle.slot_reserve.specs.Reserve.{Reserve}
use Rattle.ordered_links.specs.Link.{Link}
use Rattle.async_shape.specs.Config.{Config}
use Rattle.async_shape.specs.Next.{links_left, outcome}
use Rattle.async_shape.specs.Outcome.{Put}
use Rattle.async_shape.specs.Site.{site, arrival_link}
use Rattle.async_shape.specs.declared.step.Step.{Step}
use Rattle.async_machine.specs.Effects.{DidPut, DidTake}
use Rattle.async_machine.specs.Planned.{planned_outcome}
use Rattle.async_machine.specs.Standing.{setting_of, config_of, IsStanding}
use Rattle.async_machine.specs.declared.planned.Planned.{Planned}
use Rattle.async_machine.proofs.Bounds.{shaped-debts}
use Rattle.async_machine.proofs.Made.{IsMade, made-room, made-linked, made-next, made-standing}
use Rattle.async_machine.proofs.Made.{made-put, made-take, made-by_row}
use Rattle.async_machine.proofs.machine.Machine.perform.Goals as goal

-- a plan is made
is-made : (table : Tabled) (k : ℕ) (c : Config) (s : Step) (plan : Planned)
    → IsStanding table k c → outcome (setting_of table k) c s ≡ Some (planned_outcome c s plan)
    → IsMade table k c s plan
is-made table k c s plan standing did = record { standing = standing; did = did }

pub make-requires-clause-debts : goal.make-requires-clause-debts
make-requires-clause-debts g c = shaped-debts _ _ c.self.invariant.shaped

pub send-requires : goal.send-requires
send-requires g c =
    let does = rw (← c.self.view_is) at c.requires.does in
    made-room (is-made _ _ _ c.args.step c.args.plan.now c.self.invariant does)

pub take-requires : goal.take-requires
take-requires g c =
    let does = rw (← c.self.view_is) at c.requires.does in
    made-linked (is-made _ _ _ c.args.step c.args.plan.now c.self.invariant does) _
    c.send.ensures.lists

pub invariant_of-self : goal.invariant_of-self
invariant_of-self g c =
    let does = rw (← c.self.view_is) at c.requires.does in
    let made = is-made _ _ _ c.args.step c.args.plan.now c.self.invariant does in
    let put = ap (links_left (arrival_link (site c.args.step))) c.send.ensures.lists in
    let after = config_of c.make.new.home c.make.new.slots.held c.make.new.remotes _ in
    let leads = made-next made c.make.new.home c.make.new.slots.held c.make.new.remotes _
    c.make.ensures.home (ap (λ (s : Reserve). s.held) c.make.ensures.held)
    c.make.ensures.remotes (c.take.ensures.lists ∙ put) in
    subst (λ (k : ℕ). IsStanding c.self.inside.table.now k after)
    (sym (ap (λ (s : Reserve). s.size) c.make.ensures.held)) (made-standing made _ leads)

pub returns-clause-step : goal.returns-clause-step
returns-clause-step g c =
    let does = rw (← c.self.view_is) at c.requires.does in
    let made = is-made _ _ _ c.args.step c.args.plan.now c.self.invariant does in
    let put = ap (links_left (arrival_link (site c.args.step))) c.send.ensures.lists in
    rw (← c.self.view_is)
    (made-next made c.make.new.home c.make.new.slots.held c.make.new.remotes _
    c.make.ensures.home (ap (λ (s : Reserve). s.held) c.make.ensures.held)
    c.make.ensures.remotes (c.take.ensures.lists ∙ put))

pub returns-clause-row : goal.returns-clause-row
returns-clause-row g c =
    let does = rw (← c.self.view_is) at c.requires.does in
    let made = is-made _ _ _ c.args.step c.args.plan.now c.self.invariant does in
    let put = ap (links_left (arrival_link (site c.args.step))) c.send.ensures.lists in
    rw (← c.self.view_is)
    (made-by_row made _ (made-next made c.make.new.home c.make.new.slots.held c.make.new.remotes _
    c.make.ensures.home (ap (λ (s : Reserve). s.held) c.make.ensures.held)
    c.make.ensures.remotes (c.take.ensures.lists ∙ put)))

pub returns-clause-effect : goal.returns-clause-effect
returns-clause-effect g c =
    let does = rw (← c.self.view_is) at c.requires.does in
    let made = is-made _ _ _ c.args.step c.args.plan.now c.self.invariant does in
    let did_put =
    λ (put : Option Put). DidPut g.L.Links.put_effect c.self.inside.links put c.send.new.links in
    let did_take =
    λ (link : Option Link). DidTake g.L.Links.take_effect c.send.new.links link c.take.new.links in
    rw (← c.self.view_is) (
      c.send.new.links,
      subst did_put (sym (made-put made)) c.send.ensures.effect,
      subst did_take (sym (made-take made)) c.take.ensures.effect,
    )

-- While the home waits, the ack slot is free.
use Rattle.std.proofs.Common.{◌≡◌, ℕ, List, None, ap}
use Rattle.slot_reserve.specs.declared.held.Held.{Held}
use Rattle.async_shape.specs.Requests.{is_waiting}
use Rattle.async_machine.specs.Planned.{FitsIn, HasSlot}
use Rattle.async_machine.specs.declared.planned.HomeChange.{HomeChange}
use Rattle.async_machine.specs.declared.planned.HeldChange.{HeldChange}
use Rattle.async_machine.specs.declared.planned.Change.TheVariants.{Home}
use Rattle.async_machine.specs.declared.planned.Planned.{Planned}
use Rattle.async_machine.proofs.home.up.Goals as goal

-- no debt changes, and there is a slot
fits : (k m : ℕ) (held : List Held) (change : HomeChange) (changed : HeldChange) (plan : Planned)
    → plan.change ≡ Home change changed → change.debt ≡ None → HasSlot k held changed
    → FitsIn k held m plan.change
fits k m held change changed plan is none slot = rw (is, none) (tt, slot)

pub returns-then-waiting-j-clause-fits : goal.returns-then-waiting-j-clause-fits
returns-then-waiting-j-clause-fits c m =
    let k = c.args.slots.now.size in
    let held = c.args.slots.now.held in
    fits k m held c.heard-change.result c.held_crossing.result c.arrival.result
    (ap (λ (plan : Planned). plan.change) c.arrival.ensures) c.heard-change.ensures.debt
    (c.held_crossing.ensures.slot k held (c.requires (ap is_waiting c.in-Waits.is)))

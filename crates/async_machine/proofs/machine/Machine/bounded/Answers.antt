-- What has the shape is bounded.
use Rattle.async_shape.proofs.Bounds.{shaped-bounded}
use Rattle.async_machine.specs.Standing.{setting_of}
use Rattle.async_machine.proofs.machine.Machine.bounded.Goals as goal

pub returns : goal.returns
returns g c =
    let stands = c.self.invariant in
    let setting = setting_of c.self.inside.table.now c.self.inside.slots.size in
    rw (← c.self.view_is) (shaped-bounded setting stands.sound.proper _ stands.shaped)

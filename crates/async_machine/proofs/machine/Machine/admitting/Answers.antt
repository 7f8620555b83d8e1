-- What has the shape refuses requests by the rules.
use Rattle.async_shape.proofs.Admission.{shaped-admitting}
use Rattle.async_machine.proofs.machine.Machine.admitting.Goals as goal

pub returns : goal.returns
returns g c = rw (← c.self.view_is) (shaped-admitting _ _ c.self.invariant.shaped)

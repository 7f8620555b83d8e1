-- There are at most 64 remotes.
use Rattle.std.proofs.Common.{◌≤◌, List, length, sym, subst, arith}
use Rattle.async_shape.specs.declared.config.RemoteState.{RemoteState}
use Rattle.async_machine.proofs.Bounds.{shaped-few}
use Rattle.async_machine.proofs.machine.Machine.n.Goals as goal

pub overflow_cast-result : goal.overflow_cast-result
overflow_cast-result g c =
    let few = subst (λ (remotes : List RemoteState). length remotes ≤ 64) (sym c.as_slice.ensures)
    (shaped-few _ _ c.self.invariant.shaped) in
    omega arith

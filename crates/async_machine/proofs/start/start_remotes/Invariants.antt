-- So far so many remotes stand at the start.
use Rattle.std.proofs.Common.{◌≡◌}
use Rattle.controller_table.specs.Sound.{protocol_of}
use Rattle.async_shape.specs.Config.{start}
use Rattle.async_machine.proofs.start.start_remotes.Given as goal

abbrev pub invariant-loop-made : goal.invariant-loop-made
invariant-loop-made l = l.remotes ≡ (start (protocol_of l.table) l._made).remotes

-- So many lines are at the start.
use Rattle.std.proofs.Common.{◌≡◌, replicate}
use Rattle.controller_table.specs.Sound.{protocol_of}
use Rattle.async_shape.specs.Config.{start}
use Rattle.line_array.specs.Standing.{line_standing}
use Rattle.line_array.proofs.array.Array.new.Given as goal

abbrev pub invariant-loop-made : goal.invariant-loop-made
invariant-loop-made l =
    l.machines.items
    ≡ replicate l.made (line_standing l.fn.table l.fn.k (start (protocol_of l.fn.table) l.fn.n))

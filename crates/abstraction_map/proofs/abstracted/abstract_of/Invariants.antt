-- The remotes so far stand as they do in the abstraction.
use Rattle.std.proofs.Common.{◌≡◌, map}
use Rattle.std.specs.List.{range_with_len}
use Rattle.controller_table.specs.Sound.{protocol_of}
use Rattle.async_shape.specs.View.{view_at}
use Rattle.async_machine.specs.Standing.{config}
use Rattle.abstraction_map.specs.Abstraction.{part_in_view}
use Rattle.abstraction_map.proofs.abstracted.abstract_of.Given as goal

abbrev pub invariant-loop-j : goal.invariant-loop-j
invariant-loop-j g l =
    let protocol = protocol_of l.machine.table in
    let view_of = view_at protocol (config g.L.Links.lists l.machine) in
    l.remotes ≡ map (λ j. part_in_view protocol.remote (view_of j)) (range_with_len 0 l.j)

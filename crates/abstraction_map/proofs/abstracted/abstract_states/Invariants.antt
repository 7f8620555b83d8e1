-- The states of the remotes so far are those in the abstraction, and the other places stay.
use Rattle.std.proofs.Common.{◌≡◌, length, take, drop, map}
use Rattle.std.specs.List.{range_with_len}
use Rattle.proto_model.specs.declared.rendezvous.Part.{Part}
use Rattle.controller_table.specs.Sound.{protocol_of}
use Rattle.async_shape.specs.View.{view_at}
use Rattle.async_machine.specs.Standing.{config}
use Rattle.abstraction_map.specs.Abstraction.{part_in_view}
use Rattle.abstraction_map.proofs.abstracted.abstract_states.Given as goal

abbrev pub invariant-loop-place : goal.invariant-loop-place
invariant-loop-place g l =
    let protocol = protocol_of l.machine.table in
    let view_of = view_at protocol (config g.L.Links.lists l.machine) in
    record {
      room : length l.states ≡ length l.fn.states;
      rest : drop (length l.machine.remotes) l.states
          ≡ drop (length l.machine.remotes) l.fn.states;
      so_far : take l.place l.states ≡ map (λ (part : Part). part.state)
          (map (λ j. part_in_view protocol.remote (view_of j)) (range_with_len 0 l.place));
    }

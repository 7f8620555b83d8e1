-- One more state, in its place.
use Rattle.std.proofs.Common.{◌≡◌, ◌<◌, ◌≤◌, ℕ, ◌+◌, List, [], ◌∷◌, map, take, set, length}
use Rattle.std.proofs.Common.{refl, sym, ap, ◌∙◌, arith}
use Rattle.std.specs.List.{range_with_len}
use Rattle.std.proofs.lemmas.Grind.{take-set_at}
use Rattle.std.proofs.lemmas.List.{map-append, length-set, drop-set-lt}
use Rattle.std.proofs.lemmas.List.FromFn.{map-range_with_len_more}
use Rattle.proto_model.specs.declared.rendezvous.Part.{Part}
use Rattle.controller_table.specs.Sound.{protocol_of}
use Rattle.async_shape.specs.View.{view_at}
use Rattle.async_machine.specs.Standing.{config}
use Rattle.abstraction_map.specs.Abstraction.{part_in_view}
use Rattle.abstraction_map.proofs.abstracted.abstract_states.Goals as goal

-- Where the states at the first n places are those of what is given for each number below n, and
-- the one at n becomes that of what is given for n, they are those of what is given below n + 1.
one_more : (f : ℕ → Part) (n : ℕ) (states : List ℕ) (part : Part) → n < length states
    → take n states ≡ map (λ (p : Part). p.state) (map f (range_with_len 0 n)) → part ≡ f n
    → take (n + 1) (set states n part.state)
    ≡ map (λ (p : Part). p.state) (map f (range_with_len 0 (n + 1)))
one_more f n states part within so_far is =
    let state : Part → ℕ = λ p. p.state in
    let last : 0 + n ≡ n = omega arith in
    take-set_at states n (n + 1) part.state refl within
    ∙ rw (so_far, is) (sym (ap (map state) (map-range_with_len_more f 0 n n last)
    ∙ map-append state (map f (range_with_len 0 n)) (f n ∷ [])))

pub loop-place-preserved : goal.loop-place-preserved
loop-place-preserved g c =
    let machine = c.args.machine.now in
    let protocol = protocol_of machine.table in
    let view_of = view_at protocol (config g.L.Links.lists machine) in
    let within : c.loop-place.place < length machine.remotes = rw c.n-place-end.ensures at
    c.loop-place-test.true in
    let loop = c.loop-place in
    let n = length machine.remotes in
    let room : n ≤ length c.args.states.now = c.requires in
    let same : length loop.states ≡ length c.args.states.now = loop.invariant.room in
    let given = c.remote_part.result.state in
    record {
      room = length-set loop.states loop.place given ∙ same;
      rest = drop-set-lt n loop.states loop.place given within ∙ loop.invariant.rest;
      so_far = one_more (λ (j : ℕ). part_in_view protocol.remote (view_of j)) loop.place
          loop.states c.remote_part.result (omega (arith, within, room, same))
          loop.invariant.so_far c.remote_part.ensures;
    }

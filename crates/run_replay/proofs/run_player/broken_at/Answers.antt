-- There are at most 64 remotes, so their states have room, and they are those of the abstraction.
use Rattle.std.proofs.Common.{◌≤◌, List, ℕ, length, take, sym, ap, ◌∙◌}
use Rattle.std.proofs.lemmas.List.{map-id, length-take-le}
use Rattle.async_machine.specs.Standing.{setting, config}
use Rattle.async_machine.proofs.Bounds.{shaped-few}
use Rattle.rendezvous_meaning.specs.Claims.{broken}
use Rattle.run_replay.proofs.run_player.broken_at.Goals as goal

pub abstract_states-requires : goal.abstract_states-requires
abstract_states-requires g c =
    let machine = c.args.machine.now in
    shaped-few (setting machine) (config g.L.Links.lists machine) c.shaped.ensures

pub slice_bounds-states-end : goal.slice_bounds-states-end
slice_bounds-states-end g c =
    let machine = c.args.machine.now in
    rw (c.n.ensures, c.abstract_states.ensures.room)
    (shaped-few (setting machine) (config g.L.Links.lists machine) c.shaped.ensures)

pub slice_bounds-broken_among-end : goal.slice_bounds-broken_among-end
slice_bounds-broken_among-end g c =
    let machine = c.args.machine.now in
    let states : List ℕ = c.abstract_states.new.states in
    let room : c.n.result ≤ length states =
    rw (c.n.ensures, c.abstract_states.ensures.room)
    (shaped-few (setting machine) (config g.L.Links.lists machine) c.shaped.ensures) in
    sym (length-take-le c.n.result states room)

pub returns : goal.returns
returns g c =
    let states : List ℕ = c.abstract_states.new.states in
    c.broken_among.ensures
    ∙ ap (broken c.args.claims.now) (map-id (take c.n.result states)
    ∙ ap (λ (n : ℕ). take n states) c.n.ensures ∙ c.abstract_states.ensures.states)

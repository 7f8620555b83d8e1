-- One more remote, in its place.
use Rattle.std.proofs.Common.{◌≡◌, ℕ, ◌+◌, List, [], ◌∷◌, ◌++◌, map, sym, ◌∙◌, arith}
use Rattle.std.specs.List.{range_with_len}
use Rattle.std.proofs.lemmas.List.FromFn.{map-range_with_len_more}
use Rattle.controller_table.specs.Sound.{protocol_of}
use Rattle.async_shape.specs.View.{view_at}
use Rattle.async_machine.specs.Standing.{config}
use Rattle.abstraction_map.specs.Abstraction.{part_in_view}
use Rattle.abstraction_map.proofs.abstracted.abstract_of.Goals as goal

-- What is given for each number below n, and then for n, is given for each below n + 1.
one_more : {X : Type 0} (f : ℕ → X) (n : ℕ) (before after : List X) (x : X)
    → before ≡ map f (range_with_len 0 n) → x ≡ f n → after ≡ before ++ x ∷ []
    → after ≡ map f (range_with_len 0 (n + 1))
one_more f n before after x so_far is pushed =
    let last : 0 + n ≡ n = omega arith in
    pushed ∙ rw (so_far, is) (sym (map-range_with_len_more f 0 n n last))

pub loop-j-preserved : goal.loop-j-preserved
loop-j-preserved g c =
    let protocol = protocol_of c.args.machine.now.table in
    let view_of = view_at protocol (config g.L.Links.lists c.args.machine.now) in
    one_more (λ (j : ℕ). part_in_view protocol.remote (view_of j)) c.loop-j.j c.loop-j.remotes
    c.push.new.self c.remote_part.result c.loop-j.invariant c.remote_part.ensures
    c.in_ok-push.ensures.ok

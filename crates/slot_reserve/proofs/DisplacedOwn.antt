-- The last held request, and the one that displaces it, as the first of their remotes.
use Rattle.std.proofs.Common.{◌≡◌, ◌≢◌, ℕ, List, Some, None, ap, sym, subst, ◌∙◌}
use Rattle.std.proofs.lemmas.Option.{none-some}
use Rattle.slot_reserve.specs.declared.held.Held.{Held}
use Rattle.slot_reserve.specs.Requests.{first_of, last_of, displaced, HasNone, OneOfEach}
use Rattle.slot_reserve.proofs.Displaced.{front_of, held-front, front-has_none, front-each}
use Rattle.slot_reserve.proofs.HeldAfter.{first_of-push_own}

-- where one is held of each at most, the last one is the one of its remote
pub first_of-last : (held : List Held) (last : Held) → last_of held ≡ Some last →
    OneOfEach held → first_of last.from held ≡ Some last
first_of-last held last e each =
    ap (first_of last.from) (held-front held last e)
    ∙ first_of-push_own (front_of held) last (front-each held last e each).1

-- the last held request is of another remote than one of which none is held
pub last-elsewhere : (j : ℕ) (held : List Held) (last : Held) → last_of held ≡ Some last →
    OneOfEach held → first_of j held ≡ None → last.from ≢ j
last-elsewhere j held last e each none = λ same.
    let first : first_of j held ≡ Some last =
    subst (λ (i : ℕ). first_of i held ≡ Some last) same (first_of-last held last e each) in
    none-some last (sym none ∙ first)

-- the request that has come is the first of its remote, of which nothing was held
pub first_of-displaced_own : (held : List Held) (last request : Held) →
    last_of held ≡ Some last → HasNone request.from held →
    first_of request.from (displaced held request) ≡ Some request
first_of-displaced_own held last request e none =
    first_of-push_own (front_of held) request (front-has_none request.from held last e none)

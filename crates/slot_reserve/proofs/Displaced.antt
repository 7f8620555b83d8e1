-- The held requests after the last one has made room for another.
use Rattle.std.proofs.Common.{arith, ◌≡◌, ◌≢◌, ◌∷◌, ◌++◌, ◌-◌, [], ℕ, List, Some, None, suc, length}
use Rattle.std.proofs.Common.{take, ap, sym, subst, ◌∙◌}
use Rattle.std.proofs.lemmas.Option.{none-some, same_Some}
use Rattle.slot_reserve.specs.declared.held.Held.{Held}
use Rattle.slot_reserve.specs.Requests.{first_of, last_of, displaced, HasNone, OneOfEach}
use Rattle.slot_reserve.proofs.HeldOfRemote.{first_of-none}
use Rattle.slot_reserve.proofs.HeldAfter.{first_of-push_other}
use Rattle.slot_reserve.proofs.OneOfEach.{HasNone-push, OneOfEach-push}

-- the requests before the last one
abbrev pub front_of : List Held → List Held
front_of held = take (length held - 1) held

pub held-front : (held : List Held) (last : Held) → last_of held ≡ Some last →
    held ≡ front_of held ++ last ∷ []
held-front [] last e = absurd (none-some _ e)
held-front (request ∷ []) last e = ap (λ one. one ∷ []) (same_Some request last e)
held-front (request ∷ next ∷ held) last e =
    let place : length (request ∷ next ∷ held) - 1 ≡ suc (length (next ∷ held) - 1) = omega arith in
    rw place (ap (λ rest. request ∷ rest) (held-front (next ∷ held) last (rw place at e)))

HasNone-front : (from : ℕ) (front : List Held) (last : Held) →
    HasNone from (front ++ last ∷ []) → HasNone from front × (last.from ≢ from)
HasNone-front from [] last none = (tt, none.0)
HasNone-front from (request ∷ front) last none =
    let rest = HasNone-front from front last none.1 in ((none.0, rest.0), rest.1)

OneOfEach-front : (front : List Held) (last : Held) →
    OneOfEach (front ++ last ∷ []) → OneOfEach front × HasNone last.from front
OneOfEach-front [] last each = (tt, tt)
OneOfEach-front (request ∷ front) last each =
    let others = HasNone-front request.from front last each.0 in
    let rest = OneOfEach-front front last each.1 in
    ((others.0, rest.0), (λ same. others.1 (sym same), rest.1))

-- of a remote of which none is held, none is in front
pub front-has_none : (from : ℕ) (held : List Held) (last : Held) → last_of held ≡ Some last →
    HasNone from held → HasNone from (front_of held)
front-has_none from held last e none =
    (HasNone-front from (front_of held) last (subst (HasNone from) (held-front held last e) none)).0

-- where one is held of each at most, so it is in front, and none of the last one's remote
pub front-each : (held : List Held) (last : Held) → last_of held ≡ Some last →
    OneOfEach held → OneOfEach (front_of held) × HasNone last.from (front_of held)
front-each held last e each =
    OneOfEach-front (front_of held) last (subst OneOfEach (held-front held last e) each)

pub HasNone-displaced : (from : ℕ) (held : List Held) (last request : Held) →
    last_of held ≡ Some last → HasNone from held → request.from ≢ from →
    HasNone from (displaced held request)
HasNone-displaced from held last request e none apart =
    HasNone-push from (front_of held) request (front-has_none from held last e none) apart

pub OneOfEach-displaced : (held : List Held) (last request : Held) → last_of held ≡ Some last →
    OneOfEach held → HasNone request.from held → OneOfEach (displaced held request)
OneOfEach-displaced held last request e each none =
    OneOfEach-push (front_of held) request (front-each held last e each).0
    (front-has_none request.from held last e none)

-- nothing is held any more of the remote whose request has made room
pub first_of-displaced_last : (held : List Held) (last request : Held) →
    last_of held ≡ Some last → OneOfEach held → request.from ≢ last.from →
    first_of last.from (displaced held request) ≡ None
first_of-displaced_last held last request e each apart =
    first_of-push_other last.from (front_of held) request apart
    ∙ first_of-none last.from (front_of held) (front-each held last e each).1

-- what is held of the others stays
pub first_of-displaced_other : (from : ℕ) (held : List Held) (last request : Held) →
    last_of held ≡ Some last → last.from ≢ from → request.from ≢ from →
    first_of from (displaced held request) ≡ first_of from held
first_of-displaced_other from held last request e away apart =
    first_of-push_other from (front_of held) request apart
    ∙ sym (first_of-push_other from (front_of held) last away)
    ∙ ap (first_of from) (sym (held-front held last e))

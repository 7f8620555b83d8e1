-- At most one request is held of each remote: after one came, and after one is gone.
use Rattle.std.proofs.Common.{◌≡◌, ◌≢◌, ◌∷◌, ◌++◌, [], ℕ, List, true, false, refl, sym, subst}
use Rattle.slot_reserve.specs.declared.held.Held.{Held}
use Rattle.slot_reserve.specs.Requests.{is_sent_by, without_first, HasNone, OneOfEach}
use Rattle.slot_reserve.proofs.HeldOfRemote.{sent-by_it, sent-by_another}

pub HasNone-push : (from : ℕ) (held : List Held) (request : Held) →
    HasNone from held → request.from ≢ from → HasNone from (held ++ request ∷ [])
HasNone-push from [] request none apart = (apart, tt)
HasNone-push from (other ∷ held) request none apart =
    (none.0, HasNone-push from held request none.1 apart)

pub OneOfEach-push : (held : List Held) (request : Held) →
    OneOfEach held → HasNone request.from held → OneOfEach (held ++ request ∷ [])
OneOfEach-push [] request each none = (tt, tt)
OneOfEach-push (other ∷ held) request each none = (
  HasNone-push other.from held request each.0 (λ same. none.0 (sym same)),
  OneOfEach-push held request each.1 none.1,
)

abbrev NoneWithout : ℕ → ℕ → List Held → Type 0
NoneWithout from other held = HasNone from (without_first other held)

pub HasNone-without : (from other : ℕ) (held : List Held) →
    HasNone from held → NoneWithout from other held
HasNone-without from other [] none = tt
HasNone-without from other (request ∷ held) none =
    elim (is_sent_by other request)
    as (λ b. is_sent_by other request ≡ b → NoneWithout from other (request ∷ held)) [
      | true ↦ λ is. rw is none.1
      | false ↦ λ is. rw is (none.0, HasNone-without from other held none.1)
    ] refl

abbrev EachWithout : ℕ → List Held → Type 0
EachWithout from held = OneOfEach (without_first from held)

pub OneOfEach-without : (from : ℕ) (held : List Held) → OneOfEach held → EachWithout from held
OneOfEach-without from [] each = tt
OneOfEach-without from (request ∷ held) each =
    elim (is_sent_by from request)
    as (λ b. is_sent_by from request ≡ b → EachWithout from (request ∷ held)) [
      | true ↦ λ is. rw is each.1
      | false ↦ λ is. rw is
          (HasNone-without request.from from held each.0, OneOfEach-without from held each.1)
    ] refl

-- where one is held of each at most, nothing is left of the remote whose request is gone
pub without_first-has_none : (from : ℕ) (held : List Held) →
    OneOfEach held → NoneWithout from from held
without_first-has_none from [] each = tt
without_first-has_none from (request ∷ held) each =
    elim (is_sent_by from request)
    as (λ b. is_sent_by from request ≡ b → NoneWithout from from (request ∷ held)) [
      | true ↦ λ is. rw is (subst (λ one. HasNone one held) (sent-by_it from request is) each.0)
      | false ↦ λ is. rw is
          (sent-by_another from request is, without_first-has_none from held each.1)
    ] refl

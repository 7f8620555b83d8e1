-- The first held request of a remote, where there is one and where there is none.
use Rattle.std.proofs.Common.{arith, ◌≡◌, ◌≢◌, ◌∷◌, [], ℕ, List, true, false, None, ap, refl, sym}
use Rattle.std.proofs.lemmas.Bool.Decides.{nat_tests}
use Rattle.std.proofs.lemmas.Option.{none-some}
use Rattle.slot_reserve.specs.declared.held.Held.{Held}
use Rattle.slot_reserve.specs.Requests.{is_sent_by, first_of, without_first, HasNone}

pub sent-by_it : (from : ℕ) (request : Held) → is_sent_by from request ≡ true → request.from ≡ from
sent-by_it from request e = grind (arith, nat_tests)

pub sent-by_another : (from : ℕ) (request : Held) →
    is_sent_by from request ≡ false → request.from ≢ from
sent-by_another from request e = grind (arith, nat_tests)

pub is_sent_by-another : (from : ℕ) (request : Held) →
    request.from ≢ from → is_sent_by from request ≡ false
is_sent_by-another from request apart = grind (arith, nat_tests)

pub first_of-none : (from : ℕ) (held : List Held) → HasNone from held → first_of from held ≡ None
first_of-none from [] none = refl
first_of-none from (request ∷ held) none =
    rw (is_sent_by-another from request none.0) (first_of-none from held none.1)

pub has_none : (from : ℕ) (held : List Held) → first_of from held ≡ None → HasNone from held
has_none from [] nowhere = tt
has_none from (request ∷ held) nowhere =
    elim (is_sent_by from request) as (λ b. is_sent_by from request ≡ b
    → HasNone from (request ∷ held)) [
      | true ↦ λ e. absurd (none-some _ (sym (rw e at nowhere)))
      | false ↦ λ e. (sent-by_another from request e, has_none from held (rw e at nowhere))
    ] refl

pub without_first-none : (from : ℕ) (held : List Held) →
    HasNone from held → without_first from held ≡ held
without_first-none from [] none = refl
without_first-none from (request ∷ held) none =
    let rest = without_first-none from held none.1 in
    rw (is_sent_by-another from request none.0) (ap (λ rest. request ∷ rest) rest)

-- The first held request of a remote after another one came, and after one is gone.
use Rattle.std.proofs.Common.{arith, ◌≡◌, ◌≢◌, ◌∷◌, ◌++◌, [], ℕ, List, true, false, Some, refl, sym}
use Rattle.std.proofs.Common.{subst, ◌∙◌}
use Rattle.std.proofs.lemmas.Bool.Decides.{nat_tests}
use Rattle.std.proofs.lemmas.Option.{none-some, same_Some}
use Rattle.slot_reserve.specs.declared.held.Held.{Held}
use Rattle.slot_reserve.specs.Requests.{is_sent_by, first_of, without_first, HasNone}
use Rattle.slot_reserve.proofs.HeldOfRemote.{sent-by_it, is_sent_by-another}

pub first_of-sender : (from : ℕ) (held : List Held) (request : Held) →
    first_of from held ≡ Some request → request.from ≡ from
first_of-sender from [] request e = absurd (none-some _ e)
first_of-sender from (other ∷ held) request e =
    elim (is_sent_by from other) as (λ b. is_sent_by from other ≡ b → request.from ≡ from) [
      | true ↦ λ is.
          let same : other ≡ request = same_Some other request (rw is at e) in
          subst (λ one. one.from ≡ from) same (sent-by_it from other is)
      | false ↦ λ is. first_of-sender from held request (rw is at e)
    ] refl

pub first_of-push_other : (from : ℕ) (held : List Held) (request : Held) → request.from ≢ from →
    first_of from (held ++ request ∷ []) ≡ first_of from held
first_of-push_other from [] request apart = rw (is_sent_by-another from request apart) refl
first_of-push_other from (other ∷ held) request apart =
    rw (first_of-push_other from held request apart) refl

pub first_of-push_own : (held : List Held) (request : Held) → HasNone request.from held →
    first_of request.from (held ++ request ∷ []) ≡ Some request
first_of-push_own [] request none =
    let own : is_sent_by request.from request ≡ true = grind (arith, nat_tests) in rw own refl
first_of-push_own (other ∷ held) request none =
    rw (is_sent_by-another request.from other none.0) (first_of-push_own held request none.1)

abbrev StaysWithout : ℕ → ℕ → List Held → Type 0
StaysWithout from other held = first_of from (without_first other held) ≡ first_of from held

pub first_of-without_other : (from other : ℕ) (held : List Held) →
    from ≢ other → StaysWithout from other held
first_of-without_other from other [] apart = refl
first_of-without_other from other (request ∷ held) apart =
    elim (is_sent_by other request)
    as (λ b. is_sent_by other request ≡ b → StaysWithout from other (request ∷ held)) [
      | true ↦ λ is.
          let away : is_sent_by from request ≡ false =
          is_sent_by-another from request (λ own. apart (sym own ∙ sent-by_it other request is)) in
          rw (is, away) refl
      | false ↦ λ is. rw (is, first_of-without_other from other held apart) refl
    ] refl

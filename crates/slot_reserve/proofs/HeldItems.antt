-- What holds of each held request, and how many there are, after one came and after one is gone.
use Rattle.std.proofs.Common.{arith, ◌≡◌, ℕ, zero, suc, ◌+◌, ◌-◌, Bool, true, false, List}
use Rattle.std.proofs.Common.{[], ◌∷◌, ◌++◌, length, take, Some, refl, sym, ap, subst, ◌∙◌}
use Rattle.std.specs.List.{AllByRecursion, list_any}
use Rattle.std.proofs.lemmas.Bool.{or_left, or_right, or_parts}
use Rattle.std.proofs.lemmas.List.{length-append}
use Rattle.std.proofs.lemmas.List.Folds.{list_any-append}
use Rattle.std.proofs.lemmas.Option.{same_Some, none-some}
use Rattle.rv_base.proofs.Lists.{AllByRecursion-push}
use Rattle.slot_reserve.specs.declared.held.Held.{Held}
use Rattle.slot_reserve.specs.Requests.{is_sent_by, first_of, without_first, last_of, displaced}
use Rattle.slot_reserve.proofs.Displaced.{held-front}

-- ---- what holds of each

pub AllByRecursion-first_of : (P : Held → Type 0) (from : ℕ) (held : List Held) (request : Held)
    → AllByRecursion P held → first_of from held ≡ Some request → P request
AllByRecursion-first_of P from [] request each e = absurd (none-some _ e)
AllByRecursion-first_of P from (other ∷ held) request each e =
    elim (is_sent_by from other) as (λ b. is_sent_by from other ≡ b → P request) [
      | true ↦ λ is. subst P (same_Some other request (rw is at e)) each.0
      | false ↦ λ is. AllByRecursion-first_of P from held request each.1 (rw is at e)
    ] refl

abbrev StayWithout : (Held → Type 0) → ℕ → List Held → Type 0
StayWithout P from held = AllByRecursion P (without_first from held)

pub AllByRecursion-without : (P : Held → Type 0) (from : ℕ) (held : List Held)
    → AllByRecursion P held → StayWithout P from held
AllByRecursion-without P from [] each = tt
AllByRecursion-without P from (request ∷ held) each =
    elim (is_sent_by from request)
    as (λ b. is_sent_by from request ≡ b → StayWithout P from (request ∷ held)) [
      | true ↦ λ is. rw is each.1
      | false ↦ λ is. rw is (each.0, AllByRecursion-without P from held each.1)
    ] refl

AllByRecursion-take : (P : Held → Type 0) (count : ℕ) (held : List Held)
    → AllByRecursion P held → AllByRecursion P (take count held)
AllByRecursion-take P zero held each = tt
AllByRecursion-take P (suc count) [] each = tt
AllByRecursion-take P (suc count) (request ∷ held) each =
    (each.0, AllByRecursion-take P count held each.1)

pub AllByRecursion-displaced : (P : Held → Type 0) (held : List Held) (request : Held)
    → AllByRecursion P held → P request → AllByRecursion P (displaced held request)
AllByRecursion-displaced P held request each is =
    AllByRecursion-push P (take (length held - 1) held) request
    (AllByRecursion-take P (length held - 1) held each) is

-- ---- how many there are

abbrev IsOneLess : ℕ → List Held → Type 0
IsOneLess from held = length (without_first from held) + 1 ≡ length held

pub length-without_first : (from : ℕ) (held : List Held) (request : Held)
    → first_of from held ≡ Some request → IsOneLess from held
length-without_first from [] request e = absurd (none-some _ e)
length-without_first from (other ∷ held) request e =
    elim (is_sent_by from other)
    as (λ b. is_sent_by from other ≡ b → IsOneLess from (other ∷ held)) [
      | true ↦ λ is.
          let count : length held + 1 ≡ suc (length held) = omega arith in rw is count
      | false ↦ λ is.
          let rest : length (without_first from held) + 1 ≡ length held =
          length-without_first from held request (rw is at e) in
          let count : suc (length (without_first from held)) + 1 ≡ suc (length held) = omega
          arith in
          rw is count
    ] refl

pub length-push : (held : List Held) (request : Held)
    → length (held ++ request ∷ []) ≡ length held + 1
length-push held request = length-append held (request ∷ [])

pub length-displaced : (held : List Held) (last request : Held) → last_of held ≡ Some last
    → length (displaced held request) ≡ length held
length-displaced held last request e =
    let front = take (length held - 1) held in
    length-push front request ∙ sym (length-push front last)
    ∙ ap (λ (items : List Held). length items) (sym (held-front held last e))

-- ---- whether some passes a test

pub list_any-push_old : (test : Held → Bool) (held : List Held) (request : Held)
    → list_any test held ≡ true → list_any test (held ++ request ∷ []) ≡ true
list_any-push_old test held request some =
    list_any-append test held (request ∷ [])
    ∙ or_left (list_any test held) (list_any test (request ∷ [])) some

pub list_any-push_new : (test : Held → Bool) (held : List Held) (request : Held)
    → test request ≡ true → list_any test (held ++ request ∷ []) ≡ true
list_any-push_new test held request passes =
    list_any-append test held (request ∷ [])
    ∙ or_right (list_any test held) (list_any test (request ∷ []))
    (or_left (test request) false passes)

-- where none passes, the first of a remote doesn't
pub list_any-first_of : (test : Held → Bool) (from : ℕ) (held : List Held) (request : Held)
    → list_any test held ≡ false → first_of from held ≡ Some request → test request ≡ false
list_any-first_of test from [] request none e = absurd (none-some _ e)
list_any-first_of test from (other ∷ held) request none e =
    let both = or_parts (test other) (list_any test held) none in
    elim (is_sent_by from other) as (λ b. is_sent_by from other ≡ b → test request ≡ false) [
      | true ↦ λ is. subst (λ one. test one ≡ false) (same_Some other request (rw is at e)) both.0
      | false ↦ λ is. list_any-first_of test from held request both.1 (rw is at e)
    ] refl

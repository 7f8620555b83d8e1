-- The first request of a remote, found by its place and taken out there.
use Rattle.std.proofs.Common.{arith, ◌≡◌, ◌<◌, ◌∷◌, [], ℕ, List, true, false, Some, None, length}
use Rattle.std.proofs.Common.{one-add, ap, refl, sym, subst, ◌∙◌, nat_lt, inl, inr}
use Rattle.std.specs.List.{position, position_or_len, remove, slice_get}
use Rattle.std.proofs.lemmas.Bool.{cases_lt}
use Rattle.std.proofs.lemmas.Bool.Decides.{nat_tests}
use Rattle.std.proofs.lemmas.List.Folds.{find_at}
use Rattle.std.proofs.lemmas.Option.{cond_some, none-some, slice_get_past, slice_get-get_or}
use Rattle.slot_reserve.specs.declared.held.Held.{Held}
use Rattle.slot_reserve.specs.Requests.{is_sent_by, first_of, without_first, HasNone}
use Rattle.slot_reserve.proofs.HeldOfRemote.{first_of-none, has_none, without_first-none}

-- The first request of the remote stands at this place.
pub record IsFirstAt (from : ℕ) (held : List Held) (place : ℕ) : Type 0 where
  pub within : place < length held
  pub there : slice_get held place ≡ first_of from held
  pub rest : remove held place ≡ without_first from held

-- The remote has no request here, and there is nothing to take out.
pub record IsWithout (from : ℕ) (held : List Held) : Type 0 where
  pub nowhere : first_of from held ≡ None
  pub rest : without_first from held ≡ held
  pub has_none : HasNone from held

-- the place of the first request of the remote, or that behind the last request
abbrev first_place : ℕ → List Held → ℕ
first_place from held = position_or_len (is_sent_by from) held

abbrev RemovesFirst : ℕ → List Held → Type 0
RemovesFirst from held = remove held (first_place from held) ≡ without_first from held

remove-first : (from : ℕ) (held : List Held) →
    first_place from held < length held → RemovesFirst from held
remove-first from [] l = refl
remove-first from (request ∷ held) l =
    elim (is_sent_by from request)
    as (λ b. is_sent_by from request ≡ b → RemovesFirst from (request ∷ held)) [
      | true ↦ λ e. rw e refl
      | false ↦ λ e.
          let k : position_or_len (is_sent_by from) held < length held = omega (arith, rw e at l) in
          rw (e, one-add) (ap (λ rest. request ∷ rest) (remove-first from held k))
    ] refl

pub position-first : (from : ℕ) (held : List Held) (place : ℕ) →
    position (is_sent_by from) held ≡ Some place → IsFirstAt from held place
position-first from held place e =
    let at = position_or_len (is_sent_by from) held in
    let found = cond_some (nat_lt at (length held)) at place e in
    let within : position_or_len (is_sent_by from) held < length held =
    grind (arith, nat_tests, found.0) in
    subst (IsFirstAt from held) found.1 (record {
      within = within;
      there = sym (find_at (is_sent_by from) held);
      rest = remove-first from held within;
    })

pub position-none : (from : ℕ) (held : List Held) →
    position (is_sent_by from) held ≡ None → IsWithout from held
position-none from held e = elim (cases_lt (position_or_len (is_sent_by from) held) (length held)) [
  | inl l ↦
      let within : nat_lt (position_or_len (is_sent_by from) held) (length held) ≡ true =
      grind (arith, nat_tests) in
      absurd (none-some _ (sym (rw within at e)))
  | inr l ↦
      let at = position_or_len (is_sent_by from) held in
      let nowhere = find_at (is_sent_by from) held ∙ slice_get_past held at l in
      let none = has_none from held nowhere in
      record { nowhere = nowhere; rest = without_first-none from held none; has_none = none }
]

pub first-has_one : (from : ℕ) (held : List Held) (place : ℕ) (d : Held) →
    IsFirstAt from held place → HasNone from held → ⊥
first-has_one from held place d first none =
    none-some _ (sym (first_of-none from held none) ∙ sym first.there
    ∙ slice_get-get_or held place d first.within)

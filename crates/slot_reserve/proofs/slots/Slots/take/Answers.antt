-- A request is taken from its place, or there is none.
use Rattle.std.proofs.Common.{◌≡◌, Some, None, length, ap, refl, sym, subst, ◌∙◌}
use Rattle.std.specs.List.{position}
use Rattle.std.proofs.lemmas.Option.{slice_get_read}
use Rattle.slot_reserve.specs.Requests.{is_sent_by, first_of}
use Rattle.slot_reserve.proofs.FirstRequest.{IsFirstAt, IsWithout, position-first, position-none}
use Rattle.slot_reserve.proofs.FirstRequest.{first-has_one}
use Rattle.slot_reserve.proofs.slots.Slots.take.Goals as goal

without : (c : goal.After-from_residual) → IsWithout c.args.from c.args.self.now.held
without c = position-none c.args.from c.args.self.now.held
    (sym (subst (λ held. None ≡ position (is_sent_by c.args.from) held)
    (c.deref.ensures.value ∙ ap (λ s. s.held) c.self.view_is) c.in_err-place.ensures))

first : (c : goal.After-remove) → IsFirstAt c.args.from c.self.inside.requests.items
    c.in_ok-place.place
first c = position-first c.args.from c.self.inside.requests.items c.in_ok-place.place
    (sym (subst (λ held. Some c.in_ok-place.place ≡ position (is_sent_by c.args.from) held)
    c.deref.ensures.value c.in_ok-place.ensures))

pub returns-in_err-place-clause-value : goal.returns-in_err-place-clause-value
returns-in_err-place-clause-value c = c.from_residual.ensures ∙ sym (without c).nowhere

pub returns-in_err-place-clause-rest : goal.returns-in_err-place-clause-rest
returns-in_err-place-clause-rest c = rw (without c).rest refl

pub returns-in_err-place-clause-none : goal.returns-in_err-place-clause-none
returns-in_err-place-clause-none c
    = (λ _. (without c).has_none, λ _. rw c.from_residual.ensures refl)

pub returns-clause-value : goal.returns-clause-value
returns-clause-value c =
    let held = c.self.inside.requests.items in
    sym (slice_get_read held (length held) c.in_ok-place.place c.remove.result refl (first c).within
    c.remove.ensures.value)
    ∙ (first c).there ∙ ap (λ s. first_of c.args.from s.held) c.self.view_is

pub returns-clause-rest : goal.returns-clause-rest
returns-clause-rest c = rw (← c.self.view_is, c.remove.ensures.items, (first c).rest) refl

pub returns-clause-none : goal.returns-clause-none
returns-clause-none c =
    let first = subst (λ held. IsFirstAt c.args.from held c.in_ok-place.place)
    (ap (λ s. s.held) c.self.view_is) (first c) in (
      λ none. absurd (cc),
      λ none. absurd
          (first-has_one c.args.from c.args.self.now.held c.in_ok-place.place c.remove.result first
          none),
    )

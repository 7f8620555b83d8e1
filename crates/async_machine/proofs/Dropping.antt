-- Whether there is reason to drop a request is asked of bare guards as well.
use Rattle.std.proofs.Common.{◌≡◌, ℕ, List, map, refl, ap, ◌∙◌}
use Rattle.proto_model.specs.Guards.{guards_of, bare_rule, bare_body}
use Rattle.proto_model.specs.declared.numbered.Rule.{Rule}
use Rattle.proto_model.specs.declared.numbered.Body.{Body}
use Rattle.proto_model.proofs.Bare.{list_any-bare, guards_of-bare}
use Rattle.slot_reserve.specs.declared.held.Held.{Held}
use Rattle.async_shape.specs.HomeSteps.{is_open_output, has_target, may_drop}
use Rattle.async_shape.specs.Requests.{is_target_of}
use Rattle.async_shape.specs.Setting.{Setting}
use Rattle.async_shape.specs.declared.config.HomeState.{HomeState}

-- There is reason by these bare guards of a state exactly where there is by the guards.
pub may_drop-bare : (setting : Setting) (n : ℕ) (home : HomeState) (held : List Held) (j : ℕ)
    (body bare : Body) (s : ℕ) (rules : List Rule) → bare ≡ bare_body body
    → rules ≡ guards_of bare s
    → may_drop setting n home held j rules ≡ may_drop setting n home held j (guards_of body s)
may_drop-bare setting n home held j body bare s rules is_bare are =
    let found : rules ≡ map bare_rule (guards_of body s) =
    are ∙ ap (λ (b : Body). guards_of b s) is_bare ∙ guards_of-bare body s in
    let some = list_any-bare (is_open_output home.vars (has_target n home.vars)) (λ rule. refl)
    (guards_of body s) in
    let his = list_any-bare (is_open_output home.vars (λ rule. is_target_of n home.vars rule j))
    (λ rule. refl) (guards_of body s) in
    ap (may_drop setting n home held j) found ∙ rw (some, his) refl

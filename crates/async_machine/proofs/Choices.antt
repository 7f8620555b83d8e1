-- A guard that is chosen among bare guards is chosen among the guards themselves.
use Rattle.std.proofs.Common.{◌≡◌, ℕ, ◌+◌, Bool, true, false, ◌||◌, cond, List, [], ◌∷◌, map}
use Rattle.std.proofs.Common.{Option, Some, None, is_some, slice_get, refl, sym, ap, subst, ◌∙◌}
use Rattle.std.proofs.Common.{arith}
use Rattle.std.specs.List.{position, position_from, list_any}
use Rattle.std.proofs.lemmas.Iterator.Adapters.{position_from-zero}
use Rattle.std.specs.Option.{option_map, option_and_then}
use Rattle.rv_base.proofs.Lists.{position_from-passes}
use Rattle.proto_model.specs.Guards.{guards_of, guard_at, bare_rule, bare_body}
use Rattle.proto_model.specs.declared.numbered.Rule.{Rule}
use Rattle.proto_model.specs.declared.numbered.Body.{Body}
use Rattle.proto_model.proofs.Bare.{SeesNoNext, position_from-bare, list_any-bare, guards_of-bare}
use Rattle.proto_model.specs.RendezvousNext.{accepts}
use Rattle.controller_table.specs.declared.rows.Place.TheVariants.{Comm}
use Rattle.async_shape.specs.Guards.{Chosen, chosen_at, first_that, answering_guard}
use Rattle.async_shape.specs.declared.config.RemoteState.{RemoteState}
use Rattle.async_shape.specs.declared.config.Request.{Request}
use Rattle.async_shape.proofs.GuardsFound.{guards_of-at}

-- the guard with this number, with its number
abbrev pub numbered : ℕ → Rule → Chosen
numbered number rule = record { number = number; rule = rule }

-- Of the guards of a state, the first one that passes a test has the number of the first one among
-- these bare ones.
pub first-by_number : (test : Rule → Bool) → SeesNoNext test → (body bare : Body) (s : ℕ)
    (rules : List Rule) (number : Option ℕ) → bare ≡ bare_body body → rules ≡ guards_of bare s
    → number ≡ position test rules
    → first_that test (guards_of body s)
    ≡ option_and_then (λ i. option_map (numbered i) (guard_at body s i)) number
first-by_number test same body bare s rules number is_bare are is =
    let found : rules ≡ map bare_rule (guards_of body s) =
    are ∙ ap (λ (b : Body). guards_of b s) is_bare ∙ guards_of-bare body s in
    let there : position_from test 0 (guards_of body s) ≡ number =
    sym (is ∙ position_from-zero test rules ∙ ap (position_from test 0) found
    ∙ position_from-bare test same 0 (guards_of body s)) in
    ap (option_and_then (chosen_at (guards_of body s))) there ∙ by number
  where
    by : (o : Option ℕ) → option_and_then (chosen_at (guards_of body s)) o
        ≡ option_and_then (λ i. option_map (numbered i) (guard_at body s i)) o
    by None = refl
    by (Some i) = ap (option_map (numbered i)) (guards_of-at body s i)

-- a place is found where the first passes or a later one is found
some-or : (b : Bool) (first : ℕ) (rest : Option ℕ)
    → is_some (cond b (Some first) rest) ≡ (b || is_some rest)
some-or true first rest = refl
some-or false first rest = refl

-- some item has the place of the first one that passes, exactly where one passes
position-any : (test : Rule → Bool) (n : ℕ) (rules : List Rule)
    → is_some (position_from test n rules) ≡ list_any test rules
position-any test n [] = refl
position-any test n (rule ∷ rules) =
    some-or (test rule) n (position_from test (n + 1) rules)
    ∙ ap (λ (b : Bool). test rule || b) (position-any test (n + 1) rules)

-- Some guard is chosen exactly where some guard passes.
pub first-any : (test : Rule → Bool) (rules : List Rule)
    → is_some (first_that test rules) ≡ list_any test rules
first-any test rules = by (position_from test 0 rules) refl ∙ position-any test 0 rules
  where
    by : (o : Option ℕ) → position_from test 0 rules ≡ o
        → is_some (option_and_then (chosen_at rules) (position_from test 0 rules))
        ≡ is_some (position_from test 0 rules)
    by None is = rw is refl
    by (Some i) is =
        let passes = position_from-passes test 0 rules i is in
        let same : passes.0 ≡ i = omega (arith, passes.2) in
        let there : slice_get rules i ≡ Some passes.1 =
        subst (λ n. slice_get rules n ≡ Some passes.1) same passes.3 in
        rw (is, there) refl

-- Some guard of a state is chosen exactly where one of these bare ones passes.
pub first-bare_any : (test : Rule → Bool) → SeesNoNext test → (body bare : Body) (s : ℕ)
    (rules : List Rule) → bare ≡ bare_body body → rules ≡ guards_of bare s
    → list_any test rules ≡ is_some (first_that test (guards_of body s))
first-bare_any test same body bare s rules is_bare are =
    ap (list_any test) (are ∙ ap (λ (b : Body). guards_of b s) is_bare ∙ guards_of-bare body s)
    ∙ list_any-bare test same (guards_of body s) ∙ sym (first-any test (guards_of body s))

-- Of an idle remote with a request in its slot, the guard that answers it is the first one that
-- accepts its message.
pub answering-first : (body : Body) (remote : RemoteState) (state : ℕ) (request : Request)
    → remote.place ≡ Comm state → remote.slot ≡ Some request
    → answering_guard body remote
    ≡ first_that (λ rule. accepts remote.vars rule request.message) (guards_of body state)
answering-first body remote state request place slot = rw (place, slot) refl

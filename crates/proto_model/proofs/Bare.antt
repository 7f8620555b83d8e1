-- What is asked of a guard doesn't look at where it goes: the answers over bare guards, whose
-- `next` is 0, are those over the guards themselves. Openness, targets, what is given and what the
-- variables are afterwards are asked of the other fields alone, so they are the same by
-- computation.
use Rattle.std.proofs.Common.{◌≡◌, ℕ, ◌+◌, Bool, ◌||◌, cond, List, [], ◌∷◌, map}
use Rattle.std.proofs.Common.{Option, Some, None, refl, ap, ◌∙◌}
use Rattle.std.specs.Prelude.{slice_get}
use Rattle.std.specs.Option.{option_map, option_map_or, option_and_then}
use Rattle.std.specs.List.{position_from, list_any}
use Rattle.std.proofs.lemmas.Option.{slice_get-map}
use Rattle.proto_model.specs.Guards.{guards_of, guard_at, only_of, after_guard, bare_rule}
use Rattle.proto_model.specs.Guards.{bare_state, bare_body}
use Rattle.proto_model.specs.Values.{is_open, may_meet, completed}
use Rattle.proto_model.specs.RendezvousNext.{given, accepts}
use Rattle.proto_model.specs.declared.numbered.Value.{Value}
use Rattle.proto_model.specs.declared.numbered.VarInfo.{VarInfo}
use Rattle.proto_model.specs.declared.numbered.MessageInfo.{MessageInfo}
use Rattle.proto_model.specs.declared.numbered.Rule.{Rule}
use Rattle.proto_model.specs.declared.numbered.StateInfo.{StateInfo}
use Rattle.proto_model.specs.declared.numbered.Body.{Body}

-- ---- of one guard

pub is_open-bare : (vars : List Value) (rule : Rule)
    → is_open vars (bare_rule rule) ≡ is_open vars rule
is_open-bare vars rule = refl

pub accepts-bare : (vars : List Value) (rule : Rule) (m : ℕ)
    → accepts vars (bare_rule rule) m ≡ accepts vars rule m
accepts-bare vars rule m = refl

pub may_meet-bare : (vars : List Value) (rule : Rule) (j : ℕ)
    → may_meet vars (bare_rule rule).kind j ≡ may_meet vars rule.kind j
may_meet-bare vars rule j = refl

pub given-bare : (messages : List MessageInfo) (vars : List Value) (rule : Rule)
    → given messages vars (bare_rule rule).kind ≡ given messages vars rule.kind
given-bare messages vars rule = refl

pub completed-bare : (infos : List VarInfo) (vars : List Value) (rule : Rule) (j : ℕ) (v : Value)
    → completed infos vars (bare_rule rule) j v ≡ completed infos vars rule j v
completed-bare infos vars rule j v = refl

-- The process after a guard whose next state is named.
pub after_guard-bare : (body : Body) (vars : List Value) (rule : Rule) (next j : ℕ) (v : Value)
    → after_guard (bare_body body) vars (bare_rule rule) next j v
    ≡ after_guard body vars rule next j v
after_guard-bare body vars rule next j v = refl

-- ---- of the guards of a state

-- the only guard of a state
pub only_of-bare : (rules : List Rule)
    → only_of (map bare_rule rules) ≡ option_map bare_rule (only_of rules)
only_of-bare [] = refl
only_of-bare (rule ∷ []) = refl
only_of-bare (rule ∷ other ∷ rules) = refl

-- a test of a guard that doesn't look at where it goes
abbrev pub SeesNoNext : (Rule → Bool) → Type 0
SeesNoNext test = (rule : Rule) → test (bare_rule rule) ≡ test rule

module _ (test : Rule → Bool) (same : SeesNoNext test) where
  -- the number of the first guard that passes, as of the one that takes or answers a request
  pub position_from-bare : (n : ℕ) (rules : List Rule)
      → position_from test n (map bare_rule rules) ≡ position_from test n rules
  position_from-bare n [] = refl
  position_from-bare n (rule ∷ rules) =
      ap (λ (rest : Option ℕ). cond (test (bare_rule rule)) (Some n) rest)
      (position_from-bare (n + 1) rules)
      ∙ ap (λ (b : Bool). cond b (Some n) (position_from test (n + 1) rules)) (same rule)

  -- some guard passes
  pub list_any-bare : (rules : List Rule)
      → list_any test (map bare_rule rules) ≡ list_any test rules
  list_any-bare [] = refl
  list_any-bare (rule ∷ rules) =
      ap (λ (b : Bool). b || list_any test (map bare_rule rules)) (same rule)
      ∙ ap (λ (b : Bool). test rule || b) (list_any-bare rules)

-- ---- of a body

state_rules-bare : (o : Option StateInfo)
    → option_map_or (λ s. s.rules) (option_map bare_state o) []
    ≡ map bare_rule (option_map_or (λ s. s.rules) o [])
state_rules-bare None = refl
state_rules-bare (Some state) = refl

pub guards_of-bare : (body : Body) (state : ℕ)
    → guards_of (bare_body body) state ≡ map bare_rule (guards_of body state)
guards_of-bare body state =
    ap (λ (o : Option StateInfo). option_map_or (λ s. s.rules) o [])
    (slice_get-map bare_state body.states state)
    ∙ state_rules-bare (slice_get body.states state)

state_rule-bare : (g : ℕ) (o : Option StateInfo)
    → option_and_then (λ s. slice_get s.rules g) (option_map bare_state o)
    ≡ option_map bare_rule (option_and_then (λ s. slice_get s.rules g) o)
state_rule-bare g None = refl
state_rule-bare g (Some state) = slice_get-map bare_rule state.rules g

pub guard_at-bare : (body : Body) (state g : ℕ)
    → guard_at (bare_body body) state g ≡ option_map bare_rule (guard_at body state g)
guard_at-bare body state g =
    ap (option_and_then (λ s. slice_get s.rules g)) (slice_get-map bare_state body.states state)
    ∙ state_rule-bare g (slice_get body.states state)

-- what is bare stays so
rules_bare-bare : (rules : List Rule) → map bare_rule (map bare_rule rules) ≡ map bare_rule rules
rules_bare-bare [] = refl
rules_bare-bare (rule ∷ rules) =
    ap (λ (rest : List Rule). bare_rule rule ∷ rest) (rules_bare-bare rules)

states_bare-bare : (states : List StateInfo)
    → map bare_state (map bare_state states) ≡ map bare_state states
states_bare-bare [] = refl
states_bare-bare (state ∷ states) =
    ap
    (λ (rules : List Rule). record { name = state.name; rules = rules } ∷ map bare_state
    (map bare_state states))
    (rules_bare-bare state.rules)
    ∙ ap (λ (rest : List StateInfo). bare_state state ∷ rest) (states_bare-bare states)

pub bare_body-bare : (body : Body) → bare_body (bare_body body) ≡ bare_body body
bare_body-bare body =
    ap
    (λ (states : List StateInfo). record { vars = body.vars; start = body.start; states = states })
    (states_bare-bare body.states)

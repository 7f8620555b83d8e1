-- The guards of a process, and where it stands after it has completed one. A guard is found by its
-- state and its number there, both counted from 0.
use Rattle.std.specs.Prelude.{ℕ, List, [], ◌∷◌, Option, Some, None, slice_get, map}
use Rattle.std.specs.Option.{option_map_or, option_and_then}
use Rattle.proto_model.specs.Values.{completed}
use Rattle.proto_model.specs.declared.numbered.Value.{Value}
use Rattle.proto_model.specs.declared.numbered.Rule.{Rule}
use Rattle.proto_model.specs.declared.numbered.StateInfo.{StateInfo}
use Rattle.proto_model.specs.declared.numbered.Body.{Body}
use Rattle.proto_model.specs.declared.rendezvous.Part.{Part}

-- a process that stands in this state with these variables
abbrev pub part : ℕ → List Value → Part
part state vars = record { state = state; vars = vars }

-- the guards of the state at this place; none past the last state
abbrev pub guards_of : Body → ℕ → List Rule
guards_of body state = option_map_or (λ s. s.rules) (slice_get body.states state) []

-- the guard with this number in this state; none where a number is out of range
abbrev pub guard_at : Body → ℕ → ℕ → Option Rule
guard_at body state g = option_and_then (λ s. slice_get s.rules g) (slice_get body.states state)

-- the only guard of a state; none where it has no guard, or more than one
abbrev pub only_of : List Rule → Option Rule
only_of [] = None
only_of (rule ∷ []) = Some rule
only_of (rule ∷ other ∷ rules) = None

-- the only guard of the state to which the guard goes
abbrev pub only_next : Body → Rule → Option Rule
only_next body rule = only_of (guards_of body rule.next)

-- The process after it has completed a guard with this partner and this value: it stands in the
-- guard's next state, which is named beside the guard, since a table tells it by its rows.
abbrev pub after_guard : Body → List Value → Rule → (next partner : ℕ) → Value → Part
after_guard body vars rule next partner v =
    part next (completed body.vars vars rule partner v)

-- ---- guards of which it isn't said where they go

-- the guard with `next` 0, as it stands in a table, whose rows tell where it goes
abbrev pub bare_rule : Rule → Rule
bare_rule rule = record { kind = rule.kind; conds = rule.conds; assigns = rule.assigns; next = 0 }

-- the state with its guards bare
abbrev pub bare_state : StateInfo → StateInfo
bare_state info = record { name = info.name; rules = map bare_rule info.rules }

-- the body of bare guards
abbrev pub bare_body : Body → Body
bare_body body = record {
  vars = body.vars;
  start = body.start;
  states = map bare_state body.states;
}

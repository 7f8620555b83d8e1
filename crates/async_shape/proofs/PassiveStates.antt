-- A state of a remote in which no output is found is passive: none of its guards is one.
use Rattle.std.proofs.Common.{◌≡◌, ℕ, zero, suc, ◌<◌, false, List, [], ◌∷◌, length}
use Rattle.std.proofs.Common.{Option, Some, None, slice_get, refl, sym, ap, ◌∙◌, arith}
use Rattle.std.specs.Option.{option_map_or}
use Rattle.proto_model.specs.Proper.{is_output_kind}
use Rattle.proto_model.specs.Guards.{guards_of}
use Rattle.proto_model.specs.declared.numbered.StateInfo.{StateInfo}
use Rattle.proto_model.specs.declared.numbered.Body.{Body}
use Rattle.controller_table.specs.Rows.{is_active}
use Rattle.async_shape.specs.Guards.{active_guard}
use Rattle.async_shape.proofs.GuardsFound.{first_that-none}

-- at a place within a list there is an item
item-there : {X : Type 0} (xs : List X) (i : ℕ) → i < length xs
    → (x : X) × (slice_get xs i ≡ Some x)
item-there [] i within = absurd (omega arith)
item-there (x ∷ xs) zero within = (x, refl)
item-there (x ∷ xs) (suc i) within = item-there xs i (omega arith)

-- The state is there, and it is passive.
pub record IsPassiveState (body : Body) (state : ℕ) : Type 0 where
  pub info : StateInfo
  pub there : slice_get body.states state ≡ Some info
  pub passive : is_active info ≡ false

-- a state that is there, and in which no output is found, is passive
pub passive-state : (body : Body) (state : ℕ) → state < length body.states
    → active_guard (guards_of body state) ≡ None → IsPassiveState body state
passive-state body state within none =
    let at = item-there body.states state within in
    let guards : guards_of body state ≡ at.0.rules =
    ap (λ (o : Option StateInfo). option_map_or (λ i. i.rules) o []) at.1 in
    record {
      info = at.0;
      there = at.1;
      passive = first_that-none (λ rule. is_output_kind rule.kind) at.0.rules
          (ap active_guard (sym guards) ∙ none);
    }

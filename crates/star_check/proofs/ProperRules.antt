-- A guard without codes gives a proper rule, and a state without codes a proper state.
use Rattle.std.proofs.Common.{◌≡◌, ℕ, ◌<◌, Bool, true, false, not, List, [], ◌∷◌, ◌++◌, map, length}
use Rattle.std.proofs.Common.{refl, ◌∙◌, arith}
use Rattle.std.specs.Prelude.{◌≤◌, nat_le, nat_lt}
use Rattle.std.specs.List.{list_all, list_any, AllByRecursion}
use Rattle.std.proofs.lemmas.Bool.{and_parts, or_parts, not-false}
use Rattle.std.proofs.lemmas.List.{length-map}
use Rattle.proto_model.specs.Tokens.{Text}
use Rattle.proto_model.specs.Names.{is_declared, state_names}
use Rattle.proto_model.specs.Known.{knows_expr, knows_var, knows_atom, knows_assign, knows_action}
use Rattle.proto_model.specs.Known.{knows_guard}
use Rattle.proto_model.specs.Agreement.{atom_agrees, assign_agrees, action_agrees, guard_agrees}
use Rattle.proto_model.specs.Agreement.{is_directed}
use Rattle.proto_model.specs.Faults.{too_many, name_too_long, name_codes, wrong_type}
use Rattle.proto_model.specs.Faults.{wrong_direction, not_star, active_condition, bad_number, Scope}
use Rattle.proto_model.specs.Faults.{guard_codes, meaning_codes, is_guard_too_many, is_star}
use Rattle.proto_model.specs.Faults.{is_conditioned_output, is_large_guard, is_large_expr}
use Rattle.proto_model.specs.Faults.{is_large_atom, is_large_assign, is_large_action}
use Rattle.proto_model.specs.Faults.{declaration_codes}
use Rattle.proto_model.specs.Numbered.{numbered_atom, numbered_assign, numbered_guard}
use Rattle.proto_model.specs.Numbered.{numbered_state, numbered_message}
use Rattle.proto_model.specs.Proper.{IsShortName, IsSmallRule, IsProperAtom, IsProperAssign}
use Rattle.proto_model.specs.Proper.{IsProperRule}
use Rattle.proto_model.specs.declared.protocol.Var.{Var}
use Rattle.proto_model.specs.declared.guard.Atom.{Atom}
use Rattle.proto_model.specs.declared.guard.Assign.{Assign}
use Rattle.proto_model.specs.declared.guard.Guard.{Guard}
use Rattle.star_check.proofs.Clean.{test_fails, last_test_fails, parts_empty}
use Rattle.star_check.proofs.SameTypes.{infos, atom_same, assign_same, action_same, directed_same}
use Rattle.star_check.proofs.SameTypes.{star_same}
use Rattle.star_check.proofs.InRange.{place_in_range, var_in_range, expr_in_range, action_in_range}

pub below : (most place : ℕ) → nat_le most place ≡ false → place < most
below most place e = grind arith

pub declaration_below : (most : ℕ) (names : List Text) (place : ℕ) (name : Text) (more : List ℕ)
    → declaration_codes most names place name ++ more ≡ [] → place < most
declaration_below most names place name more e =
    let own = parts_empty (declaration_codes most names place name) more e in
    below most place (test_fails (nat_le most place) too_many _ own.0).0

-- a declared name without its code is short
pub short_name : (name : Text) → name_codes name ≡ [] → IsShortName name
short_name name e = within (last_test_fails (nat_lt 32 (length name)) name_too_long e)
  where
    within : nat_lt 32 (length name) ≡ false → length name ≤ 32
    within f = grind arith

pub short_declared : (most : ℕ) (names : List Text) (place : ℕ) (name : Text) (more : List ℕ)
    → declaration_codes most names place name ++ more ≡ [] → IsShortName name
short_declared most names place name more e =
    let own = parts_empty (declaration_codes most names place name) more e in
    let rest = test_fails (nat_le most place) too_many _ own.0 in
    short_name name (parts_empty (name_codes name) _ rest.1).0

-- a guard that is not too much has few conditions and few assignments
at_most : (most n : ℕ) → nat_lt most n ≡ false → n ≤ most
at_most most n e = grind arith

pub small_rule : (s : Scope) (place : ℕ) (g : Guard) → is_guard_too_many place g ≡ false
    → IsSmallRule (numbered_guard s.messages s.vars s.states g)
small_rule s place g e =
    let parts = or_parts (nat_le 16 place) _ e in
    let counts = or_parts (nat_lt 8 (length g.conds)) (nat_lt 8 (length g.assigns)) parts.1 in
    record {
      few_conds = rw (length-map g.conds (numbered_atom s.vars))
          (at_most 8 (length g.conds) counts.0);
      few_assigns = rw (length-map g.assigns (numbered_assign s.vars))
          (at_most 8 (length g.assigns) counts.1);
    }

-- what its codes say of a guard that has none
pub record IsClean (s : Scope) (place : ℕ) (g : Guard) : Type 0 where
  pub few : is_guard_too_many place g ≡ false
  pub known : knows_guard s.side s.messages s.vars s.states g ≡ true
  pub agrees : guard_agrees s.side s.messages s.vars g ≡ true
  pub directed : is_directed s.side s.messages g.kind ≡ true
  pub star : is_star s.side g.kind ≡ true
  pub unconditioned : is_conditioned_output s.side g ≡ false
  pub fits : is_large_guard g ≡ false

meaning_parts : (known : Bool) (s : Scope) (g : Guard) (more : List ℕ)
    → meaning_codes known s g ++ more ≡ []
    → (known ≡ true) × (guard_agrees s.side s.messages s.vars g ≡ true)
    × (is_directed s.side s.messages g.kind ≡ true) × (more ≡ [])
meaning_parts false s g more e = absurd (cc)
meaning_parts true s g more e =
    let own = parts_empty (meaning_codes true s g) more e in
    let types = test_fails (not (guard_agrees s.side s.messages s.vars g)) wrong_type _ own.0 in
    let way : not (is_directed s.side s.messages g.kind) ≡ false =
    last_test_fails (not (is_directed s.side s.messages g.kind)) wrong_direction types.1 in (
      refl,
      not-false (guard_agrees s.side s.messages s.vars g) types.0,
      not-false
          (is_directed s.side s.messages g.kind) way,
      own.1,
    )

pub guard_clean : (s : Scope) (place : ℕ) (g : Guard) → guard_codes s place g ≡ []
    → IsClean s place g
guard_clean s place g e =
    let first = test_fails (is_guard_too_many place g) too_many _ e in
    let meaning = meaning_parts (knows_guard s.side s.messages s.vars s.states g) s g _ first.1 in
    let star = test_fails (not (is_star s.side g.kind)) not_star _ meaning.3 in
    let condition = test_fails (is_conditioned_output s.side g) active_condition _ star.1 in
    record {
      few = first.0;
      known = meaning.0;
      agrees = meaning.1;
      directed = meaning.2;
      star = not-false (is_star s.side g.kind) star.0;
      unconditioned = condition.0;
      fits = last_test_fails (is_large_guard g) bad_number condition.1;
    }

proper_atoms : (vars : List Var) (atoms : List Atom) → list_all (knows_atom vars) atoms ≡ true
    → list_all (atom_agrees vars) atoms ≡ true → list_any is_large_atom atoms ≡ false
    → AllByRecursion (IsProperAtom (infos vars)) (map (numbered_atom vars) atoms)
proper_atoms vars [] known agrees fits = tt
proper_atoms vars (a ∷ atoms) known agrees fits =
    let k = and_parts (knows_atom vars a) (list_all (knows_atom vars) atoms) known in
    let t = and_parts (atom_agrees vars a) (list_all (atom_agrees vars) atoms) agrees in
    let n = or_parts (is_large_atom a) (list_any is_large_atom atoms) fits in
    let sides = and_parts (knows_expr vars a.left) (knows_expr vars a.right) k.0 in
    let numbers = or_parts (is_large_expr a.left) (is_large_expr a.right) n.0 in
    let here : IsProperAtom (infos vars) (numbered_atom vars a) = record {
      left = expr_in_range vars a.left sides.0 numbers.0;
      right = expr_in_range vars a.right sides.1 numbers.1;
      types = atom_same vars a k.0 ∙ t.0;
    } in
    (here, proper_atoms vars atoms k.1 t.1 n.1)

proper_assigns : (vars : List Var) (assigns : List Assign)
    → list_all (knows_assign vars) assigns ≡ true → list_all (assign_agrees vars) assigns ≡ true
    → list_any is_large_assign assigns ≡ false
    → AllByRecursion (IsProperAssign (infos vars)) (map (numbered_assign vars) assigns)
proper_assigns vars [] known agrees fits = tt
proper_assigns vars (a ∷ assigns) known agrees fits =
    let k = and_parts (knows_assign vars a) (list_all (knows_assign vars) assigns) known in
    let t = and_parts (assign_agrees vars a) (list_all (assign_agrees vars) assigns) agrees in
    let n = or_parts (is_large_assign a) (list_any is_large_assign assigns) fits in
    let sides = and_parts (knows_var vars a.var) (knows_expr vars a.value) k.0 in
    let here : IsProperAssign (infos vars) (numbered_assign vars a) = record {
      var = var_in_range vars a.var sides.0;
      value = expr_in_range vars a.value sides.1 n.0;
      types = assign_same vars a k.0 ∙ t.0;
    } in
    (here, proper_assigns vars assigns k.1 t.1 n.1)

pub proper_rule : (s : Scope) (place : ℕ) (g : Guard) → IsClean s place g
    → IsProperRule s.side (map numbered_message s.messages) (infos s.vars)
    (length (map (numbered_state s.messages s.vars s.states) s.states))
    (numbered_guard s.messages s.vars s.states g)
proper_rule s place g clean =
    let a = and_parts (knows_action s.vars s.side s.messages g.kind) _ clean.known in
    let b = and_parts (list_all (knows_atom s.vars) g.conds) _ a.1 in
    let c =
    and_parts (list_all (knows_assign s.vars) g.assigns)
    (is_declared g.next (state_names s.states)) b.1 in
    let t = and_parts (action_agrees s.vars s.side s.messages g.kind) _ clean.agrees in
    let u =
    and_parts (list_all (atom_agrees s.vars) g.conds)
    (list_all (assign_agrees s.vars) g.assigns) t.1 in
    let n = or_parts (is_large_action g.kind) _ clean.fits in
    let m = or_parts (list_any is_large_atom g.conds) (list_any is_large_assign g.assigns) n.1 in
    record {
      action = record {
        in_range = action_in_range s.vars s.messages s.side g.kind a.0 clean.star n.0;
        types = action_same s.messages s.vars s.side g.kind a.0 ∙ t.0;
        direction = directed_same s.messages s.vars s.side g.kind a.0 ∙ clean.directed;
        star = star_same s.messages s.vars s.side g.kind ∙ clean.star;
      };
      conds = proper_atoms s.vars g.conds b.0 u.0 m.0;
      assigns = proper_assigns s.vars g.assigns c.0 u.1 m.1;
      next = place_in_range (λ t. t.name)
          (numbered_state s.messages s.vars s.states) s.states g.next c.1;
    }

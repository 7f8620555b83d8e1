-- The places and numbers of a process without codes fit their types.
use Rattle.std.proofs.Common.{◌≡◌, ℕ, suc, ◌+◌, ◌≤◌, Bool, true, false, not, ◌||◌, List, [], ◌∷◌}
use Rattle.std.proofs.Common.{length, refl, ap, ◌∙◌, arith, Some}
use Rattle.std.specs.Prelude.{nat_lt, slice_get}
use Rattle.std.specs.List.{list_any}
use Rattle.std.proofs.lemmas.Bool.{or_parts, not-false}
use Rattle.proto_model.specs.Names.{var_names}
use Rattle.proto_model.specs.Faults.{Scope, scope_of, wrong_type, bad_number, guard_codes}
use Rattle.proto_model.specs.Faults.{declaration_codes, var_codes, is_bad_kind, is_past_bound}
use Rattle.proto_model.specs.Faults.{is_first_of, is_large_guard}
use Rattle.proto_model.specs.declared.protocol.Message.{Message}
use Rattle.proto_model.specs.declared.protocol.VarKind.{VarKind}
use Rattle.proto_model.specs.declared.protocol.VarKind.TheVariants as kind
use Rattle.proto_model.specs.declared.protocol.Initial.{Initial}
use Rattle.proto_model.specs.declared.protocol.Initial.TheVariants as initial
use Rattle.proto_model.specs.declared.protocol.Var.{Var}
use Rattle.proto_model.specs.declared.protocol.State.{State}
use Rattle.proto_model.specs.declared.protocol.Process.{Process}
use Rattle.proto_model.specs.declared.numbered.Side.{Side}
use Rattle.star_check.specs.declared.scope.Scope as code
use Rattle.star_check.specs.Scopes.{is_large_initial, IsSmallScope, IsScopeOf, IsNumberable}
use Rattle.star_check.proofs.Clean.{CleanState, codes_at, test_fails, last_test_fails, parts_empty}
use Rattle.star_check.proofs.ProperRules.{guard_clean}
use Rattle.star_check.proofs.ProperBodies.{CleanProcess, bound, var_at, clean_state_at, few_vars}
use Rattle.star_check.proofs.ProperBodies.{few_states}

pub none_of : {A : Type 0} (test : A → Bool) (xs : List A)
    → ((k : ℕ) (x : A) → slice_get xs k ≡ Some x → test x ≡ false) → list_any test xs ≡ false
none_of test [] fails = refl
none_of test (x ∷ xs) fails =
    ap (λ b. b || list_any test xs) (fails 0 x refl) ∙ none_of test xs (λ k y e. fails (suc k) y e)

-- a first number is below a bound of at most 65,536
small_first : (k : VarKind) (i : Initial) → is_first_of k i ≡ true → is_bad_kind k ≡ false
    → is_past_bound k i ≡ false → is_large_initial i ≡ false
small_first k initial.Nowhere own good past = refl
small_first k initial.Empty own good past = refl
small_first kind.Node (initial.Number v) own good past = absurd (cc)
small_first kind.Set (initial.Number v) own good past = absurd (cc)
small_first (kind.Int n) (initial.Number v) own good past = within (bound n good).1
  where
    within : n ≤ 65536 → nat_lt 65535 v ≡ false
    within high = grind arith

small_var : (vars : List Var) (place : ℕ) (v : Var) → var_codes vars place v ≡ []
    → is_large_initial v.first ≡ false
small_var vars place v e =
    let own = parts_empty (declaration_codes 16 (var_names vars) place v.name) _ e in
    let type = test_fails (not (is_first_of v.kind v.first)) wrong_type _ own.1 in
    let number = or_parts (is_bad_kind v.kind) (is_past_bound v.kind v.first)
    (last_test_fails _ bad_number type.1) in
    small_first v.kind v.first (not-false (is_first_of v.kind v.first) type.0) number.0 number.1

small_guards : (s : Scope) (place : ℕ) (state : State) → CleanState s place state
    → list_any is_large_guard state.guards ≡ false
small_guards s place state clean =
    none_of is_large_guard state.guards
    (λ k g e. (guard_clean s (0 + k) g
    (codes_at (guard_codes s) 0 state.guards clean.guards k g e)).fits)

-- of the scope of such a process
module _ (c : code.Scope) (s : Side) (messages : List Message) (p : Process)
    (own : IsScopeOf c s messages p) (clean : CleanProcess s messages p) where
  small_scope : length messages ≤ 64 → IsSmallScope c
  small_scope few =
      let vars : length c.vars ≡ length p.vars = ap (λ t. length t.vars) own.seen in
      let states : length c.states ≡ length p.states = ap (λ t. length t.states) own.seen in
      let all : length c.messages.now ≡ length messages = ap (λ t. length t.messages) own.seen in
      let at_most : length p.vars ≤ 16 = few_vars s messages p clean in
      let at_most_states : length p.states ≤ 64 = few_states s messages p clean in
      record { few_messages = omega arith; few_vars = omega arith; few_states = omega arith }

  pub numberable : length messages ≤ 64 → IsNumberable c
  numberable few = record {
    small = small_scope few;
    firsts = ap (λ t. list_any (λ v. is_large_initial v.first) t.vars) own.seen
        ∙ none_of (λ v. is_large_initial v.first) p.vars
        (λ k v e. small_var p.vars k v (var_at s messages p clean k v e));
    guards = ap (λ t. list_any (λ u. list_any is_large_guard u.guards) t.states) own.seen
        ∙ none_of (λ t. list_any is_large_guard t.guards) p.states
        (λ k t e. small_guards (scope_of s messages p) k t
        (clean_state_at s messages p clean k t e));
  }

-- A process without codes gives a proper body.
use Rattle.std.proofs.Common.{◌≡◌, ℕ, suc, ◌≤◌, Bool, true, false, not, ◌&&◌, ◌||◌, List, [], ◌∷◌}
use Rattle.std.proofs.Common.{map, length, refl, sym, ap, ◌∙◌, arith, Some, true≢false, zero-add}
use Rattle.std.specs.Prelude.{nat_lt, nat_le, slice_get}
use Rattle.std.specs.List.{list_any, AllByRecursion}
use Rattle.std.proofs.lemmas.Bool.{or_parts, not-false}
use Rattle.std.proofs.lemmas.List.{length-map}
use Rattle.rv_base.specs.Lists.{map_from}
use Rattle.rv_base.proofs.Lists.{AllByRecursion-front, AllByRecursion-back, AllByRecursion-map}
use Rattle.proto_model.specs.Names.{is_declared, state_names, var_names}
use Rattle.proto_model.specs.Faults.{unknown, wrong_type, active_mixed, bad_number, Scope, scope_of}
use Rattle.proto_model.specs.Faults.{guard_codes, states_from, is_output_action}
use Rattle.proto_model.specs.Faults.{is_conditioned_output, is_mixed, declaration_codes, var_codes}
use Rattle.proto_model.specs.Faults.{start_codes, process_codes, is_bad_bound, is_bad_kind}
use Rattle.proto_model.specs.Faults.{is_past_bound, is_first_of}
use Rattle.proto_model.specs.Numbered.{numbered_atom, numbered_action, numbered_guard}
use Rattle.proto_model.specs.Numbered.{numbered_state, numbered_message, numbered_declaration}
use Rattle.proto_model.specs.Numbered.{numbered_first, numbered_process}
use Rattle.proto_model.specs.Proper.{IsBound, IsProperKind, IsFirstValue, IsProperVar, IsProperRule}
use Rattle.proto_model.specs.Proper.{IsProperState, IsProperBody, IsActiveForm, is_output_kind}
use Rattle.proto_model.specs.Proper.{IsShortName, IsSmallRule}
use Rattle.proto_model.specs.declared.protocol.Message.{Message}
use Rattle.proto_model.specs.declared.protocol.VarKind.{VarKind}
use Rattle.proto_model.specs.declared.protocol.VarKind.TheVariants as kind
use Rattle.proto_model.specs.declared.protocol.Initial.{Initial}
use Rattle.proto_model.specs.declared.protocol.Initial.TheVariants as initial
use Rattle.proto_model.specs.declared.protocol.Var.{Var}
use Rattle.proto_model.specs.declared.protocol.State.{State}
use Rattle.proto_model.specs.declared.protocol.Process.{Process}
use Rattle.proto_model.specs.declared.guard.Atom.{Atom}
use Rattle.proto_model.specs.declared.guard.GuardKind.{GuardKind}
use Rattle.proto_model.specs.declared.guard.GuardKind.TheVariants as action
use Rattle.proto_model.specs.declared.guard.Guard.{Guard}
use Rattle.proto_model.specs.declared.numbered.Side.{Side}
use Rattle.proto_model.specs.declared.numbered.Side.TheVariants as side
use Rattle.star_check.proofs.Clean.{IsEmpty, CleanState, clean, codes_at, state_at}
use Rattle.star_check.proofs.Clean.{test_fails, last_test_fails, parts_empty, few}
use Rattle.star_check.proofs.SameTypes.{infos}
use Rattle.star_check.proofs.InRange.{place_in_range}
use Rattle.star_check.proofs.ProperRules.{below, declaration_below, short_declared, small_rule}
use Rattle.star_check.proofs.ProperRules.{IsClean, guard_clean, proper_rule}

pub bound : (n : ℕ) → is_bad_bound n ≡ false → IsBound n
bound n e =
    let parts = or_parts (nat_lt n 2) (nat_lt 65536 n) e in
    (low parts.0, high parts.1)
  where
    low : nat_lt n 2 ≡ false → 2 ≤ n
    low f = grind arith

    high : nat_lt 65536 n ≡ false → n ≤ 65536
    high f = grind arith

proper_kind : (k : VarKind) → is_bad_kind k ≡ false → IsProperKind k
proper_kind (kind.Int n) e = bound n e
proper_kind kind.Node e = tt
proper_kind kind.Set e = tt

first_value : (k : VarKind) (i : Initial) → is_first_of k i ≡ true → is_past_bound k i ≡ false
    → IsFirstValue k (numbered_first i)
first_value (kind.Int n) (initial.Number v) own past = (v, refl, below n v past)
first_value (kind.Int n) initial.Nowhere own past = absurd (cc)
first_value (kind.Int n) initial.Empty own past = absurd (cc)
first_value kind.Node (initial.Number v) own past = absurd (cc)
first_value kind.Node initial.Nowhere own past = refl
first_value kind.Node initial.Empty own past = absurd (cc)
first_value kind.Set (initial.Number v) own past = absurd (cc)
first_value kind.Set initial.Nowhere own past = absurd (cc)
first_value kind.Set initial.Empty own past = refl

pub proper_var : (vars : List Var) (place : ℕ) (v : Var) → var_codes vars place v ≡ []
    → IsProperVar (numbered_declaration v)
proper_var vars place v e =
    let own = parts_empty (declaration_codes 16 (var_names vars) place v.name) _ e in
    let type = test_fails (not (is_first_of v.kind v.first)) wrong_type _ own.1 in
    let number =
    or_parts (is_bad_kind v.kind) (is_past_bound v.kind v.first)
    (last_test_fails _ bad_number type.1) in
    record {
      kind = proper_kind v.kind number.0;
      first = first_value v.kind v.first (not-false (is_first_of v.kind v.first) type.0) number.1;
    }

-- outputs stay outputs
output_same : (messages : List Message) (vars : List Var) (kind : GuardKind)
    → is_output_kind (numbered_action vars messages kind) ≡ is_output_action kind
output_same messages vars action.Tau = refl
output_same messages vars (action.Input p m bound) = refl
output_same messages vars (action.Output p m value) = refl

outputs_same : (messages : List Message) (vars : List Var) (states : List State)
    (guards : List Guard)
    → list_any (λ r. is_output_kind r.kind) (map (numbered_guard messages vars states) guards)
    ≡ list_any (λ g. is_output_action g.kind) guards
outputs_same messages vars states [] = refl
outputs_same messages vars states (g ∷ guards) =
    ap
    (λ b. b || list_any (λ r. is_output_kind r.kind)
    (map (numbered_guard messages vars states) guards))
    (output_same messages vars g.kind)
    ∙ ap (λ b. is_output_action g.kind || b) (outputs_same messages vars states guards)

no_atoms : (atoms : List Atom) → nat_lt 0 (length atoms) ≡ false → atoms ≡ []
no_atoms [] e = refl
no_atoms (a ∷ atoms) e = absurd (omega (arith, late))
  where
    late : length (a ∷ atoms) ≤ 0
    late = grind arith

-- an output that stands alone, without a condition
alone : (s : Scope) (guards : List Guard) → s.side ≡ side.Remote
    → is_mixed side.Remote guards ≡ false
    → ((k : ℕ) (g : Guard) → slice_get guards k ≡ Some g → IsClean s k g)
    → list_any (λ g. is_output_action g.kind) guards ≡ true
    → (g : Guard) × (guards ≡ g ∷ []) × (g.conds ≡ [])
alone s [] remote mixed each has = absurd (true≢false (sym has))
alone s (g ∷ []) remote mixed each has = (g, refl, bare)
  where
    here : is_conditioned_output side.Remote g ≡ false
    here = ap (λ t. is_conditioned_output t g) (sym remote) ∙ (each 0 g refl).unconditioned

    by : (b : Bool) → (b || false) ≡ true → (b && nat_lt 0 (length g.conds)) ≡ false → g.conds ≡ []
    by true h f = no_atoms g.conds f
    by false h f = absurd (true≢false (sym h))

    bare : g.conds ≡ []
    bare = by (is_output_action g.kind) has here
alone s (g ∷ h ∷ guards) remote mixed each has = absurd (true≢false (sym both ∙ mixed))
  where
    many : nat_lt 1 (suc (suc (length guards))) ≡ true
    many = grind arith

    both : is_mixed side.Remote (g ∷ h ∷ guards) ≡ true
    both = ap (λ b. b && nat_lt 1 (suc (suc (length guards)))) has ∙ many

active_form : (s : Scope) (guards : List Guard) → is_mixed s.side guards ≡ false
    → ((k : ℕ) (g : Guard) → slice_get guards k ≡ Some g → IsClean s k g)
    → IsActiveForm s.side (map (numbered_guard s.messages s.vars s.states) guards)
active_form s guards mixed each = by s.side refl
  where
    by : (t : Side) → s.side ≡ t
        → IsActiveForm t (map (numbered_guard s.messages s.vars s.states) guards)
    by side.Home e = tt
    by side.Remote e = λ has.
        let one =
        alone s guards e (ap (λ t. is_mixed t guards) (sym e) ∙ mixed) each
        (sym (outputs_same s.messages s.vars s.states guards) ∙ has) in (
          numbered_guard s.messages s.vars s.states one.0,
          ap (map (numbered_guard s.messages s.vars s.states)) one.1,
          ap (map (numbered_atom s.vars)) one.2,
        )

proper_state : (s : Scope) (place : ℕ) (state : State) → CleanState s place state
    → IsProperState s.side (map numbered_message s.messages) (infos s.vars)
    (length (map (numbered_state s.messages s.vars s.states) s.states))
    (numbered_state s.messages s.vars s.states state)
proper_state s place state clean =
    let each : (k : ℕ) (g : Guard) → slice_get state.guards k ≡ Some g → IsClean s k g =
    λ k g e. guard_clean s k g
    (rw zero-add at (codes_at (guard_codes s) 0 state.guards clean.guards k g e)) in
    let at_most : length state.guards ≤ 16 =
    few 16 state.guards (λ k g e. below 16 k (or_parts (nat_le 16 k) _ (each k g e).few).0) in
    let own =
    parts_empty (declaration_codes 64 (state_names s.states) place state.name) _ clean.own in
    record {
      short_name = short_declared 64 (state_names s.states) place state.name _ clean.own;
      small_rules = AllByRecursion-map IsSmallRule
          (numbered_guard s.messages s.vars s.states) state.guards
          (λ k g e. small_rule s k g (each k g e).few);
      few_rules = rw (length-map state.guards (numbered_guard s.messages s.vars s.states)) at_most;
      rules = AllByRecursion-map
          (IsProperRule s.side (map numbered_message s.messages) (infos s.vars)
          (length (map (numbered_state s.messages s.vars s.states) s.states)))
          (numbered_guard s.messages s.vars s.states) state.guards
          (λ k g e. proper_rule s k g (each k g e));
      active = active_form s state.guards
          (last_test_fails (is_mixed s.side state.guards) active_mixed own.1) each;
    }

-- the items of a process have no code
pub record CleanProcess (s : Side) (messages : List Message) (p : Process) : Type 0 where
  pub vars : AllByRecursion IsEmpty (map_from (var_codes p.vars) 0 p.vars)
  pub start : start_codes p.states p.start ≡ []
  pub states : AllByRecursion IsEmpty (states_from (scope_of s messages p) 0 p.states)

pub clean_process : (s : Side) (messages : List Message) (p : Process)
    → AllByRecursion IsEmpty (process_codes (scope_of s messages p) p.start)
    → CleanProcess s messages p
clean_process s messages p all =
    let rest =
    AllByRecursion-back IsEmpty (map_from (var_codes p.vars) 0 p.vars)
    (start_codes p.states p.start ∷ states_from (scope_of s messages p) 0 p.states) all in
    record {
      vars = AllByRecursion-front IsEmpty (map_from (var_codes p.vars) 0 p.vars)
          (start_codes p.states p.start ∷ states_from (scope_of s messages p) 0 p.states) all;
      start = rest.0;
      states = rest.1;
    }

-- what the items of the process at each place say
module _ (s : Side) (messages : List Message) (p : Process) (clean : CleanProcess s messages p)
  where
    pub var_at : (k : ℕ) (v : Var) → slice_get p.vars k ≡ Some v → var_codes p.vars k v ≡ []
    var_at k v e = rw zero-add at (codes_at (var_codes p.vars) 0 p.vars clean.vars k v e)

    pub clean_state_at : (k : ℕ) (t : State) → slice_get p.states k ≡ Some t
        → CleanState (scope_of s messages p) k t
    clean_state_at k t e =
        rw zero-add at (state_at (scope_of s messages p) 0 p.states clean.states k t e)

    pub few_vars : length p.vars ≤ 16
    few_vars =
        few 16 p.vars (λ k v e. declaration_below 16 (var_names p.vars) k v.name _ (var_at k v e))

    pub few_states : length p.states ≤ 64
    few_states =
        few 64 p.states
        (λ k t e. declaration_below 64 (state_names p.states) k t.name _ (clean_state_at k t e).own)

    pub proper_body : IsProperBody s (map numbered_message messages) (numbered_process messages p)
    proper_body =
        let known : is_declared p.start (state_names p.states) ≡ true =
        not-false (is_declared p.start (state_names p.states))
        (last_test_fails _ unknown clean.start) in
        record {
          few_vars = rw (length-map p.vars numbered_declaration) few_vars;
          few_states = rw (length-map p.states (numbered_state messages p.vars p.states))
              few_states;
          short_names = AllByRecursion-map (λ v. IsShortName v.name) numbered_declaration p.vars
              (λ k v e. short_declared 16 (var_names p.vars) k v.name _ (var_at k v e));
          vars = AllByRecursion-map IsProperVar numbered_declaration p.vars
              (λ k v e. proper_var p.vars k v (var_at k v e));
          start = place_in_range (λ t. t.name)
              (numbered_state messages p.vars p.states) p.states p.start known;
          states = AllByRecursion-map
              (IsProperState s (map numbered_message messages) (infos p.vars)
              (length (map (numbered_state messages p.vars p.states) p.states)))
              (numbered_state messages p.vars p.states) p.states
              (λ k t e. proper_state (scope_of s messages p) k t (clean_state_at k t e));
        }

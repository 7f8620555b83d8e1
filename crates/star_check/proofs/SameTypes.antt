-- The parts of a guard whose names are declared have the same types in numbered form.
use Rattle.std.proofs.Common.{◌≡◌, ℕ, Bool, true, false, ◌&&◌, List, map, refl, sym, ap, ◌∙◌}
use Rattle.std.proofs.Common.{Option, Some, None, is_some, unwrap_or}
use Rattle.std.specs.Prelude.{slice_get}
use Rattle.std.specs.Option.{option_map, option_map_or, option_and_then}
use Rattle.std.proofs.lemmas.Bool.{and_parts}
use Rattle.std.proofs.lemmas.Option.{slice_get-map}
use Rattle.proto_model.specs.Tokens.{Text}
use Rattle.proto_model.specs.Names.{place_of, is_declared, message_names, var_names, message_of}
use Rattle.proto_model.specs.Types.{kind_type, carried_type, is_of_type, are_of_one_type}
use Rattle.proto_model.specs.Types.{operation_type, relation_agrees, bound_agrees, value_agrees}
use Rattle.proto_model.specs.Star.{goes_in, goes_out}
use Rattle.proto_model.specs.Known.{knows_var, knows_term, knows_expr, knows_atom, knows_assign}
use Rattle.proto_model.specs.Known.{knows_partner, knows_bound, knows_value, knows_action}
use Rattle.proto_model.specs.Agreement.{var_type, term_type, expr_type, atom_agrees, assign_agrees}
use Rattle.proto_model.specs.Agreement.{partner_agrees, action_agrees, message_type, is_directed}
use Rattle.proto_model.specs.RuleTypes.{rule_message_type, rule_var_type, rule_term_type}
use Rattle.proto_model.specs.RuleTypes.{rule_expr_type, rule_atom_agrees, rule_assign_agrees}
use Rattle.proto_model.specs.RuleTypes.{rule_partner_agrees, rule_action_agrees, is_directed_rule}
use Rattle.proto_model.specs.RuleTypes.{is_star_rule, is_star_rule_partner}
use Rattle.proto_model.specs.Faults.{is_star, is_star_partner}
use Rattle.proto_model.specs.Numbered.{place_or_zero, numbered_var, numbered_term, numbered_expr}
use Rattle.proto_model.specs.Numbered.{numbered_atom, numbered_assign, numbered_partner}
use Rattle.proto_model.specs.Numbered.{numbered_action, numbered_declaration, numbered_message}
use Rattle.proto_model.specs.declared.protocol.Message.{Message}
use Rattle.proto_model.specs.declared.protocol.Var.{Var}
use Rattle.proto_model.specs.declared.guard.Term.{Term}
use Rattle.proto_model.specs.declared.guard.Term.TheVariants as term
use Rattle.proto_model.specs.declared.guard.Expr.{Expr}
use Rattle.proto_model.specs.declared.guard.Expr.TheVariants as expr
use Rattle.proto_model.specs.declared.guard.Atom.{Atom}
use Rattle.proto_model.specs.declared.guard.Assign.{Assign}
use Rattle.proto_model.specs.declared.guard.Partner.{Partner}
use Rattle.proto_model.specs.declared.guard.Partner.TheVariants as partner
use Rattle.proto_model.specs.declared.guard.GuardKind.{GuardKind}
use Rattle.proto_model.specs.declared.guard.GuardKind.TheVariants as action
use Rattle.proto_model.specs.declared.numbered.Side.{Side}
use Rattle.proto_model.specs.declared.numbered.Side.TheVariants as side
use Rattle.proto_model.specs.declared.numbered.ValueType.TheVariants as type
use Rattle.proto_model.specs.declared.numbered.VarInfo.{VarInfo}
use Rattle.star_check.proofs.Found.{found}

abbrev pub infos : List Var → List VarInfo
infos vars = map numbered_declaration vars

kind_kept : (o : Option Var)
    → option_map (λ i. kind_type i.kind) (option_map numbered_declaration o) ≡ option_map
    (λ v. kind_type v.kind) o
kind_kept None = refl
kind_kept (Some v) = refl

-- the variables of the process
module _ (vars : List Var) where
  pub var_same : (name : Text) → knows_var vars name ≡ true
      → rule_var_type (infos vars) (numbered_var vars name) ≡ var_type vars name
  var_same name known = by (place_of name (var_names vars)) known
    where
      by : (o : Option ℕ) → is_some o ≡ true
          → option_map (λ i. kind_type i.kind) (slice_get (infos vars) (unwrap_or o 0)) ≡ option_map
          (λ v. kind_type v.kind) (option_and_then (λ place. slice_get vars place) o)
      by None h = absurd (cc)
      by (Some k) h = ap (option_map (λ i. kind_type i.kind))
          (slice_get-map numbered_declaration vars k) ∙ kind_kept (slice_get vars k)

  pub term_same : (t : Term) → knows_term vars t ≡ true
      → rule_term_type (infos vars) (numbered_term vars t) ≡ term_type vars t
  term_same (term.Number n) known = refl
  term_same (term.Named name) known = var_same name known
  term_same term.Nowhere known = refl
  term_same term.Empty known = refl

  terms_same : (t u : Term) → (knows_term vars t && knows_term vars u) ≡ true
      → operation_type (rule_term_type (infos vars) (numbered_term vars t))
      (rule_term_type (infos vars) (numbered_term vars u)) ≡ operation_type (term_type vars t)
      (term_type vars u)
  terms_same t u known =
      let both = and_parts (knows_term vars t) (knows_term vars u) known in
      ap (λ a. operation_type a (rule_term_type (infos vars) (numbered_term vars u)))
      (term_same t both.0)
      ∙ ap (operation_type (term_type vars t)) (term_same u both.1)

  pub expr_same : (e : Expr) → knows_expr vars e ≡ true
      → rule_expr_type (infos vars) (numbered_expr vars e) ≡ expr_type vars e
  expr_same (expr.One t) known = term_same t known
  expr_same (expr.Plus t u) known = terms_same t u known
  expr_same (expr.Minus t u) known = terms_same t u known

  pub atom_same : (a : Atom) → knows_atom vars a ≡ true
      → rule_atom_agrees (infos vars) (numbered_atom vars a) ≡ atom_agrees vars a
  atom_same a known =
      let both = and_parts (knows_expr vars a.left) (knows_expr vars a.right) known in
      ap (λ t. relation_agrees a.rel t (rule_expr_type (infos vars) (numbered_expr vars a.right)))
      (expr_same a.left both.0)
      ∙ ap (relation_agrees a.rel (expr_type vars a.left)) (expr_same a.right both.1)

  pub assign_same : (a : Assign) → knows_assign vars a ≡ true
      → rule_assign_agrees (infos vars) (numbered_assign vars a) ≡ assign_agrees vars a
  assign_same a known =
      let both = and_parts (knows_var vars a.var) (knows_expr vars a.value) known in
      ap (λ t. are_of_one_type t (rule_expr_type (infos vars) (numbered_expr vars a.value)))
      (var_same a.var both.0)
      ∙ ap (are_of_one_type (var_type vars a.var)) (expr_same a.value both.1)

  pub partner_same : (s : Side) (p : Partner) → knows_partner vars s p ≡ true
      → rule_partner_agrees (infos vars) s (numbered_partner vars p) ≡ partner_agrees vars s p
  partner_same side.Remote p known = refl
  partner_same side.Home partner.Home known = refl
  partner_same side.Home (partner.Any x) known = ap (is_of_type type.Node) (var_same x known)
  partner_same side.Home (partner.Member x s) known =
      let both = and_parts (knows_var vars x) (knows_var vars s) known in
      ap (λ t. is_of_type type.Node t && is_of_type type.Set
      (rule_var_type (infos vars) (numbered_var vars s))) (var_same x both.0)
      ∙ ap (λ t. is_of_type type.Node (var_type vars x) && is_of_type type.Set t)
      (var_same s both.1)
  partner_same side.Home (partner.Named x) known = ap (is_of_type type.Node) (var_same x known)

  bound_same : (bound : Option Text) → knows_bound vars bound ≡ true
      → option_map (rule_var_type (infos vars)) (option_map (numbered_var vars) bound) ≡ option_map
      (var_type vars) bound
  bound_same None known = refl
  bound_same (Some x) known = ap Some (var_same x known)

  value_same : (value : Option Expr) → knows_value vars value ≡ true
      → option_map (rule_expr_type (infos vars)) (option_map (numbered_expr vars) value)
      ≡ option_map (expr_type vars) value
  value_same None known = refl
  value_same (Some e) known = ap Some (expr_same e known)

-- the messages
module _ (messages : List Message) where
  carried_kept : (o : Option Message)
      → option_and_then (λ i. carried_type i.carries) (option_map numbered_message o)
      ≡ option_and_then (λ m. carried_type m.carries) o
  carried_kept None = refl
  carried_kept (Some m) = refl

  pub message_same : (name : Text) → is_declared name (message_names messages) ≡ true
      → rule_message_type (map numbered_message messages)
      (place_or_zero name (message_names messages)) ≡ message_type messages name
  message_same name known = by (place_of name (message_names messages)) known
    where
      by : (o : Option ℕ) → is_some o ≡ true
          → option_and_then (λ i. carried_type i.carries)
          (slice_get (map numbered_message messages) (unwrap_or o 0))
          ≡ option_and_then (λ m. carried_type m.carries)
          (option_and_then (λ place. slice_get messages place) o)
      by None h = absurd (cc)
      by (Some k) h = ap (option_and_then (λ i. carried_type i.carries))
          (slice_get-map numbered_message messages k) ∙ carried_kept (slice_get messages k)

  -- what is asked of the way that the message goes
  way_same : (name : Text) (way : Bool → Bool) → is_declared name (message_names messages) ≡ true
      → option_map_or (λ i. way i.up)
      (slice_get (map numbered_message messages) (place_or_zero name (message_names messages)))
      false
      ≡ option_map_or (λ m. way m.up) (message_of messages name) true
  way_same name way known =
      let f = found (λ m. m.name) messages name known in
      let there : slice_get (map numbered_message messages) f.place ≡ Some (numbered_message f.item)
      =
      slice_get-map numbered_message messages f.place ∙ ap (option_map numbered_message) f.here in
      ap (λ o. option_map_or (λ i. way i.up)
      (slice_get (map numbered_message messages) (unwrap_or o 0)) false) f.at
      ∙ ap (λ o. option_map_or (λ i. way i.up) o false) there
      ∙ sym (ap (λ o. option_map_or (λ m. way m.up) o true) f.here)
      ∙ sym (ap (λ o. option_map_or (λ m. way m.up)
      (option_and_then (λ place. slice_get messages place) o) true) f.at)

  pub action_same : (vars : List Var) (s : Side) (kind : GuardKind)
      → knows_action vars s messages kind ≡ true
      → rule_action_agrees (infos vars) s (map numbered_message messages)
      (numbered_action vars messages kind) ≡ action_agrees vars s messages kind
  action_same vars s action.Tau known = refl
  action_same vars s (action.Input p m bound) known =
      let first = and_parts (is_declared m (message_names messages))
      (knows_partner vars s p && knows_bound vars bound) known in
      let second = and_parts (knows_partner vars s p) (knows_bound vars bound) first.1 in
      ap (λ b. b && bound_agrees
      (rule_message_type (map numbered_message messages)
      (place_or_zero m (message_names messages)))
      (option_map (rule_var_type (infos vars)) (option_map (numbered_var vars) bound)))
      (partner_same vars s p second.0)
      ∙ ap (λ t. partner_agrees vars s p && bound_agrees t
      (option_map (rule_var_type (infos vars)) (option_map (numbered_var vars) bound)))
      (message_same m first.0)
      ∙ ap (λ t. partner_agrees vars s p && bound_agrees (message_type messages m) t)
      (bound_same vars bound second.1)
  action_same vars s (action.Output p m value) known =
      let first = and_parts (is_declared m (message_names messages))
      (knows_partner vars s p && knows_value vars value) known in
      let second = and_parts (knows_partner vars s p) (knows_value vars value) first.1 in
      ap (λ b. b && value_agrees
      (rule_message_type (map numbered_message messages)
      (place_or_zero m (message_names messages)))
      (option_map (rule_expr_type (infos vars)) (option_map (numbered_expr vars) value)))
      (partner_same vars s p second.0)
      ∙ ap (λ t. partner_agrees vars s p && value_agrees t
      (option_map (rule_expr_type (infos vars)) (option_map (numbered_expr vars) value)))
      (message_same m first.0)
      ∙ ap (λ t. partner_agrees vars s p && value_agrees (message_type messages m) t)
      (value_same vars value second.1)

  pub directed_same : (vars : List Var) (s : Side) (kind : GuardKind)
      → knows_action vars s messages kind ≡ true
      → is_directed_rule s (map numbered_message messages) (numbered_action vars messages kind)
      ≡ is_directed s messages kind
  directed_same vars s action.Tau known = refl
  directed_same vars s (action.Input p m bound) known =
      way_same m (goes_in s)
      (and_parts (is_declared m (message_names messages))
      (knows_partner vars s p && knows_bound vars bound) known).0
  directed_same vars s (action.Output p m value) known =
      way_same m (goes_out s)
      (and_parts (is_declared m (message_names messages))
      (knows_partner vars s p && knows_value vars value) known).0

star_partner_same : (vars : List Var) (s : Side) (p : Partner)
    → is_star_rule_partner s (numbered_partner vars p) ≡ is_star_partner s p
star_partner_same vars side.Home partner.Home = refl
star_partner_same vars side.Home (partner.Any x) = refl
star_partner_same vars side.Home (partner.Member x s) = refl
star_partner_same vars side.Home (partner.Named x) = refl
star_partner_same vars side.Remote partner.Home = refl
star_partner_same vars side.Remote (partner.Any x) = refl
star_partner_same vars side.Remote (partner.Member x s) = refl
star_partner_same vars side.Remote (partner.Named x) = refl

pub star_same : (messages : List Message) (vars : List Var) (s : Side) (kind : GuardKind)
    → is_star_rule s (numbered_action vars messages kind) ≡ is_star s kind
star_same messages vars s action.Tau = refl
star_same messages vars s (action.Input p m bound) = star_partner_same vars s p
star_same messages vars s (action.Output p m value) = star_partner_same vars s p

-- The types of a guard, over the variables and messages of its numbered protocol. A place past the
-- end has no type.
use Rattle.std.specs.Prelude.{ℕ, Bool, true, false, ◌&&◌, List, Option, Some, slice_get}
use Rattle.std.specs.Option.{option_map, option_map_or, option_and_then}
use Rattle.proto_model.specs.Types.{kind_type, carried_type, is_of_type, are_of_one_type}
use Rattle.proto_model.specs.Types.{operation_type, relation_agrees, bound_agrees, value_agrees}
use Rattle.proto_model.specs.Star.{goes_in, goes_out}
use Rattle.proto_model.specs.declared.numbered.Side.{Side}
use Rattle.proto_model.specs.declared.numbered.Side.TheVariants as side
use Rattle.proto_model.specs.declared.numbered.ValueType.{ValueType}
use Rattle.proto_model.specs.declared.numbered.ValueType.TheVariants as type
use Rattle.proto_model.specs.declared.numbered.RuleTerm.{RuleTerm}
use Rattle.proto_model.specs.declared.numbered.RuleTerm.TheVariants as term
use Rattle.proto_model.specs.declared.numbered.RuleExpr.{RuleExpr}
use Rattle.proto_model.specs.declared.numbered.RuleExpr.TheVariants as expr
use Rattle.proto_model.specs.declared.numbered.RuleAtom.{RuleAtom}
use Rattle.proto_model.specs.declared.numbered.RuleAssign.{RuleAssign}
use Rattle.proto_model.specs.declared.numbered.RulePartner.{RulePartner}
use Rattle.proto_model.specs.declared.numbered.RulePartner.TheVariants as partner
use Rattle.proto_model.specs.declared.numbered.RuleKind.{RuleKind}
use Rattle.proto_model.specs.declared.numbered.RuleKind.TheVariants as action
use Rattle.proto_model.specs.declared.numbered.VarInfo.{VarInfo}
use Rattle.proto_model.specs.declared.numbered.MessageInfo.{MessageInfo}

-- the type of the value of the message at this place
abbrev pub rule_message_type : List MessageInfo → ℕ → Option ValueType
rule_message_type messages place =
    option_and_then (λ m. carried_type m.carries) (slice_get messages place)

module _ (vars : List VarInfo) where
  -- the type of the variable at this place
  abbrev pub rule_var_type : ℕ → Option ValueType
  rule_var_type place = option_map (λ v. kind_type v.kind) (slice_get vars place)

  -- a number is an int, none is a node, empty is a set
  abbrev pub rule_term_type : RuleTerm → Option ValueType
  rule_term_type (term.Number n) = Some type.Int
  rule_term_type (term.Var place) = rule_var_type place
  rule_term_type term.Nowhere = Some type.Node
  rule_term_type term.Empty = Some type.Set

  -- a term has its own type; a sum or a difference that which its operands give
  abbrev pub rule_expr_type : RuleExpr → Option ValueType
  rule_expr_type (expr.One t) = rule_term_type t
  rule_expr_type (expr.Plus t u) = operation_type (rule_term_type t) (rule_term_type u)
  rule_expr_type (expr.Minus t u) = operation_type (rule_term_type t) (rule_term_type u)

  -- the types of both sides are such that the relation compares them
  abbrev pub rule_atom_agrees : RuleAtom → Bool
  rule_atom_agrees a = relation_agrees a.rel (rule_expr_type a.left) (rule_expr_type a.right)

  -- the value is of the type of its variable
  abbrev pub rule_assign_agrees : RuleAssign → Bool
  rule_assign_agrees a = are_of_one_type (rule_var_type a.var) (rule_expr_type a.value)

  -- A home guard's partner is a node, and what stands after its `in` is a set.
  abbrev pub rule_partner_agrees : Side → RulePartner → Bool
  rule_partner_agrees side.Remote p = true
  rule_partner_agrees side.Home partner.Home = true
  rule_partner_agrees side.Home (partner.Any x) = is_of_type type.Node (rule_var_type x)
  rule_partner_agrees side.Home (partner.Member x s) =
      is_of_type type.Node (rule_var_type x) && is_of_type type.Set (rule_var_type s)
  rule_partner_agrees side.Home (partner.Named x) = is_of_type type.Node (rule_var_type x)

  -- the partner's types, and the bound value or the value sent by what the message carries
  abbrev pub rule_action_agrees : Side → List MessageInfo → RuleKind → Bool
  rule_action_agrees s messages action.Tau = true
  rule_action_agrees s messages (action.Input p m bound) =
      rule_partner_agrees s p
      && bound_agrees (rule_message_type messages m) (option_map rule_var_type bound)
  rule_action_agrees s messages (action.Output p m value) =
      rule_partner_agrees s p
      && value_agrees (rule_message_type messages m) (option_map rule_expr_type value)

-- An input of the home and an output of a remote have a message that goes up, the other two one
-- that goes down.
abbrev pub is_directed_rule : Side → List MessageInfo → RuleKind → Bool
is_directed_rule s messages action.Tau = true
is_directed_rule s messages (action.Input p m bound) =
    option_map_or (λ i. goes_in s i.up) (slice_get messages m) false
is_directed_rule s messages (action.Output p m value) =
    option_map_or (λ i. goes_out s i.up) (slice_get messages m) false

-- the partner of a remote's guard is the home, that of a home's guard is not
abbrev pub is_star_rule_partner : Side → RulePartner → Bool
is_star_rule_partner side.Home partner.Home = false
is_star_rule_partner side.Home _ = true
is_star_rule_partner side.Remote partner.Home = true
is_star_rule_partner side.Remote _ = false

-- a guard that meets a process meets one that its side may meet
abbrev pub is_star_rule : Side → RuleKind → Bool
is_star_rule s action.Tau = true
is_star_rule s (action.Input p m bound) = is_star_rule_partner s p
is_star_rule s (action.Output p m value) = is_star_rule_partner s p

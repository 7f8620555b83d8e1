-- Whether the types of a guard agree, and whether its message goes the way that the guard says.
-- Both are asked only of guards whose names are declared.
use Rattle.std.specs.Prelude.{Bool, true, ◌&&◌, List, Option, Some}
use Rattle.std.specs.Option.{option_map, option_map_or, option_and_then}
use Rattle.std.specs.List.{list_all}
use Rattle.proto_model.specs.Tokens.{Text}
use Rattle.proto_model.specs.Names.{message_of, var_of}
use Rattle.proto_model.specs.Types.{kind_type, carried_type, is_of_type, are_of_one_type}
use Rattle.proto_model.specs.Types.{operation_type, relation_agrees, bound_agrees, value_agrees}
use Rattle.proto_model.specs.Star.{goes_in, goes_out}
use Rattle.proto_model.specs.declared.protocol.Message.{Message}
use Rattle.proto_model.specs.declared.protocol.Var.{Var}
use Rattle.proto_model.specs.declared.guard.Term.{Term}
use Rattle.proto_model.specs.declared.guard.Term.TheVariants as term
use Rattle.proto_model.specs.declared.guard.Expr.{Expr}
use Rattle.proto_model.specs.declared.guard.Expr.TheVariants as expr
use Rattle.proto_model.specs.declared.guard.Atom.{Atom}
use Rattle.proto_model.specs.declared.guard.Assign.{Assign}
use Rattle.proto_model.specs.declared.guard.Partner.{Partner}
use Rattle.proto_model.specs.declared.guard.Partner.TheVariants as partner
use Rattle.proto_model.specs.declared.guard.GuardKind.{GuardKind}
use Rattle.proto_model.specs.declared.guard.GuardKind.TheVariants as action
use Rattle.proto_model.specs.declared.guard.Guard.{Guard}
use Rattle.proto_model.specs.declared.numbered.Side.{Side}
use Rattle.proto_model.specs.declared.numbered.Side.TheVariants as side
use Rattle.proto_model.specs.declared.numbered.ValueType.{ValueType}
use Rattle.proto_model.specs.declared.numbered.ValueType.TheVariants as type

-- the type of the value of the message that the name means
abbrev pub message_type : List Message → Text → Option ValueType
message_type messages name =
    option_and_then (λ m. carried_type m.carries) (message_of messages name)

module _ (vars : List Var) where
  -- the type of the variable that the name means
  abbrev pub var_type : Text → Option ValueType
  var_type name = option_map (λ v. kind_type v.kind) (var_of vars name)

  -- a number is an int, none is a node, empty is a set
  abbrev pub term_type : Term → Option ValueType
  term_type (term.Number n) = Some type.Int
  term_type (term.Named name) = var_type name
  term_type term.Nowhere = Some type.Node
  term_type term.Empty = Some type.Set

  -- a term has its own type; a sum or a difference that which its operands give
  abbrev pub expr_type : Expr → Option ValueType
  expr_type (expr.One t) = term_type t
  expr_type (expr.Plus t u) = operation_type (term_type t) (term_type u)
  expr_type (expr.Minus t u) = operation_type (term_type t) (term_type u)

  -- the types of both sides are such that the relation compares them
  abbrev pub atom_agrees : Atom → Bool
  atom_agrees a = relation_agrees a.rel (expr_type a.left) (expr_type a.right)

  -- the value is of the type of its variable
  abbrev pub assign_agrees : Assign → Bool
  assign_agrees a = are_of_one_type (var_type a.var) (expr_type a.value)

  -- A home guard's partner is a node, and what stands after its `in` is a set. Nothing is asked of
  -- the variables of a remote guard's partner.
  abbrev pub partner_agrees : Side → Partner → Bool
  partner_agrees side.Remote p = true
  partner_agrees side.Home partner.Home = true
  partner_agrees side.Home (partner.Any x) = is_of_type type.Node (var_type x)
  partner_agrees side.Home (partner.Member x s) =
      is_of_type type.Node (var_type x) && is_of_type type.Set (var_type s)
  partner_agrees side.Home (partner.Named x) = is_of_type type.Node (var_type x)

  -- the partner's types, and the bound value or the value sent by what the message carries
  abbrev pub action_agrees : Side → List Message → GuardKind → Bool
  action_agrees s messages action.Tau = true
  action_agrees s messages (action.Input p m bound) =
      partner_agrees s p && bound_agrees (message_type messages m) (option_map var_type bound)
  action_agrees s messages (action.Output p m value) =
      partner_agrees s p && value_agrees (message_type messages m) (option_map expr_type value)

-- the types of the guard agree
abbrev pub guard_agrees : Side → List Message → List Var → Guard → Bool
guard_agrees s messages vars g =
    action_agrees vars s messages g.kind
    && (list_all (atom_agrees vars) g.conds && list_all (assign_agrees vars) g.assigns)

-- An input of the home and an output of a remote have a message that goes up, the other two one
-- that goes down.
abbrev pub is_directed : Side → List Message → GuardKind → Bool
is_directed s messages action.Tau = true
is_directed s messages (action.Input p m bound) =
    option_map_or (λ m. goes_in s m.up) (message_of messages m) true
is_directed s messages (action.Output p m value) =
    option_map_or (λ m. goes_out s m.up) (message_of messages m) true

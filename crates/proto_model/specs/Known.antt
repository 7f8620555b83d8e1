-- Whether each name that a guard or a claim uses is declared, among its own kind: variables of the
-- process, messages, states of the process, for a claim those of the remote. The partner names of a
-- remote's guard are not looked up.
use Rattle.std.specs.Prelude.{Bool, true, ◌&&◌, List, Option, Some, None}
use Rattle.std.specs.List.{list_all}
use Rattle.proto_model.specs.Tokens.{Text}
use Rattle.proto_model.specs.Names.{is_declared, message_names, var_names, state_names}
use Rattle.proto_model.specs.declared.protocol.Message.{Message}
use Rattle.proto_model.specs.declared.protocol.Var.{Var}
use Rattle.proto_model.specs.declared.protocol.State.{State}
use Rattle.proto_model.specs.declared.protocol.Claim.{Claim}
use Rattle.proto_model.specs.declared.protocol.Claim.TheVariants as claim
use Rattle.proto_model.specs.declared.guard.Term.{Term}
use Rattle.proto_model.specs.declared.guard.Term.TheVariants as term
use Rattle.proto_model.specs.declared.guard.Expr.{Expr}
use Rattle.proto_model.specs.declared.guard.Expr.TheVariants as expr
use Rattle.proto_model.specs.declared.guard.Atom.{Atom}
use Rattle.proto_model.specs.declared.guard.Assign.{Assign}
use Rattle.proto_model.specs.declared.guard.Partner.{Partner}
use Rattle.proto_model.specs.declared.guard.Partner.TheVariants as partner
use Rattle.proto_model.specs.declared.guard.GuardKind.{GuardKind}
use Rattle.proto_model.specs.declared.guard.GuardKind.TheVariants as action
use Rattle.proto_model.specs.declared.guard.Guard.{Guard}
use Rattle.proto_model.specs.declared.numbered.Side.{Side}
use Rattle.proto_model.specs.declared.numbered.Side.TheVariants as side

module _ (vars : List Var) where
  -- the name is that of a variable of the process
  abbrev pub knows_var : Text → Bool
  knows_var name = is_declared name (var_names vars)

  -- a term that is a name is that of a variable; a number, `none` and `empty` use no name
  abbrev pub knows_term : Term → Bool
  knows_term (term.Number n) = true
  knows_term (term.Named name) = knows_var name
  knows_term term.Nowhere = true
  knows_term term.Empty = true

  -- each term of the expression is known
  abbrev pub knows_expr : Expr → Bool
  knows_expr (expr.One t) = knows_term t
  knows_expr (expr.Plus t u) = knows_term t && knows_term u
  knows_expr (expr.Minus t u) = knows_term t && knows_term u

  -- both sides of the condition are known
  abbrev pub knows_atom : Atom → Bool
  knows_atom a = knows_expr a.left && knows_expr a.right

  -- the variable that is assigned and the expression are known
  abbrev pub knows_assign : Assign → Bool
  knows_assign a = knows_var a.var && knows_expr a.value

  -- The variables of a home guard's partner are known. Those of a remote guard's are not looked up.
  abbrev pub knows_partner : Side → Partner → Bool
  knows_partner side.Remote p = true
  knows_partner side.Home partner.Home = true
  knows_partner side.Home (partner.Any x) = knows_var x
  knows_partner side.Home (partner.Member x s) = knows_var x && knows_var s
  knows_partner side.Home (partner.Named x) = knows_var x

  -- the variable that an input binds is known, if it binds one
  abbrev pub knows_bound : Option Text → Bool
  knows_bound None = true
  knows_bound (Some x) = knows_var x

  -- the value that an output sends is known, if it sends one
  abbrev pub knows_value : Option Expr → Bool
  knows_value None = true
  knows_value (Some e) = knows_expr e

  -- The message is declared, and the variables of the partner, of the bound value and of the value
  -- sent are known. A local step uses no name.
  abbrev pub knows_action : Side → List Message → GuardKind → Bool
  knows_action s messages action.Tau = true
  knows_action s messages (action.Input p m bound) =
      is_declared m (message_names messages) && (knows_partner s p && knows_bound bound)
  knows_action s messages (action.Output p m value) =
      is_declared m (message_names messages) && (knows_partner s p && knows_value value)

-- each variable, message and state that the guard uses is declared
abbrev pub knows_guard : Side → List Message → List Var → List State → Guard → Bool
knows_guard s messages vars states g =
    knows_action vars s messages g.kind
    && (list_all (knows_atom vars) g.conds
    && (list_all (knows_assign vars) g.assigns && is_declared g.next (state_names states)))

-- each state that the claim names is declared
abbrev pub knows_claim : List State → Claim → Bool
knows_claim states (claim.AtMost most names) =
    list_all (λ name. is_declared name (state_names states)) names
knows_claim states (claim.Apart x y) =
    is_declared x (state_names states) && is_declared y (state_names states)

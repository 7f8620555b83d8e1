-- The numbered protocol: each used name replaced by the place of its first declaration, counted
-- from 0, among its own kind. A name that is not declared gets 0; a well-formed protocol uses none.
-- Rows, pairs and steps speak of it alone; what a file says beside its protocol stands in
-- `CheckedProtocol`.
use Rattle.std.specs.Prelude.{ℕ, ◌==◌, List, unwrap_or, map}
use Rattle.std.specs.Option.{option_map}
use Rattle.std.specs.List.{list_any}
use Rattle.proto_model.specs.Tokens.{Text}
use Rattle.proto_model.specs.NumberSets.{numbers_below}
use Rattle.proto_model.specs.Names.{place_of, message_names, var_names, state_names}
use Rattle.proto_model.specs.declared.protocol.Message.{Message}
use Rattle.proto_model.specs.declared.protocol.Initial.{Initial}
use Rattle.proto_model.specs.declared.protocol.Initial.TheVariants as initial
use Rattle.proto_model.specs.declared.protocol.Var.{Var}
use Rattle.proto_model.specs.declared.protocol.State.{State}
use Rattle.proto_model.specs.declared.protocol.Process.{Process}
use Rattle.proto_model.specs.declared.protocol.Claim.{Claim}
use Rattle.proto_model.specs.declared.protocol.Claim.TheVariants as claim
use Rattle.proto_model.specs.declared.protocol.Protocol.{Protocol}
use Rattle.proto_model.specs.declared.guard.Term.{Term}
use Rattle.proto_model.specs.declared.guard.Term.TheVariants as term
use Rattle.proto_model.specs.declared.guard.Expr.{Expr}
use Rattle.proto_model.specs.declared.guard.Expr.TheVariants as expr
use Rattle.proto_model.specs.declared.guard.Atom.{Atom}
use Rattle.proto_model.specs.declared.guard.Assign.{Assign}
use Rattle.proto_model.specs.declared.guard.Partner.{Partner}
use Rattle.proto_model.specs.declared.guard.Partner.TheVariants as partner
use Rattle.proto_model.specs.declared.guard.GuardKind.{GuardKind}
use Rattle.proto_model.specs.declared.guard.GuardKind.TheVariants as action
use Rattle.proto_model.specs.declared.guard.Guard.{Guard}
use Rattle.proto_model.specs.declared.numbered.Value.{Value}
use Rattle.proto_model.specs.declared.numbered.Value.TheVariants as value
use Rattle.proto_model.specs.declared.numbered.RuleTerm.{RuleTerm}
use Rattle.proto_model.specs.declared.numbered.RuleTerm.TheVariants as rule_term
use Rattle.proto_model.specs.declared.numbered.RuleExpr.{RuleExpr}
use Rattle.proto_model.specs.declared.numbered.RuleExpr.TheVariants as rule_expr
use Rattle.proto_model.specs.declared.numbered.RuleAtom.{RuleAtom}
use Rattle.proto_model.specs.declared.numbered.RuleAssign.{RuleAssign}
use Rattle.proto_model.specs.declared.numbered.RulePartner.{RulePartner}
use Rattle.proto_model.specs.declared.numbered.RulePartner.TheVariants as rule_partner
use Rattle.proto_model.specs.declared.numbered.RuleKind.{RuleKind}
use Rattle.proto_model.specs.declared.numbered.RuleKind.TheVariants as rule_kind
use Rattle.proto_model.specs.declared.numbered.Rule.{Rule}
use Rattle.proto_model.specs.declared.numbered.StateInfo.{StateInfo}
use Rattle.proto_model.specs.declared.numbered.VarInfo.{VarInfo}
use Rattle.proto_model.specs.declared.numbered.MessageInfo.{MessageInfo}
use Rattle.proto_model.specs.declared.numbered.Body.{Body}
use Rattle.proto_model.specs.declared.numbered.NumberedClaim.{NumberedClaim}
use Rattle.proto_model.specs.declared.numbered.NumberedClaim.TheVariants as rule_claim

-- a protocol in numbered form: its name, its messages in file order, its two processes
pub record NumberedProtocol : Type 0 where
  pub name : Text
  pub messages : List MessageInfo
  pub home : Body
  pub remote : Body

-- the place of the first declaration of the name
abbrev pub place_or_zero : Text → List Text → ℕ
place_or_zero name names = unwrap_or (place_of name names) 0

module _ (vars : List Var) where
  -- the place of the variable that the name means
  abbrev pub numbered_var : Text → ℕ
  numbered_var name = place_or_zero name (var_names vars)

  -- a variable becomes its place; no other term changes
  abbrev pub numbered_term : Term → RuleTerm
  numbered_term (term.Number n) = rule_term.Number n
  numbered_term (term.Named name) = rule_term.Var (numbered_var name)
  numbered_term term.Nowhere = rule_term.Nowhere
  numbered_term term.Empty = rule_term.Empty

  -- each term of the expression in numbered form
  abbrev pub numbered_expr : Expr → RuleExpr
  numbered_expr (expr.One t) = rule_expr.One (numbered_term t)
  numbered_expr (expr.Plus t u) = rule_expr.Plus (numbered_term t) (numbered_term u)
  numbered_expr (expr.Minus t u) = rule_expr.Minus (numbered_term t) (numbered_term u)

  -- both sides of the condition in numbered form
  abbrev pub numbered_atom : Atom → RuleAtom
  numbered_atom a = record {
    left = numbered_expr a.left;
    rel = a.rel;
    right = numbered_expr a.right;
  }

  -- the place of the variable, and the expression in numbered form
  abbrev pub numbered_assign : Assign → RuleAssign
  numbered_assign a = record { var = numbered_var a.var; value = numbered_expr a.value }

  -- each variable of the partner becomes its place
  abbrev pub numbered_partner : Partner → RulePartner
  numbered_partner partner.Home = rule_partner.Home
  numbered_partner (partner.Any x) = rule_partner.Any (numbered_var x)
  numbered_partner (partner.Member x s) = rule_partner.Member (numbered_var x) (numbered_var s)
  numbered_partner (partner.Named x) = rule_partner.Named (numbered_var x)

  -- The message becomes its place, and so do the variables of the partner, the bound variable and
  -- those of the value sent.
  abbrev pub numbered_action : List Message → GuardKind → RuleKind
  numbered_action messages action.Tau = rule_kind.Tau
  numbered_action messages (action.Input p m bound) =
      rule_kind.Input (numbered_partner p) (place_or_zero m (message_names messages))
      (option_map numbered_var bound)
  numbered_action messages (action.Output p m sent) =
      rule_kind.Output (numbered_partner p) (place_or_zero m (message_names messages))
      (option_map numbered_expr sent)

-- A guard of a process with these variables and states, in numbered form: its action, its
-- conditions and assignments in order, and the place of its next state.
abbrev pub numbered_guard : List Message → List Var → List State → Guard → Rule
numbered_guard messages vars states g = record {
  kind = numbered_action vars messages g.kind;
  conds = map (numbered_atom vars) g.conds;
  assigns = map (numbered_assign vars) g.assigns;
  next = place_or_zero g.next (state_names states);
}

-- a state of such a process: its name, and its guards in numbered form
abbrev pub numbered_state : List Message → List Var → List State → State → StateInfo
numbered_state messages vars states s = record {
  name = s.name;
  rules = map (numbered_guard messages vars states) s.guards;
}

-- none is no remote, empty is the set without a bit
abbrev pub numbered_first : Initial → Value
numbered_first (initial.Number n) = value.Int n
numbered_first initial.Nowhere = value.Nowhere
numbered_first initial.Empty = value.Set 0

-- a variable: its name, its type and its first value
abbrev pub numbered_declaration : Var → VarInfo
numbered_declaration v = record { name = v.name; kind = v.kind; first = numbered_first v.first }

-- a message: its name, its direction and what it carries
abbrev pub numbered_message : Message → MessageInfo
numbered_message m = record { name = m.name; up = m.up; carries = m.carries }

-- a process: its variables, the place of its start state, its states in numbered form
abbrev pub numbered_process : List Message → Process → Body
numbered_process messages p = record {
  vars = map numbered_declaration p.vars;
  start = place_or_zero p.start (state_names p.states);
  states = map (numbered_state messages p.vars p.states) p.states;
}

-- a protocol's name, and its messages and both its processes in numbered form
abbrev pub numbered_protocol : Protocol → NumberedProtocol
numbered_protocol p = record {
  name = p.name;
  messages = map numbered_message p.messages;
  home = numbered_process p.messages p.home;
  remote = numbered_process p.messages p.remote;
}

-- The set of the states that the names mean: bit s stands for the state at place s.
abbrev pub state_set : List State → List Text → ℕ
state_set states names =
    numbers_below (λ s. list_any (λ name. place_or_zero name (state_names states) == s) names) 64

-- over the states of the remote
abbrev pub numbered_claim : List State → Claim → NumberedClaim
numbered_claim states (claim.AtMost most names) = rule_claim.AtMost most (state_set states names)
numbered_claim states (claim.Apart x y) =
    rule_claim.Apart (place_or_zero x (state_names states)) (place_or_zero y (state_names states))

-- What a file says, in numbered form: its protocol, and what it claims of runs of it. Since the
-- claims stand here and not in the protocol, no row, pair, table or step depends on them.
pub record CheckedProtocol : Type 0 where
  pub protocol : NumberedProtocol
  pub claims : List NumberedClaim

-- the protocol and its claims in numbered form
abbrev pub numbered : Protocol → CheckedProtocol
numbered p = record {
  protocol = numbered_protocol p;
  claims = map (numbered_claim p.remote.states) p.claims;
}

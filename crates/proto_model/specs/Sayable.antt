-- Which protocols a file can say: each name is a NAME, each number is from 0 to 99,999, the version
-- is 1 or 2, version 1 has no claims, and each claim on at most so many remotes names a state.
use Rattle.std.specs.Prelude.{◌≡◌, ◌⊎◌, ℕ, List, [], ◌∷◌, Option, Some, None}
use Rattle.std.specs.List.{AllByRecursion}
use Rattle.proto_model.specs.Tokens.{Text, IsName, IsNumber}
use Rattle.proto_model.specs.declared.protocol.Carry.{Carry}
use Rattle.proto_model.specs.declared.protocol.Carry.TheVariants as carry
use Rattle.proto_model.specs.declared.protocol.Message.{Message}
use Rattle.proto_model.specs.declared.protocol.VarKind.{VarKind}
use Rattle.proto_model.specs.declared.protocol.VarKind.TheVariants as kind
use Rattle.proto_model.specs.declared.protocol.Initial.{Initial}
use Rattle.proto_model.specs.declared.protocol.Initial.TheVariants as first
use Rattle.proto_model.specs.declared.protocol.Var.{Var}
use Rattle.proto_model.specs.declared.protocol.State.{State}
use Rattle.proto_model.specs.declared.protocol.Process.{Process}
use Rattle.proto_model.specs.declared.protocol.Claim.{Claim}
use Rattle.proto_model.specs.declared.protocol.Claim.TheVariants as claim
use Rattle.proto_model.specs.declared.protocol.Protocol.{Protocol}
use Rattle.proto_model.specs.declared.guard.Term.{Term}
use Rattle.proto_model.specs.declared.guard.Term.TheVariants as term
use Rattle.proto_model.specs.declared.guard.Expr.{Expr}
use Rattle.proto_model.specs.declared.guard.Expr.TheVariants as expr
use Rattle.proto_model.specs.declared.guard.Atom.{Atom}
use Rattle.proto_model.specs.declared.guard.Assign.{Assign}
use Rattle.proto_model.specs.declared.guard.Partner.{Partner}
use Rattle.proto_model.specs.declared.guard.Partner.TheVariants as partner
use Rattle.proto_model.specs.declared.guard.GuardKind.{GuardKind}
use Rattle.proto_model.specs.declared.guard.GuardKind.TheVariants as action
use Rattle.proto_model.specs.declared.guard.Guard.{Guard}

-- what a message carries: the size of an int is a number that a file can write
abbrev pub IsSayableCarry : Carry → Type 0
IsSayableCarry carry.Nothing = Unit {0}
IsSayableCarry (carry.Int n) = IsNumber n
IsSayableCarry carry.Node = Unit {0}
IsSayableCarry carry.Set = Unit {0}

-- a message: its name is a NAME, and what it carries is sayable
pub record IsSayableMessage (m : Message) : Type 0 where
  pub name : IsName m.name
  pub carries : IsSayableCarry m.carries

-- the type of a variable: the size of an int is a number that a file can write
abbrev pub IsSayableKind : VarKind → Type 0
IsSayableKind (kind.Int n) = IsNumber n
IsSayableKind kind.Node = Unit {0}
IsSayableKind kind.Set = Unit {0}

-- the first value of a variable: a number is one that a file can write
abbrev pub IsSayableInitial : Initial → Type 0
IsSayableInitial (first.Number n) = IsNumber n
IsSayableInitial first.Nowhere = Unit {0}
IsSayableInitial first.Empty = Unit {0}

-- a variable: its name is a NAME, and its type and first value are sayable
pub record IsSayableVar (v : Var) : Type 0 where
  pub name : IsName v.name
  pub kind : IsSayableKind v.kind
  pub first : IsSayableInitial v.first

-- a term: a number is one that a file can write, and a name is a NAME
abbrev pub IsSayableTerm : Term → Type 0
IsSayableTerm (term.Number n) = IsNumber n
IsSayableTerm (term.Named name) = IsName name
IsSayableTerm term.Nowhere = Unit {0}
IsSayableTerm term.Empty = Unit {0}

-- an expression: each of its terms is sayable
abbrev pub IsSayableExpr : Expr → Type 0
IsSayableExpr (expr.One t) = IsSayableTerm t
IsSayableExpr (expr.Plus t u) = IsSayableTerm t × IsSayableTerm u
IsSayableExpr (expr.Minus t u) = IsSayableTerm t × IsSayableTerm u

-- a condition: both of its sides are sayable
pub record IsSayableAtom (a : Atom) : Type 0 where
  pub left : IsSayableExpr a.left
  pub right : IsSayableExpr a.right

-- an assignment: its variable is a NAME, and its value is sayable
pub record IsSayableAssign (a : Assign) : Type 0 where
  pub var : IsName a.var
  pub value : IsSayableExpr a.value

-- the partner of a guard: each variable in it is a NAME
abbrev pub IsSayablePartner : Partner → Type 0
IsSayablePartner partner.Home = Unit {0}
IsSayablePartner (partner.Any x) = IsName x
IsSayablePartner (partner.Member x s) = IsName x × IsName s
IsSayablePartner (partner.Named x) = IsName x

-- the variable to which an input binds a value, where there is one, is a NAME
abbrev pub IsSayableBound : Option Text → Type 0
IsSayableBound None = Unit {0}
IsSayableBound (Some x) = IsName x

-- the value that an output sends, where there is one, is sayable
abbrev pub IsSayableValue : Option Expr → Type 0
IsSayableValue None = Unit {0}
IsSayableValue (Some e) = IsSayableExpr e

-- what a guard does: its partner is sayable, its message is a NAME, and what it binds or sends is
-- sayable
abbrev pub IsSayableAction : GuardKind → Type 0
IsSayableAction action.Tau = Unit {0}
IsSayableAction (action.Input p m bound) = IsSayablePartner p × IsName m × IsSayableBound bound
IsSayableAction (action.Output p m value) = IsSayablePartner p × IsName m × IsSayableValue value

-- a guard: its action, each condition and each assignment are sayable, and the next state is a NAME
pub record IsSayableGuard (g : Guard) : Type 0 where
  pub kind : IsSayableAction g.kind
  pub conds : AllByRecursion IsSayableAtom g.conds
  pub assigns : AllByRecursion IsSayableAssign g.assigns
  pub next : IsName g.next

-- a state: its name is a NAME, and each guard is sayable
pub record IsSayableState (s : State) : Type 0 where
  pub name : IsName s.name
  pub guards : AllByRecursion IsSayableGuard s.guards

-- a process: each variable and each state is sayable, and the first state is a NAME
pub record IsSayableProcess (p : Process) : Type 0 where
  pub vars : AllByRecursion IsSayableVar p.vars
  pub start : IsName p.start
  pub states : AllByRecursion IsSayableState p.states

-- there is at least one name, and each is a NAME
abbrev pub AreNames : List Text → Type 0
AreNames [] = ⊥
AreNames (name ∷ names) = IsName name × AllByRecursion IsName names

-- a claim: its number is one that a file can write, and its states, at least one, are NAMEs
abbrev pub IsSayableClaim : Claim → Type 0
IsSayableClaim (claim.AtMost most states) = IsNumber most × AreNames states
IsSayableClaim (claim.Apart x y) = IsName x × IsName y

-- the version is 1 and there are no claims, or it is 2
abbrev pub IsSayableVersion : ℕ → List Claim → Type 0
IsSayableVersion version claims = ((version ≡ 1) × (claims ≡ [])) ⊎ (version ≡ 2)

-- each name of the protocol is a NAME, each number is from 0 to 99,999, and there are claims in a
-- version alone that has them
pub record IsSayable (p : Protocol) : Type 0 where
  pub name : IsName p.name
  pub version : IsSayableVersion p.version p.claims
  pub messages : AllByRecursion IsSayableMessage p.messages
  pub home : IsSayableProcess p.home
  pub remote : IsSayableProcess p.remote
  pub claims : AllByRecursion IsSayableClaim p.claims

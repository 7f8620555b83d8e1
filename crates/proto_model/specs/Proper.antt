-- A proper numbered protocol: within the limits, all places and numbers in range, types and
-- directions agree, star form and active form hold.
use Rattle.std.specs.Prelude.{◌≡◌, ℕ, ◌<◌, ◌≤◌, Bool, true, false, List, [], ◌∷◌, length, Option}
use Rattle.std.specs.Prelude.{Some, None}
use Rattle.std.specs.List.{list_any, AllByRecursion}
use Rattle.proto_model.specs.Tokens.{Text}
use Rattle.proto_model.specs.Numbered.{NumberedProtocol, CheckedProtocol}
use Rattle.proto_model.specs.NumberSets.{has_number}
use Rattle.proto_model.specs.RuleTypes.{rule_atom_agrees, rule_assign_agrees, rule_action_agrees}
use Rattle.proto_model.specs.RuleTypes.{is_directed_rule, is_star_rule}
use Rattle.proto_model.specs.declared.protocol.Carry.{Carry}
use Rattle.proto_model.specs.declared.protocol.Carry.TheVariants as carry
use Rattle.proto_model.specs.declared.protocol.VarKind.{VarKind}
use Rattle.proto_model.specs.declared.protocol.VarKind.TheVariants as kind
use Rattle.proto_model.specs.declared.numbered.Side.{Side}
use Rattle.proto_model.specs.declared.numbered.Side.TheVariants as side
use Rattle.proto_model.specs.declared.numbered.Value.{Value}
use Rattle.proto_model.specs.declared.numbered.Value.TheVariants as value
use Rattle.proto_model.specs.declared.numbered.RuleTerm.{RuleTerm}
use Rattle.proto_model.specs.declared.numbered.RuleTerm.TheVariants as term
use Rattle.proto_model.specs.declared.numbered.RuleExpr.{RuleExpr}
use Rattle.proto_model.specs.declared.numbered.RuleExpr.TheVariants as expr
use Rattle.proto_model.specs.declared.numbered.RuleAtom.{RuleAtom}
use Rattle.proto_model.specs.declared.numbered.RuleAssign.{RuleAssign}
use Rattle.proto_model.specs.declared.numbered.RulePartner.{RulePartner}
use Rattle.proto_model.specs.declared.numbered.RulePartner.TheVariants as partner
use Rattle.proto_model.specs.declared.numbered.RuleKind.{RuleKind}
use Rattle.proto_model.specs.declared.numbered.RuleKind.TheVariants as action
use Rattle.proto_model.specs.declared.numbered.Rule.{Rule}
use Rattle.proto_model.specs.declared.numbered.StateInfo.{StateInfo}
use Rattle.proto_model.specs.declared.numbered.VarInfo.{VarInfo}
use Rattle.proto_model.specs.declared.numbered.MessageInfo.{MessageInfo}
use Rattle.proto_model.specs.declared.numbered.Body.{Body}
use Rattle.proto_model.specs.declared.numbered.NumberedClaim.{NumberedClaim}
use Rattle.proto_model.specs.declared.numbered.NumberedClaim.TheVariants as claim

-- a declared name has at most 32 bytes
abbrev pub IsShortName : Text → Type 0
IsShortName name = length name ≤ 32

-- the bound of an int type is from 2 to 65,536
abbrev pub IsBound : ℕ → Type 0
IsBound n = (2 ≤ n) × (n ≤ 65536)

-- the bound of an int that a message carries is in range
abbrev pub IsProperCarry : Carry → Type 0
IsProperCarry carry.Nothing = Unit {0}
IsProperCarry (carry.Int n) = IsBound n
IsProperCarry carry.Node = Unit {0}
IsProperCarry carry.Set = Unit {0}

-- the bound of a variable that is an int is in range
abbrev pub IsProperKind : VarKind → Type 0
IsProperKind (kind.Int n) = IsBound n
IsProperKind kind.Node = Unit {0}
IsProperKind kind.Set = Unit {0}

-- the first value of an int is a number below its bound, that of a node is none, that of a set is
-- empty
abbrev pub IsFirstValue : VarKind → Value → Type 0
IsFirstValue (kind.Int n) v = (k : ℕ) × (v ≡ value.Int k) × (k < n)
IsFirstValue kind.Node v = v ≡ value.Nowhere
IsFirstValue kind.Set v = v ≡ value.Set 0

-- a variable: its bound is in range, and its first value is one of its type
pub record IsProperVar (v : VarInfo) : Type 0 where
  pub kind : IsProperKind v.kind
  pub first : IsFirstValue v.kind v.first

-- the bound of each variable that is an int is in range
abbrev pub AreProperKinds : List VarInfo → Type 0
AreProperKinds vars = AllByRecursion (λ v. IsProperKind v.kind) vars

-- a number is at most 65,535, a variable is one of so many
abbrev pub IsTermInRange : ℕ → RuleTerm → Type 0
IsTermInRange count (term.Number n) = n < 65536
IsTermInRange count (term.Var place) = place < count
IsTermInRange count term.Nowhere = Unit {0}
IsTermInRange count term.Empty = Unit {0}

-- each term of the expression is in range
abbrev pub IsExprInRange : ℕ → RuleExpr → Type 0
IsExprInRange count (expr.One t) = IsTermInRange count t
IsExprInRange count (expr.Plus t u) = IsTermInRange count t × IsTermInRange count u
IsExprInRange count (expr.Minus t u) = IsTermInRange count t × IsTermInRange count u

-- each variable of the partner is one of so many
abbrev pub IsPartnerInRange : ℕ → RulePartner → Type 0
IsPartnerInRange count partner.Home = Unit {0}
IsPartnerInRange count (partner.Any x) = x < count
IsPartnerInRange count (partner.Member x s) = (x < count) × (s < count)
IsPartnerInRange count (partner.Named x) = x < count

-- the variable that an input binds, if it binds one, is one of so many
abbrev pub IsBoundInRange : ℕ → Option ℕ → Type 0
IsBoundInRange count None = Unit {0}
IsBoundInRange count (Some x) = x < count

-- the value that an output sends, if it sends one, is in range
abbrev pub IsValueInRange : ℕ → Option RuleExpr → Type 0
IsValueInRange count None = Unit {0}
IsValueInRange count (Some e) = IsExprInRange count e

-- The message is one of so many, and each variable that the action names is one of so many.
abbrev pub IsActionInRange : ℕ → ℕ → RuleKind → Type 0
IsActionInRange count messages action.Tau = Unit {0}
IsActionInRange count messages (action.Input p m bound) =
    IsPartnerInRange count p × (m < messages) × IsBoundInRange count bound
IsActionInRange count messages (action.Output p m sent) =
    IsPartnerInRange count p × (m < messages) × IsValueInRange count sent

-- a condition: both sides are in range, and their types are such that the relation compares them
pub record IsProperAtom (vars : List VarInfo) (a : RuleAtom) : Type 0 where
  pub left : IsExprInRange (length vars) a.left
  pub right : IsExprInRange (length vars) a.right
  pub types : rule_atom_agrees vars a ≡ true

-- An assignment: its variable is one of the process, its value is in range and of the type of this
-- variable.
pub record IsProperAssign (vars : List VarInfo) (a : RuleAssign) : Type 0 where
  pub var : a.var < length vars
  pub value : IsExprInRange (length vars) a.value
  pub types : rule_assign_agrees vars a ≡ true

-- What a guard does: all its places are in range, its types agree, its message goes the way that it
-- says, and it meets the home where it is a remote's, and remotes where it is the home's.
pub record IsProperAction (s : Side) (messages : List MessageInfo) (vars : List VarInfo)
    (k : RuleKind) : Type 0 where
  pub in_range : IsActionInRange (length vars) (length messages) k
  pub types : rule_action_agrees vars s messages k ≡ true
  pub direction : is_directed_rule s messages k ≡ true
  pub star : is_star_rule s k ≡ true

-- A guard of a process with these variables and so many states: its action, each condition and each
-- assignment are proper, and it goes to one of the states.
pub record IsProperRule (s : Side) (messages : List MessageInfo) (vars : List VarInfo) (states : ℕ)
    (r : Rule) : Type 0 where
  pub action : IsProperAction s messages vars r.kind
  pub conds : AllByRecursion (IsProperAtom vars) r.conds
  pub assigns : AllByRecursion (IsProperAssign vars) r.assigns
  pub next : r.next < states

-- at most 8 conditions and at most 8 assignments
pub record IsSmallRule (r : Rule) : Type 0 where
  pub few_conds : length r.conds ≤ 8
  pub few_assigns : length r.assigns ≤ 8

-- the guard is an output
abbrev pub is_output_kind : RuleKind → Bool
is_output_kind action.Tau = false
is_output_kind (action.Input p m bound) = false
is_output_kind (action.Output p m sent) = true

-- a remote state with an output has exactly that one guard, without a condition
abbrev pub IsActiveForm : Side → List Rule → Type 0
IsActiveForm side.Home rules = Unit {0}
IsActiveForm side.Remote rules =
    list_any (λ r. is_output_kind r.kind) rules ≡ true
    → (r : Rule) × (rules ≡ r ∷ []) × (r.conds ≡ [])

-- the most guards that a state may have
abbrev pub most_guards : ℕ
most_guards = 16

-- A state of a process with these variables and so many states: its name is not too long, it has at
-- most 16 guards, each is small and proper, and active form holds.
pub record IsProperState (s : Side) (messages : List MessageInfo) (vars : List VarInfo) (states : ℕ)
    (state : StateInfo) : Type 0 where
  pub short_name : IsShortName state.name
  pub few_rules : length state.rules ≤ most_guards
  pub small_rules : AllByRecursion IsSmallRule state.rules
  pub rules : AllByRecursion (IsProperRule s messages vars states) state.rules
  pub active : IsActiveForm s state.rules

-- A process: it has at most 16 variables and 64 states, no name is too long, each variable and each
-- state is proper, and it starts in one of its states.
pub record IsProperBody (s : Side) (messages : List MessageInfo) (body : Body) : Type 0 where
  pub few_vars : length body.vars ≤ 16
  pub few_states : length body.states ≤ 64
  pub short_names : AllByRecursion (λ v. IsShortName v.name) body.vars
  pub vars : AllByRecursion IsProperVar body.vars
  pub start : body.start < length body.states
  pub states : AllByRecursion (IsProperState s messages body.vars (length body.states)) body.states

-- A protocol: it has at most 64 messages, no name is too long, the bound of each int that a message
-- carries is in range, and both processes are proper.
pub record IsProper (n : NumberedProtocol) : Type 0 where
  pub short_name : IsShortName n.name
  pub few_messages : length n.messages ≤ 64
  pub short_names : AllByRecursion (λ m. IsShortName m.name) n.messages
  pub messages : AllByRecursion (λ m. IsProperCarry m.carries) n.messages
  pub home : IsProperBody side.Home n.messages n.home
  pub remote : IsProperBody side.Remote n.messages n.remote

-- each state of the set is one of so many
abbrev pub AreStatesOf : ℕ → ℕ → Type 0
AreStatesOf states set = (s : ℕ) → has_number set s ≡ true → s < states

-- its number is at most 64, and its states are among those of a remote, which are so many
abbrev pub IsProperClaim : ℕ → NumberedClaim → Type 0
IsProperClaim states (claim.AtMost most set) = (most ≤ 64) × AreStatesOf states set
IsProperClaim states (claim.Apart x y) = (x < states) × (y < states)

-- the protocol is proper, and so is each of at most 16 claims
pub record IsProperChecked (c : CheckedProtocol) : Type 0 where
  pub protocol : IsProper c.protocol
  pub few_claims : length c.claims ≤ 16
  pub claims : AllByRecursion (IsProperClaim (length c.protocol.remote.states)) c.claims

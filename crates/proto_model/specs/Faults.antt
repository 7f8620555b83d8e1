-- The items of a protocol in file order, the codes that each has, and the faults.
use Rattle.std.specs.Prelude.{◌≡◌, ℕ, ◌+◌, Bool, true, false, not, ◌&&◌, ◌||◌, nat_lt, nat_le, List}
use Rattle.std.specs.Prelude.{[], ◌∷◌, ◌++◌, length, take, Option, Some, None}
use Rattle.std.specs.List.{list_any}
use Rattle.rv_base.specs.Lists.{map_from}
use Rattle.proto_model.specs.Tokens.{Text}
use Rattle.proto_model.specs.Names.{is_declared, message_names, var_names, state_names}
use Rattle.proto_model.specs.Known.{knows_guard, knows_claim}
use Rattle.proto_model.specs.Agreement.{guard_agrees, is_directed}
use Rattle.proto_model.specs.declared.protocol.Carry.{Carry}
use Rattle.proto_model.specs.declared.protocol.Carry.TheVariants as carry
use Rattle.proto_model.specs.declared.protocol.Message.{Message}
use Rattle.proto_model.specs.declared.protocol.VarKind.{VarKind}
use Rattle.proto_model.specs.declared.protocol.VarKind.TheVariants as kind
use Rattle.proto_model.specs.declared.protocol.Initial.{Initial}
use Rattle.proto_model.specs.declared.protocol.Initial.TheVariants as initial
use Rattle.proto_model.specs.declared.protocol.Var.{Var}
use Rattle.proto_model.specs.declared.protocol.State.{State}
use Rattle.proto_model.specs.declared.protocol.Process.{Process}
use Rattle.proto_model.specs.declared.protocol.Claim.{Claim}
use Rattle.proto_model.specs.declared.protocol.Claim.TheVariants as claim
use Rattle.proto_model.specs.declared.protocol.Protocol.{Protocol}
use Rattle.proto_model.specs.declared.guard.Term.{Term}
use Rattle.proto_model.specs.declared.guard.Term.TheVariants as term
use Rattle.proto_model.specs.declared.guard.Expr.{Expr}
use Rattle.proto_model.specs.declared.guard.Expr.TheVariants as expr
use Rattle.proto_model.specs.declared.guard.Atom.{Atom}
use Rattle.proto_model.specs.declared.guard.Assign.{Assign}
use Rattle.proto_model.specs.declared.guard.Partner.{Partner}
use Rattle.proto_model.specs.declared.guard.Partner.TheVariants as partner
use Rattle.proto_model.specs.declared.guard.GuardKind.{GuardKind}
use Rattle.proto_model.specs.declared.guard.GuardKind.TheVariants as action
use Rattle.proto_model.specs.declared.guard.Guard.{Guard}
use Rattle.proto_model.specs.declared.numbered.Side.{Side}
use Rattle.proto_model.specs.declared.numbered.Side.TheVariants as side

-- ---- the codes of faults, in rising order

-- there are more of a kind than its limit allows
abbrev pub too_many : ℕ
too_many = 10

-- a declared name has more than 32 bytes
abbrev pub name_too_long : ℕ
name_too_long = 11

-- an earlier declaration of its kind has the name
abbrev pub duplicate : ℕ
duplicate = 12

-- a name is used that is not declared
abbrev pub unknown : ℕ
unknown = 13

-- types do not agree
abbrev pub wrong_type : ℕ
wrong_type = 14

-- a message goes the other way
abbrev pub wrong_direction : ℕ
wrong_direction = 15

-- a guard meets a process that the star form does not let it meet
abbrev pub not_star : ℕ
not_star = 16

-- a remote state has an output and a further guard
abbrev pub active_mixed : ℕ
active_mixed = 17

-- a remote's output has a condition
abbrev pub active_condition : ℕ
active_condition = 18

-- a number is out of range
abbrev pub bad_number : ℕ
bad_number = 19

-- ---- what each item has

-- the code, where the test holds
abbrev pub when : Bool → ℕ → List ℕ
when true code = code ∷ []
when false code = []

-- A declared name has at most 32 bytes.
abbrev pub name_codes : Text → List ℕ
name_codes name = when (nat_lt 32 (length name)) name_too_long

-- Of a message, variable or state that stands at this place, counted from 0, among those of its
-- kind: at most `most` are allowed, its name is not too long, and no earlier one has it.
abbrev pub declaration_codes : ℕ → List Text → ℕ → Text → List ℕ
declaration_codes most names place name =
    when (nat_le most place) too_many
    ++ (name_codes name ++ when (is_declared name (take place names)) duplicate)

-- the bound of an int type is from 2 to 65,536
abbrev pub is_bad_bound : ℕ → Bool
is_bad_bound n = nat_lt n 2 || nat_lt 65536 n

-- the message carries an int whose bound is out of range
abbrev pub is_bad_carry : Carry → Bool
is_bad_carry carry.Nothing = false
is_bad_carry (carry.Int n) = is_bad_bound n
is_bad_carry carry.Node = false
is_bad_carry carry.Set = false

-- at most 64 messages
abbrev pub message_codes : List Message → ℕ → Message → List ℕ
message_codes messages place m =
    declaration_codes 64 (message_names messages) place m.name
    ++ when (is_bad_carry m.carries) bad_number

-- the first value of an int is a number, that of a node is none, that of a set is empty
abbrev pub is_first_of : VarKind → Initial → Bool
is_first_of (kind.Int n) (initial.Number k) = true
is_first_of kind.Node initial.Nowhere = true
is_first_of kind.Set initial.Empty = true
is_first_of _ _ = false

-- the variable is an int whose bound is out of range
abbrev pub is_bad_kind : VarKind → Bool
is_bad_kind (kind.Int n) = is_bad_bound n
is_bad_kind kind.Node = false
is_bad_kind kind.Set = false

-- the first number of an int is not below its bound
abbrev pub is_past_bound : VarKind → Initial → Bool
is_past_bound (kind.Int n) (initial.Number k) = nat_le n k
is_past_bound _ _ = false

-- at most 16 variables in a process
abbrev pub var_codes : List Var → ℕ → Var → List ℕ
var_codes vars place v =
    declaration_codes 16 (var_names vars) place v.name
    ++ (when (not (is_first_of v.kind v.first)) wrong_type
    ++ when (is_bad_kind v.kind || is_past_bound v.kind v.first) bad_number)

-- the start is a declared state
abbrev pub start_codes : List State → Text → List ℕ
start_codes states start = when (not (is_declared start (state_names states))) unknown

-- the guard is an output
abbrev pub is_output_action : GuardKind → Bool
is_output_action action.Tau = false
is_output_action (action.Input p m bound) = false
is_output_action (action.Output p m value) = true

-- a remote state with an output has no other guard
abbrev pub is_mixed : Side → List Guard → Bool
is_mixed side.Home guards = false
is_mixed side.Remote guards =
    list_any (λ g. is_output_action g.kind) guards && nat_lt 1 (length guards)

-- at most 64 states in a process
abbrev pub state_codes : Side → List State → ℕ → State → List ℕ
state_codes s states place state =
    declaration_codes 64 (state_names states) place state.name
    ++ when (is_mixed s state.guards) active_mixed

-- the partner of a remote's guard is `home`, that of a home's guard is not
abbrev pub is_star_partner : Side → Partner → Bool
is_star_partner side.Home partner.Home = false
is_star_partner side.Home _ = true
is_star_partner side.Remote partner.Home = true
is_star_partner side.Remote _ = false

-- star form: a guard that meets a process meets one that its side may meet
abbrev pub is_star : Side → GuardKind → Bool
is_star s action.Tau = true
is_star s (action.Input p m bound) = is_star_partner s p
is_star s (action.Output p m value) = is_star_partner s p

-- a remote's output has no condition
abbrev pub is_conditioned_output : Side → Guard → Bool
is_conditioned_output side.Home g = false
is_conditioned_output side.Remote g = is_output_action g.kind && nat_lt 0 (length g.conds)

-- a number that a guard writes is at most 65,535
abbrev pub is_large_term : Term → Bool
is_large_term (term.Number n) = nat_lt 65535 n
is_large_term (term.Named name) = false
is_large_term term.Nowhere = false
is_large_term term.Empty = false

-- a number in the expression is above 65,535
abbrev pub is_large_expr : Expr → Bool
is_large_expr (expr.One t) = is_large_term t
is_large_expr (expr.Plus t u) = is_large_term t || is_large_term u
is_large_expr (expr.Minus t u) = is_large_term t || is_large_term u

-- a number in the condition is above 65,535
abbrev pub is_large_atom : Atom → Bool
is_large_atom a = is_large_expr a.left || is_large_expr a.right

-- a number in the value that is assigned is above 65,535
abbrev pub is_large_assign : Assign → Bool
is_large_assign a = is_large_expr a.value

-- a number in the value that is sent is above 65,535
abbrev pub is_large_action : GuardKind → Bool
is_large_action action.Tau = false
is_large_action (action.Input p m bound) = false
is_large_action (action.Output p m None) = false
is_large_action (action.Output p m (Some value)) = is_large_expr value

-- some number that the guard writes, sent, compared or assigned, is above 65,535
abbrev pub is_large_guard : Guard → Bool
is_large_guard g =
    is_large_action g.kind
    || (list_any is_large_atom g.conds || list_any is_large_assign g.assigns)

-- it is after the 16th guard of its state, or it has more than 8 atoms or more than 8 assignments
abbrev pub is_guard_too_many : ℕ → Guard → Bool
is_guard_too_many place g =
    nat_le 16 place || (nat_lt 8 (length g.conds) || nat_lt 8 (length g.assigns))

-- what the guards of a process can name, and which process it is
pub record Scope : Type 0 where
  pub side : Side
  pub messages : List Message
  pub vars : List Var
  pub states : List State

-- Of a guard whose names are declared, or not: types and directions are asked only where they are.
abbrev pub meaning_codes : Bool → Scope → Guard → List ℕ
meaning_codes false s g = unknown ∷ []
meaning_codes true s g =
    when (not (guard_agrees s.side s.messages s.vars g)) wrong_type
    ++ when (not (is_directed s.side s.messages g.kind)) wrong_direction

-- The codes of a guard at this place among those of its state: too many, unknown or what its types
-- and its direction give, star form, active form, and its numbers.
abbrev pub guard_codes : Scope → ℕ → Guard → List ℕ
guard_codes s place g =
    when (is_guard_too_many place g) too_many
    ++ (meaning_codes (knows_guard s.side s.messages s.vars s.states g) s g
    ++ (when (not (is_star s.side g.kind)) not_star
    ++ (when (is_conditioned_output s.side g) active_condition
    ++ when (is_large_guard g) bad_number)))

-- it is after the 16th claim, or it names more than 64 states
abbrev pub is_claim_too_many : ℕ → Claim → Bool
is_claim_too_many place (claim.AtMost most states) = nat_le 16 place || nat_lt 64 (length states)
is_claim_too_many place (claim.Apart x y) = nat_le 16 place

-- the number of a claim is at most 64
abbrev pub is_large_claim : Claim → Bool
is_large_claim (claim.AtMost most states) = nat_lt 64 most
is_large_claim (claim.Apart x y) = false

-- of a claim on the states of the remote
abbrev pub claim_codes : List State → ℕ → Claim → List ℕ
claim_codes states place c =
    when (is_claim_too_many place c) too_many
    ++ (when (not (knows_claim states c)) unknown ++ when (is_large_claim c) bad_number)

-- each state is followed at once by its guards
abbrev pub states_from : Scope → ℕ → List State → List (List ℕ)
states_from s n [] = []
states_from s n (state ∷ states) =
    state_codes s.side s.states n state
    ∷ (map_from (guard_codes s) 0 state.guards ++ states_from s (n + 1) states)

-- the scope of the guards of this process
abbrev pub scope_of : Side → List Message → Process → Scope
scope_of s messages p = record { side = s; messages = messages; vars = p.vars; states = p.states }

-- the variables, the start, the states with their guards
abbrev pub process_codes : Scope → Text → List (List ℕ)
process_codes s start =
    map_from (var_codes s.vars) 0 s.vars ++ start_codes s.states start ∷ states_from s 0 s.states

-- The codes of each item in file order: the header, each message, the word `home` and the items of
-- the home, the word `remote` and the items of the remote, each claim. The two words have none.
abbrev pub item_codes : Protocol → List (List ℕ)
item_codes p =
    name_codes p.name
    ∷ (map_from (message_codes p.messages) 0 p.messages
    ++ [] ∷ (process_codes (scope_of side.Home p.messages p.home) p.home.start
    ++ [] ∷ (process_codes (scope_of side.Remote p.messages p.remote) p.remote.start
    ++ map_from (claim_codes p.remote.states) 0 p.claims)))

-- each item that has a code, with its least one; the items count from n
abbrev pub faults_from : ℕ → List (List ℕ) → List (ℕ × ℕ)
faults_from n [] = []
faults_from n ([] ∷ items) = faults_from (n + 1) items
faults_from n ((code ∷ more) ∷ items) = (n, code) ∷ faults_from (n + 1) items

-- the faults of a protocol in file order, each an item, counted from 0, and its least code
abbrev pub faults : Protocol → List (ℕ × ℕ)
faults p = faults_from 0 (item_codes p)

-- the first item, if there is one
abbrev pub first : {A : Type 0} → List A → Option A
first [] = None
first (x ∷ xs) = Some x

-- the fault of the least item that has one
abbrev pub first_fault : Protocol → Option (ℕ × ℕ)
first_fault p = first (faults p)

-- no item has a fault
abbrev pub IsWellFormed : Protocol → Type 0
IsWellFormed p = faults p ≡ []

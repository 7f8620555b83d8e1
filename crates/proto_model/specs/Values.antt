-- The values that guards compute with: what an expression is worth, whether a guard is open, whom
-- it may meet, what it sends, and the variables after it is completed.
use Rattle.std.specs.Prelude.{ℕ, ◌+◌, ◌-◌, ◌%◌, Bool, true, false, not, ◌==◌, nat_lt, nat_le, List}
use Rattle.std.specs.Prelude.{slice_get, slice_set, Option, Some, None, unwrap_or, map, fold}
use Rattle.std.specs.Option.{option_map_or}
use Rattle.std.specs.List.{list_all}
use Rattle.proto_model.specs.NumberSets.{has_number, with_number, without_number, numbers_below}
use Rattle.proto_model.specs.declared.protocol.Carry.{Carry}
use Rattle.proto_model.specs.declared.protocol.Carry.TheVariants as carry
use Rattle.proto_model.specs.declared.protocol.VarKind.{VarKind}
use Rattle.proto_model.specs.declared.protocol.VarKind.TheVariants as kind
use Rattle.proto_model.specs.declared.guard.Rel.{Rel}
use Rattle.proto_model.specs.declared.guard.Rel.TheVariants as rel
use Rattle.proto_model.specs.declared.numbered.Value.{Value}
use Rattle.proto_model.specs.declared.numbered.Value.TheVariants as value
use Rattle.proto_model.specs.declared.numbered.RuleTerm.{RuleTerm}
use Rattle.proto_model.specs.declared.numbered.RuleTerm.TheVariants as term
use Rattle.proto_model.specs.declared.numbered.RuleExpr.{RuleExpr}
use Rattle.proto_model.specs.declared.numbered.RuleExpr.TheVariants as expr
use Rattle.proto_model.specs.declared.numbered.RuleAtom.{RuleAtom}
use Rattle.proto_model.specs.declared.numbered.RuleAssign.{RuleAssign}
use Rattle.proto_model.specs.declared.numbered.RulePartner.{RulePartner}
use Rattle.proto_model.specs.declared.numbered.RulePartner.TheVariants as partner
use Rattle.proto_model.specs.declared.numbered.RuleKind.{RuleKind}
use Rattle.proto_model.specs.declared.numbered.RuleKind.TheVariants as action
use Rattle.proto_model.specs.declared.numbered.Rule.{Rule}
use Rattle.proto_model.specs.declared.numbered.VarInfo.{VarInfo}

-- a + b: ints are added modulo 65,536, a set gets the node; adding none changes nothing
abbrev pub plus : Value → Value → Value
plus (value.Int a) (value.Int b) = value.Int ((a + b) % 65536)
plus (value.Set s) (value.Node j) = value.Set (with_number s j)
plus a _ = a

-- a - b: ints are subtracted modulo 65,536, a set loses the node; removing none changes nothing
abbrev pub minus : Value → Value → Value
minus (value.Int a) (value.Int b) = value.Int ((a + 65536 - b) % 65536)
minus (value.Set s) (value.Node j) = value.Set (without_number s j)
minus a _ = a

-- the two values are the same
abbrev pub same_value : Value → Value → Bool
same_value value.Unit value.Unit = true
same_value (value.Int a) (value.Int b) = a == b
same_value value.Nowhere value.Nowhere = true
same_value (value.Node i) (value.Node j) = i == j
same_value (value.Set s) (value.Set t) = s == t
same_value _ _ = false

-- of two ints, the first is below the second
abbrev pub is_below : Value → Value → Bool
is_below (value.Int a) (value.Int b) = nat_lt a b
is_below _ _ = false

-- of two ints, the first is at most the second
abbrev pub is_at_most : Value → Value → Bool
is_at_most (value.Int a) (value.Int b) = nat_le a b
is_at_most _ _ = false

-- a node is in a set; none is in no set
abbrev pub is_in : Value → Value → Bool
is_in (value.Node j) (value.Set s) = has_number s j
is_in _ _ = false

-- the relations eq, ne, lt, le, in and notin
abbrev pub is_related : Rel → Value → Value → Bool
is_related rel.Eq a b = same_value a b
is_related rel.Ne a b = not (same_value a b)
is_related rel.Lt a b = is_below a b
is_related rel.Le a b = is_at_most a b
is_related rel.Inside a b = is_in a b
is_related rel.Outside a b = not (is_in a b)

-- the value is the remote j
abbrev pub is_node : Value → ℕ → Bool
is_node (value.Node i) j = i == j
is_node _ j = false

-- the value is a set that has the remote j
abbrev pub is_set_with : Value → ℕ → Bool
is_set_with (value.Set s) j = has_number s j
is_set_with _ j = false

-- an int modulo n; no other value changes
abbrev pub modulo : ℕ → Value → Value
modulo n (value.Int k) = value.Int (k % n)
modulo n v = v

-- a value that is sent in a message: as `int n` it is reduced modulo n
abbrev pub reduced : Carry → Value → Value
reduced carry.Nothing v = v
reduced (carry.Int n) v = modulo n v
reduced carry.Node v = v
reduced carry.Set v = v

-- a value that is stored in a variable: as `int n` it is reduced modulo n
abbrev pub stored : VarKind → Value → Value
stored (kind.Int n) v = modulo n v
stored kind.Node v = v
stored kind.Set v = v

-- over the variables of a process
module _ (vars : List Value) where
  -- the value of the variable at this place
  abbrev pub var_value : ℕ → Value
  var_value place = unwrap_or (slice_get vars place) value.Unit

  -- what a term is worth: none is no remote, empty the set without a remote
  abbrev pub term_value : RuleTerm → Value
  term_value (term.Number n) = value.Int n
  term_value (term.Var place) = var_value place
  term_value term.Nowhere = value.Nowhere
  term_value term.Empty = value.Set 0

  -- what an expression is worth
  abbrev pub value_of : RuleExpr → Value
  value_of (expr.One t) = term_value t
  value_of (expr.Plus t u) = plus (term_value t) (term_value u)
  value_of (expr.Minus t u) = minus (term_value t) (term_value u)

  -- the condition is true
  abbrev pub holds : RuleAtom → Bool
  holds a = is_related a.rel (value_of a.left) (value_of a.right)

  -- a guard is open where all its conditions are true; without conditions it is open
  abbrev pub is_open : Rule → Bool
  is_open rule = list_all holds rule.conds

  -- Remote j is a target: of `any x` each remote is, of `any x in s` each in s, of `x` the one that
  -- x holds. The partner `home` has no targets.
  abbrev pub is_target : RulePartner → ℕ → Bool
  is_target partner.Home j = false
  is_target (partner.Any x) j = true
  is_target (partner.Member x s) j = is_set_with (var_value s) j
  is_target (partner.Named x) j = is_node (var_value x) j

  -- remote j is a target of the guard's partner; a local step has none
  abbrev pub may_meet : RuleKind → ℕ → Bool
  may_meet action.Tau j = false
  may_meet (action.Input p m bound) j = is_target p j
  may_meet (action.Output p m sent) j = is_target p j

  -- the targets of the guard among the remotes below n, as a set
  abbrev pub target_set : Rule → ℕ → ℕ
  target_set rule n = numbers_below (may_meet rule.kind) n

  -- the value of what stands behind an output, which may be nothing
  abbrev pub offered : Option RuleExpr → Value
  offered None = value.Unit
  offered (Some e) = value_of e

  -- the value that an output of a message that carries this sends
  abbrev pub sends : RuleKind → Carry → Value
  sends action.Tau carries = value.Unit
  sends (action.Input p m bound) carries = value.Unit
  sends (action.Output p m sent) carries = reduced carries (offered sent)

-- the first value of each variable
abbrev pub first_values : List VarInfo → List Value
first_values infos = map (λ info. info.first) infos

-- over the declarations of the variables of a process
module _ (infos : List VarInfo) where
  -- the value as the variable at this place stores it
  abbrev pub stored_at : ℕ → Value → Value
  stored_at place v = option_map_or (λ info. stored info.kind v) (slice_get infos place) v

  -- the variables after the one at this place got the value
  abbrev pub with_var : List Value → ℕ → Value → List Value
  with_var vars place v = slice_set vars place (stored_at place v)

  -- for `any x` and `any x in s`, x becomes the partner
  abbrev pub with_partner : List Value → RulePartner → ℕ → List Value
  with_partner vars partner.Home j = vars
  with_partner vars (partner.Any x) j = with_var vars x (value.Node j)
  with_partner vars (partner.Member x s) j = with_var vars x (value.Node j)
  with_partner vars (partner.Named x) j = vars

  -- the variable that an input binds, if it binds one, becomes the value
  abbrev pub with_bound : List Value → Option ℕ → Value → List Value
  with_bound vars None v = vars
  with_bound vars (Some x) v = with_var vars x v

  -- the variables after the meeting, before the assignments
  abbrev pub after_meeting : List Value → RuleKind → ℕ → Value → List Value
  after_meeting vars action.Tau j v = vars
  after_meeting vars (action.Input p m bound) j v = with_bound (with_partner vars p j) bound v
  after_meeting vars (action.Output p m sent) j v = with_partner vars p j

  -- the variables after this assignment
  abbrev pub after_assign : List Value → RuleAssign → List Value
  after_assign vars a = with_var vars a.var (value_of vars a.value)

  -- The variables after the guard is completed with partner j and value v: the partner variable is
  -- set, then the bound variable, and then the assignments are made in order, each seeing the ones
  -- before.
  abbrev pub completed : List Value → Rule → ℕ → Value → List Value
  completed vars rule j v = fold after_assign (after_meeting vars rule.kind j v) rule.assigns

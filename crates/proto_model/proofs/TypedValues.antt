-- What an expression is worth is of the expression's type, where each variable is of its own.
use Rattle.std.proofs.Common.{◌≡◌, ℕ, zero, suc, ◌+◌, ◌-◌, ◌<◌, ◌≤◌, List, [], ◌∷◌, length, Option}
use Rattle.std.proofs.Common.{Some, None, slice_get, lit<, refl, subst, arith}
use Rattle.std.specs.List.{AllByRecursion}
use Rattle.std.proofs.lemmas.Nat.{mod_below}
use Rattle.proto_model.specs.Types.{kind_type, operation_type}
use Rattle.proto_model.specs.RuleTypes.{rule_var_type, rule_term_type, rule_expr_type}
use Rattle.proto_model.specs.Proper.{IsProperKind, IsProperVar, IsTermInRange, IsExprInRange}
use Rattle.proto_model.specs.Values.{plus, minus, modulo, stored, var_value, term_value, value_of}
use Rattle.proto_model.specs.ValueTypes.{IsIntBelow, IsNode, IsSet, IsOfKind, AreOfKinds}
use Rattle.rv_base.proofs.Lists.{AllByRecursion-at}
use Rattle.proto_model.specs.declared.protocol.VarKind.{VarKind}
use Rattle.proto_model.specs.declared.protocol.VarKind.TheVariants as kind
use Rattle.proto_model.specs.declared.numbered.ValueType.{ValueType}
use Rattle.proto_model.specs.declared.numbered.ValueType.TheVariants as type
use Rattle.proto_model.specs.declared.numbered.Value.{Value}
use Rattle.proto_model.specs.declared.numbered.Value.TheVariants as value
use Rattle.proto_model.specs.declared.numbered.RuleTerm.{RuleTerm}
use Rattle.proto_model.specs.declared.numbered.RuleTerm.TheVariants as term
use Rattle.proto_model.specs.declared.numbered.RuleExpr.{RuleExpr}
use Rattle.proto_model.specs.declared.numbered.RuleExpr.TheVariants as expr
use Rattle.proto_model.specs.declared.numbered.VarInfo.{VarInfo}

-- the value is of the type; an int of any bound is a number below 65,536
abbrev pub IsOf : ValueType → Value → Type 0
IsOf type.Int v = IsIntBelow 65536 v
IsOf type.Node v = IsNode v
IsOf type.Set v = IsSet v

pub IsIntBelow-le : (m n : ℕ) (v : Value) → m ≤ n → IsIntBelow m v → IsIntBelow n v
IsIntBelow-le m n value.Unit le is = is
IsIntBelow-le m n (value.Int k) le is = omega arith
IsIntBelow-le m n value.Nowhere le is = is
IsIntBelow-le m n (value.Node j) le is = is
IsIntBelow-le m n (value.Set s) le is = is

-- a value of a variable's type is of the type of that
pub IsOf-kind : (k : VarKind) (v : Value) → IsProperKind k → IsOfKind k v → IsOf (kind_type k) v
IsOf-kind (kind.Int n) v proper is = IsIntBelow-le n 65536 v proper.1 is
IsOf-kind kind.Node v proper is = is
IsOf-kind kind.Set v proper is = is

pub IsIntBelow-modulo : (m n : ℕ) (v : Value) → 0 < n → IsIntBelow m v → IsIntBelow n (modulo n v)
IsIntBelow-modulo m n value.Unit positive is = is
IsIntBelow-modulo m n (value.Int k) positive is = mod_below k n positive
IsIntBelow-modulo m n value.Nowhere positive is = is
IsIntBelow-modulo m n (value.Node j) positive is = is
IsIntBelow-modulo m n (value.Set s) positive is = is

-- what a variable stores is of its type
pub IsOfKind-stored : (k : VarKind) (v : Value) → IsProperKind k → IsOf (kind_type k) v
    → IsOfKind k (stored k v)
IsOfKind-stored (kind.Int n) v proper is = IsIntBelow-modulo 65536 n v (omega (arith, proper.0)) is
IsOfKind-stored kind.Node v proper is = is
IsOfKind-stored kind.Set v proper is = is

some_type : (t u : ValueType) (v : Value) → ◌≡◌ {A = Option ValueType} (Some t) (Some u) → IsOf t v
    → IsOf u v
some_type t u v e is = let same : t ≡ u = cc in subst (λ (w : ValueType). IsOf w v) same is

-- an operation on two ints, and on a set and a node
record IsOperation (f : Value → Value → Value) : Type 0 where
  ints : (a b : ℕ) → IsIntBelow 65536 (f (value.Int a) (value.Int b))
  sets : (s : ℕ) (v : Value) → IsNode v → IsSet (f (value.Set s) v)

on_ints : (f : Value → Value → Value) → IsOperation f → (v w : Value) → IsIntBelow 65536 v
    → IsIntBelow 65536 w → IsIntBelow 65536 (f v w)
on_ints f operation (value.Int a) (value.Int b) first second = operation.ints a b
on_ints f operation (value.Int a) value.Unit first second = absurd second
on_ints f operation (value.Int a) value.Nowhere first second = absurd second
on_ints f operation (value.Int a) (value.Node j) first second = absurd second
on_ints f operation (value.Int a) (value.Set s) first second = absurd second
on_ints f operation value.Unit w first second = absurd first
on_ints f operation value.Nowhere w first second = absurd first
on_ints f operation (value.Node j) w first second = absurd first
on_ints f operation (value.Set s) w first second = absurd first

on_set : (f : Value → Value → Value) → IsOperation f → (v w : Value) → IsSet v → IsNode w
    → IsSet (f v w)
on_set f operation (value.Set s) w first second = operation.sets s w second
on_set f operation value.Unit w first second = absurd first
on_set f operation (value.Int k) w first second = absurd first
on_set f operation value.Nowhere w first second = absurd first
on_set f operation (value.Node j) w first second = absurd first

on_types : (f : Value → Value → Value) → IsOperation f → (t u w : ValueType) (a b : Value)
    → operation_type (Some t) (Some u) ≡ Some w → IsOf t a → IsOf u b → IsOf w (f a b)
on_types f operation type.Int type.Int w a b e first second =
    some_type type.Int w (f a b) e (on_ints f operation a b first second)
on_types f operation type.Set type.Node w a b e first second =
    some_type type.Set w (f a b) e (on_set f operation a b first second)
on_types f operation type.Int type.Node w a b e first second = absurd (cc)
on_types f operation type.Int type.Set w a b e first second = absurd (cc)
on_types f operation type.Node u w a b e first second = absurd (cc)
on_types f operation type.Set type.Int w a b e first second = absurd (cc)
on_types f operation type.Set type.Set w a b e first second = absurd (cc)

-- the value is of the type, where there is one
abbrev IsOfAny : Option ValueType → Value → Type 0
IsOfAny t v = (u : ValueType) → t ≡ Some u → IsOf u v

-- what an operation gives is of the type that its operands give it
operation-type : (f : Value → Value → Value) → IsOperation f
    → (l r : Option ValueType) (w : ValueType) (a b : Value) → operation_type l r ≡ Some w
    → IsOfAny l a → IsOfAny r b → IsOf w (f a b)
operation-type f operation None None w a b e first second = absurd (cc)
operation-type f operation None (Some u) w a b e first second = absurd (cc)
operation-type f operation (Some type.Int) None w a b e first second = absurd (cc)
operation-type f operation (Some type.Node) None w a b e first second = absurd (cc)
operation-type f operation (Some type.Set) None w a b e first second = absurd (cc)
operation-type f operation (Some t) (Some u) w a b e first second =
    on_types f operation t u w a b e (first t refl) (second u refl)

set-plus : (s : ℕ) (v : Value) → IsNode v → IsSet (plus (value.Set s) v)
set-plus s value.Nowhere is = tt
set-plus s (value.Node j) is = tt
set-plus s value.Unit is = absurd is
set-plus s (value.Int k) is = absurd is
set-plus s (value.Set t) is = absurd is

set-minus : (s : ℕ) (v : Value) → IsNode v → IsSet (minus (value.Set s) v)
set-minus s value.Nowhere is = tt
set-minus s (value.Node j) is = tt
set-minus s value.Unit is = absurd is
set-minus s (value.Int k) is = absurd is
set-minus s (value.Set t) is = absurd is

plus-operation : IsOperation plus
plus-operation = record { ints = λ a b. mod_below (a + b) 65536 (lit< tt); sets = set-plus }

minus-operation : IsOperation minus
minus-operation =
    record { ints = λ a b. mod_below (a + 65536 - b) 65536 (lit< tt); sets = set-minus }

-- the value of a variable is of its type
pub IsOfKind-at : (infos : List VarInfo) (vars : List Value) (place : ℕ) (info : VarInfo)
    → AreOfKinds infos vars → slice_get infos place ≡ Some info
    → IsOfKind info.kind (var_value vars place)
IsOfKind-at [] vars place info kinds at = absurd (cc)
IsOfKind-at (i ∷ is) [] place info kinds at = absurd kinds
IsOfKind-at (i ∷ is) (v ∷ vs) zero info kinds at =
    let same : i ≡ info = cc in subst (λ (j : VarInfo). IsOfKind j.kind v) same kinds.0
IsOfKind-at (i ∷ is) (v ∷ vs) (suc place) info kinds at = IsOfKind-at is vs place info kinds.1 at

-- a variable that has a type is declared, and the type is that of its declaration
pub declared : (infos : List VarInfo) (place : ℕ) (t : ValueType)
    → rule_var_type infos place ≡ Some t
    → (info : VarInfo) × (slice_get infos place ≡ Some info) × (kind_type info.kind ≡ t)
declared [] place t e = absurd (cc)
declared (i ∷ is) zero t e = let same : kind_type i.kind ≡ t = cc in (i, refl, same)
declared (i ∷ is) (suc place) t e = declared is place t e

-- the variables of a process: its declarations are proper, and each value is of its variable's type
pub record AreTyped (infos : List VarInfo) (vars : List Value) : Type 0 where
  pub proper : AllByRecursion IsProperVar infos
  pub kinds : AreOfKinds infos vars

var_value-type : (infos : List VarInfo) (vars : List Value) (place : ℕ) (t : ValueType)
    → AreTyped infos vars → rule_var_type infos place ≡ Some t → IsOf t (var_value vars place)
var_value-type infos vars place t typed e =
    let found = declared infos place t e in
    let info = found.0 in
    let is = IsOf-kind info.kind (var_value vars place)
    (AllByRecursion-at IsProperVar infos place info typed.proper found.1).kind
    (IsOfKind-at infos vars place info typed.kinds found.1) in
    subst (λ (u : ValueType). IsOf u (var_value vars place)) found.2 is

pub term_value-type : (infos : List VarInfo) (vars : List Value) (x : RuleTerm) (t : ValueType)
    → AreTyped infos vars → IsTermInRange (length infos) x → rule_term_type infos x ≡ Some t
    → IsOf t (term_value vars x)
term_value-type infos vars (term.Number n) t typed range e =
    some_type type.Int t (value.Int n) e range
term_value-type infos vars (term.Var place) t typed range e =
    var_value-type infos vars place t typed e
term_value-type infos vars term.Nowhere t typed range e = some_type type.Node t value.Nowhere e tt
term_value-type infos vars term.Empty t typed range e = some_type type.Set t (value.Set 0) e tt

-- what an expression is worth is of its type
pub value_of-type : (infos : List VarInfo) (vars : List Value) (x : RuleExpr) (t : ValueType)
    → AreTyped infos vars → IsExprInRange (length infos) x → rule_expr_type infos x ≡ Some t
    → IsOf t (value_of vars x)
value_of-type infos vars (expr.One x) t typed range e = term_value-type infos vars x t typed range e
value_of-type infos vars (expr.Plus x y) t typed range e =
    operation-type plus plus-operation (rule_term_type infos x) (rule_term_type infos y) t
    (term_value vars x) (term_value vars y) e
    (λ u is. term_value-type infos vars x u typed range.0 is)
    (λ u is. term_value-type infos vars y u typed range.1 is)
value_of-type infos vars (expr.Minus x y) t typed range e =
    operation-type minus minus-operation (rule_term_type infos x) (rule_term_type infos y) t
    (term_value vars x) (term_value vars y) e
    (λ u is. term_value-type infos vars x u typed range.0 is)
    (λ u is. term_value-type infos vars y u typed range.1 is)

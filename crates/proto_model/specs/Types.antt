-- The types of values, int, node and set, and which types agree. All ints are of one type, whatever
-- their bound. An expression whose operands have other types than its operator takes has no type.
use Rattle.std.specs.Prelude.{Bool, true, false, ◌&&◌, if◌then◌else◌, Option, Some, None, is_none}
use Rattle.proto_model.specs.declared.protocol.Carry.{Carry}
use Rattle.proto_model.specs.declared.protocol.Carry.TheVariants as carry
use Rattle.proto_model.specs.declared.protocol.VarKind.{VarKind}
use Rattle.proto_model.specs.declared.protocol.VarKind.TheVariants as kind
use Rattle.proto_model.specs.declared.guard.Rel.{Rel}
use Rattle.proto_model.specs.declared.guard.Rel.TheVariants as rel
use Rattle.proto_model.specs.declared.numbered.ValueType.{ValueType}
use Rattle.proto_model.specs.declared.numbered.ValueType.TheVariants as type

-- the type of a variable
abbrev pub kind_type : VarKind → ValueType
kind_type (kind.Int n) = type.Int
kind_type kind.Node = type.Node
kind_type kind.Set = type.Set

-- the type of the value of a message, which may carry nothing
abbrev pub carried_type : Carry → Option ValueType
carried_type carry.Nothing = None
carried_type (carry.Int n) = Some type.Int
carried_type carry.Node = Some type.Node
carried_type carry.Set = Some type.Set

-- the two types are the same
abbrev pub same_type : ValueType → ValueType → Bool
same_type type.Int type.Int = true
same_type type.Node type.Node = true
same_type type.Set type.Set = true
same_type _ _ = false

-- there is a type, and it is this one
abbrev pub is_of_type : ValueType → Option ValueType → Bool
is_of_type t None = false
is_of_type t (Some u) = same_type t u

-- there are two types, and they are the same
abbrev pub are_of_one_type : Option ValueType → Option ValueType → Bool
are_of_one_type None right = false
are_of_one_type (Some t) right = is_of_type t right

-- The type of a + b and of a - b: of two ints it is int, of a set and a node it is set. No other
-- operands are allowed.
abbrev pub operation_type : Option ValueType → Option ValueType → Option ValueType
operation_type left right =
    if is_of_type type.Int left && is_of_type type.Int right then Some type.Int
    else (if is_of_type type.Set left && is_of_type type.Node right then Some type.Set else None)

-- eq and ne compare two values of one type, lt and le two ints, in and notin a node with a set
abbrev pub relation_agrees : Rel → Option ValueType → Option ValueType → Bool
relation_agrees rel.Eq left right = are_of_one_type left right
relation_agrees rel.Ne left right = are_of_one_type left right
relation_agrees rel.Lt left right = is_of_type type.Int left && is_of_type type.Int right
relation_agrees rel.Le left right = is_of_type type.Int left && is_of_type type.Int right
relation_agrees rel.Inside left right = is_of_type type.Node left && is_of_type type.Set right
relation_agrees rel.Outside left right = is_of_type type.Node left && is_of_type type.Set right

-- An input may leave the value of its message unbound. A variable that it binds is of the type that
-- the message carries, so none is bound where the message carries nothing.
abbrev pub bound_agrees : Option ValueType → Option (Option ValueType) → Bool
bound_agrees carried None = true
bound_agrees carried (Some bound) = are_of_one_type carried bound

-- An output has a value exactly where its message carries one, and of the type that it carries.
abbrev pub value_agrees : Option ValueType → Option (Option ValueType) → Bool
value_agrees carried None = is_none carried
value_agrees carried (Some value) = are_of_one_type carried value

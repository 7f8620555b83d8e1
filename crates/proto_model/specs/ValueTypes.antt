-- Which values are of which type.
use Rattle.std.specs.Prelude.{◌≡◌, ℕ, ◌<◌, List, [], ◌∷◌, slice_get, Option, Some, None}
use Rattle.std.specs.List.{AllByRecursion}
use Rattle.proto_model.specs.Proper.{IsProperCarry, IsProperVar, IsProperRule}
use Rattle.proto_model.specs.declared.protocol.Carry.{Carry}
use Rattle.proto_model.specs.declared.protocol.Carry.TheVariants as carry
use Rattle.proto_model.specs.declared.protocol.VarKind.{VarKind}
use Rattle.proto_model.specs.declared.protocol.VarKind.TheVariants as kind
use Rattle.proto_model.specs.declared.numbered.Value.{Value}
use Rattle.proto_model.specs.declared.numbered.Value.TheVariants as value
use Rattle.proto_model.specs.declared.numbered.Side.{Side}
use Rattle.proto_model.specs.declared.numbered.Rule.{Rule}
use Rattle.proto_model.specs.declared.numbered.RuleKind.{RuleKind}
use Rattle.proto_model.specs.declared.numbered.RuleKind.TheVariants as action
use Rattle.proto_model.specs.declared.numbered.VarInfo.{VarInfo}
use Rattle.proto_model.specs.declared.numbered.MessageInfo.{MessageInfo}

-- an int below the bound
abbrev pub IsIntBelow : ℕ → Value → Type 0
IsIntBelow n value.Unit = ⊥
IsIntBelow n (value.Int k) = k < n
IsIntBelow n value.Nowhere = ⊥
IsIntBelow n (value.Node j) = ⊥
IsIntBelow n (value.Set s) = ⊥

-- none, or a number below 64
abbrev pub IsNode : Value → Type 0
IsNode value.Unit = ⊥
IsNode (value.Int k) = ⊥
IsNode value.Nowhere = Unit {0}
IsNode (value.Node j) = j < 64
IsNode (value.Set s) = ⊥

-- a set of remotes
abbrev pub IsSet : Value → Type 0
IsSet value.Unit = ⊥
IsSet (value.Int k) = ⊥
IsSet value.Nowhere = ⊥
IsSet (value.Node j) = ⊥
IsSet (value.Set s) = Unit {0}

-- the value is of the type of a variable
abbrev pub IsOfKind : VarKind → Value → Type 0
IsOfKind (kind.Int n) v = IsIntBelow n v
IsOfKind kind.Node v = IsNode v
IsOfKind kind.Set v = IsSet v

-- the value is of the type of a message: Unit where it carries nothing
abbrev pub IsCarried : Carry → Value → Type 0
IsCarried carry.Nothing v = v ≡ value.Unit
IsCarried (carry.Int n) v = IsIntBelow n v
IsCarried carry.Node v = IsNode v
IsCarried carry.Set v = IsSet v

-- the values are as many as the variables, and each is of its variable's type
abbrev pub AreOfKinds : List VarInfo → List Value → Type 0
AreOfKinds [] [] = Unit {0}
AreOfKinds [] (v ∷ vs) = ⊥
AreOfKinds (i ∷ is) [] = ⊥
AreOfKinds (i ∷ is) (v ∷ vs) = IsOfKind i.kind v × AreOfKinds is vs

-- the value is of the type of the message at this place
abbrev pub IsCarriedBy : List MessageInfo → ℕ → Value → Type 0
IsCarriedBy messages place v =
    (info : MessageInfo) → slice_get messages place ≡ Some info → IsCarried info.carries v

-- where the guard is an input, the value is of its message's type
abbrev pub IsReceived : List MessageInfo → RuleKind → Value → Type 0
IsReceived messages action.Tau v = Unit {0}
IsReceived messages (action.Input p m bound) v = IsCarriedBy messages m v
IsReceived messages (action.Output p m sent) v = Unit {0}

-- the message that the guard sends
abbrev pub message_out : RuleKind → Option ℕ
message_out action.Tau = None
message_out (action.Input p m bound) = None
message_out (action.Output p m sent) = Some m

-- the message that the guard takes in
abbrev pub message_in : RuleKind → Option ℕ
message_in action.Tau = None
message_in (action.Input p m bound) = Some m
message_in (action.Output p m sent) = None

-- the guard is an output of a message that carries this
pub record Offers (messages : List MessageInfo) (rule : Rule) (carries : Carry) : Type 0 where
  pub place : ℕ
  pub message : MessageInfo
  pub out : message_out rule.kind ≡ Some place
  pub there : slice_get messages place ≡ Some message
  pub same : message.carries ≡ carries

-- It is a proper guard of a process with these declarations, in a protocol with these messages, and
-- each variable has a value of its type.
pub record IsTyped (messages : List MessageInfo) (infos : List VarInfo) (vars : List Value)
    (rule : Rule) : Type 0 where
  pub side : Side
  pub states : ℕ
  pub proper_carries : AllByRecursion (λ m. IsProperCarry m.carries) messages
  pub proper_infos : AllByRecursion IsProperVar infos
  pub proper_rule : IsProperRule side messages infos states rule
  pub kinds : AreOfKinds infos vars

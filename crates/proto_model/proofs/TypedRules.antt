-- What a rule sends is of its message's type, and completing a rule keeps each variable of its
-- type.
use Rattle.std.proofs.Common.{◌≡◌, ℕ, zero, suc, ◌<◌, true, List, [], ◌∷◌, length, set, Option}
use Rattle.std.proofs.Common.{Some, None, is_none, slice_get, refl, sym, ap, subst, ◌∙◌, arith}
use Rattle.std.proofs.Common.{fold}
use Rattle.std.specs.List.{AllByRecursion}
use Rattle.std.specs.Option.{option_map, option_and_then}
use Rattle.std.proofs.lemmas.Bool.{and_parts}
use Rattle.proto_model.specs.Types.{kind_type, carried_type, same_type, is_of_type, are_of_one_type}
use Rattle.proto_model.specs.Types.{value_agrees, bound_agrees}
use Rattle.proto_model.specs.RuleTypes.{rule_message_type, rule_var_type, rule_expr_type}
use Rattle.proto_model.specs.RuleTypes.{rule_partner_agrees, rule_action_agrees}
use Rattle.proto_model.specs.RuleTypes.{is_star_rule_partner}
use Rattle.proto_model.specs.Proper.{IsFirstValue, IsProperCarry, IsProperVar, IsProperAction}
use Rattle.proto_model.specs.Proper.{IsProperAssign, IsActionInRange, IsValueInRange}
use Rattle.proto_model.specs.Values.{stored, reduced, offered, sends, value_of, first_values}
use Rattle.proto_model.specs.Values.{stored_at, with_var, with_partner, with_bound, after_meeting}
use Rattle.proto_model.specs.Values.{after_assign, completed}
use Rattle.proto_model.specs.ValueTypes.{IsIntBelow, IsNode, IsSet, IsOfKind, IsCarried, AreOfKinds}
use Rattle.proto_model.specs.ValueTypes.{IsReceived, message_out, Offers, IsTyped}
use Rattle.proto_model.specs.declared.protocol.Carry.{Carry}
use Rattle.proto_model.specs.declared.protocol.Carry.TheVariants as carry
use Rattle.proto_model.specs.declared.protocol.VarKind.{VarKind}
use Rattle.proto_model.specs.declared.protocol.VarKind.TheVariants as kind
use Rattle.proto_model.specs.declared.numbered.Side.{Side}
use Rattle.proto_model.specs.declared.numbered.Side.TheVariants as side
use Rattle.proto_model.specs.declared.numbered.ValueType.{ValueType}
use Rattle.proto_model.specs.declared.numbered.ValueType.TheVariants as type
use Rattle.proto_model.specs.declared.numbered.Value.{Value}
use Rattle.proto_model.specs.declared.numbered.Value.TheVariants as value
use Rattle.proto_model.specs.declared.numbered.RuleExpr.{RuleExpr}
use Rattle.proto_model.specs.declared.numbered.RuleAssign.{RuleAssign}
use Rattle.proto_model.specs.declared.numbered.RulePartner.{RulePartner}
use Rattle.proto_model.specs.declared.numbered.RulePartner.TheVariants as partner
use Rattle.proto_model.specs.declared.numbered.RuleKind.{RuleKind}
use Rattle.proto_model.specs.declared.numbered.RuleKind.TheVariants as action
use Rattle.proto_model.specs.declared.numbered.Rule.{Rule}
use Rattle.proto_model.specs.declared.numbered.VarInfo.{VarInfo}
use Rattle.proto_model.specs.declared.numbered.MessageInfo.{MessageInfo}
use Rattle.rv_base.proofs.Lists.{AllByRecursion-at}
use Rattle.proto_model.proofs.TypedValues.{IsOf, IsIntBelow-le, IsIntBelow-modulo, IsOfKind-stored}
use Rattle.proto_model.proofs.TypedValues.{AreTyped, value_of-type}

-- the first values

IsOfKind-first : (k : VarKind) (v : Value) → IsFirstValue k v → IsOfKind k v
IsOfKind-first (kind.Int n) v first = subst (λ (w : Value). IsIntBelow n w) (sym first.1) first.2
IsOfKind-first kind.Node v first = subst IsNode (sym first) tt
IsOfKind-first kind.Set v first = subst IsSet (sym first) tt

-- the first value of each variable is of its type
pub AreOfKinds-first : (infos : List VarInfo) → AllByRecursion IsProperVar infos
    → AreOfKinds infos (first_values infos)
AreOfKinds-first [] proper = tt
AreOfKinds-first (i ∷ is) proper =
    (IsOfKind-first i.kind i.first proper.0.first, AreOfKinds-first is proper.1)

-- types that are the same

same_types : (t u : ValueType) → same_type t u ≡ true → t ≡ u
same_types type.Int type.Int e = refl
same_types type.Node type.Node e = refl
same_types type.Set type.Set e = refl
same_types type.Int type.Node e = absurd (cc)
same_types type.Int type.Set e = absurd (cc)
same_types type.Node type.Int e = absurd (cc)
same_types type.Node type.Set e = absurd (cc)
same_types type.Set type.Int e = absurd (cc)
same_types type.Set type.Node e = absurd (cc)

has_type : (t : ValueType) (o : Option ValueType) → is_of_type t o ≡ true → o ≡ Some t
has_type t None e = absurd (cc)
has_type t (Some u) e = ap (λ (w : ValueType). Some w) (sym (same_types t u e))

one_type : (l r : Option ValueType) → are_of_one_type l r ≡ true
    → (t : ValueType) × (l ≡ Some t) × (r ≡ Some t)
one_type None r e = absurd (cc)
one_type (Some t) r e = (t, refl, has_type t r e)

-- what is carried

IsOf-carried : (c : Carry) (t : ValueType) (v : Value) → IsProperCarry c → carried_type c ≡ Some t
    → IsCarried c v → IsOf t v
IsOf-carried carry.Nothing t v proper e is = absurd (cc)
IsOf-carried (carry.Int n) t v proper e is =
    let same : type.Int ≡ t = cc in
    subst (λ (u : ValueType). IsOf u v) same (IsIntBelow-le n 65536 v proper.1 is)
IsOf-carried carry.Node t v proper e is =
    let same : type.Node ≡ t = cc in subst (λ (u : ValueType). IsOf u v) same is
IsOf-carried carry.Set t v proper e is =
    let same : type.Set ≡ t = cc in subst (λ (u : ValueType). IsOf u v) same is

IsCarried-reduced : (c : Carry) (t : ValueType) (v : Value) → IsProperCarry c
    → carried_type c ≡ Some t → IsOf t v → IsCarried c (reduced c v)
IsCarried-reduced carry.Nothing t v proper e is = absurd (cc)
IsCarried-reduced (carry.Int n) t v proper e is =
    let same : t ≡ type.Int = cc in
    IsIntBelow-modulo 65536 n v (omega (arith, proper.0))
    (subst (λ (u : ValueType). IsOf u v) same is)
IsCarried-reduced carry.Node t v proper e is =
    let same : t ≡ type.Node = cc in subst (λ (u : ValueType). IsOf u v) same is
IsCarried-reduced carry.Set t v proper e is =
    let same : t ≡ type.Set = cc in subst (λ (u : ValueType). IsOf u v) same is

IsCarried-nothing : (c : Carry) → carried_type c ≡ None → IsCarried c (reduced c value.Unit)
IsCarried-nothing carry.Nothing e = refl
IsCarried-nothing (carry.Int n) e = absurd (cc)
IsCarried-nothing carry.Node e = absurd (cc)
IsCarried-nothing carry.Set e = absurd (cc)

none_is : (o : Option ValueType) → is_none o ≡ true → o ≡ None
none_is None e = refl
none_is (Some t) e = absurd (cc)

-- the type of a message that is there
message_type-at : (messages : List MessageInfo) (place : ℕ) (info : MessageInfo)
    → slice_get messages place ≡ Some info
    → rule_message_type messages place ≡ carried_type info.carries
message_type-at messages place info at =
    ap (option_and_then (λ (m : MessageInfo). carried_type m.carries)) at

-- what stands behind an output

IsCarried-offered : (infos : List VarInfo) (vars : List Value) (c : Carry) (sent : Option RuleExpr)
    → AreTyped infos vars → IsProperCarry c → IsValueInRange (length infos) sent
    → value_agrees (carried_type c) (option_map (rule_expr_type infos) sent) ≡ true
    → IsCarried c (reduced c (offered vars sent))
IsCarried-offered infos vars c None typed proper range e =
    IsCarried-nothing c (none_is (carried_type c) e)
IsCarried-offered infos vars c (Some x) typed proper range e =
    let both = one_type (carried_type c) (rule_expr_type infos x) e in
    IsCarried-reduced c both.0 (value_of vars x) proper both.1
    (value_of-type infos vars x both.0 typed range both.2)

IsCarried-sends : (s : Side) (messages : List MessageInfo) (infos : List VarInfo)
    (vars : List Value) (kind : RuleKind) (place : ℕ) (info : MessageInfo)
    → AreTyped infos vars → IsProperCarry info.carries → message_out kind ≡ Some place
    → slice_get messages place ≡ Some info → IsActionInRange (length infos) (length messages) kind
    → rule_action_agrees infos s messages kind ≡ true
    → IsCarried info.carries (sends vars kind info.carries)
IsCarried-sends s messages infos vars action.Tau place info typed proper out at range e =
    absurd (cc)
IsCarried-sends s messages infos vars (action.Input p m bound) place info typed proper out at range
    e =
    absurd (cc)
IsCarried-sends s messages infos vars (action.Output p m sent) place info typed proper out at range
    e =
    let same : m ≡ place = cc in
    let type_is = ap (rule_message_type messages) same ∙ message_type-at messages place info at in
    let agrees = (and_parts (rule_partner_agrees infos s p)
    (value_agrees (rule_message_type messages m) (option_map (rule_expr_type infos) sent))
    e).1 in
    IsCarried-offered infos vars info.carries sent typed proper range.2
    (subst (λ (carried : Option ValueType). value_agrees carried
    (option_map (rule_expr_type infos) sent) ≡ true) type_is agrees)

-- what an output sends is of its message's type
pub IsCarried-send : (messages : List MessageInfo) (infos : List VarInfo) (vars : List Value)
    (rule : Rule) (carries : Carry)
    → IsTyped messages infos vars rule → Offers messages rule carries
    → IsCarried carries (sends vars rule.kind carries)
IsCarried-send messages infos vars rule carries typed offers =
    let proper = AllByRecursion-at (λ m. IsProperCarry m.carries) messages offers.place
    offers.message typed.proper_carries offers.there in
    let action = typed.proper_rule.action in
    subst (λ (c : Carry). IsCarried c (sends vars rule.kind c)) offers.same
    (IsCarried-sends typed.side messages infos vars rule.kind offers.place offers.message
    (record { proper = typed.proper_infos; kinds = typed.kinds }) proper offers.out offers.there
    action.in_range action.types)

-- storing in a variable

-- A value is put at a place: the variables stay of their types if it is of the type of the variable
-- there.
AreOfKinds-set : (infos : List VarInfo) (vars : List Value) (place : ℕ) (v : Value)
    → AreOfKinds infos vars
    → ((info : VarInfo) → slice_get infos place ≡ Some info → IsOfKind info.kind v)
    → AreOfKinds infos (set vars place v)
AreOfKinds-set [] [] place v kinds is = tt
AreOfKinds-set [] (w ∷ ws) place v kinds is = absurd kinds
AreOfKinds-set (i ∷ is) [] place v kinds here = absurd kinds
AreOfKinds-set (i ∷ is) (w ∷ ws) zero v kinds here = (here i refl, kinds.1)
AreOfKinds-set (i ∷ is) (w ∷ ws) (suc place) v kinds here =
    (kinds.0, AreOfKinds-set is ws place v kinds.1 here)

IsOfKind-stored_at : (infos : List VarInfo) (place : ℕ) (t : ValueType) (v : Value)
    → AllByRecursion IsProperVar infos → rule_var_type infos place ≡ Some t → IsOf t v
    → (info : VarInfo) → slice_get infos place ≡ Some info
    → IsOfKind info.kind (stored_at infos place v)
IsOfKind-stored_at [] place t v proper e is info at = absurd (cc)
IsOfKind-stored_at (i ∷ is) zero t v proper e of info at =
    let same : i ≡ info = cc in
    let type_is : t ≡ kind_type i.kind = cc in
    subst (λ (j : VarInfo). IsOfKind j.kind (stored i.kind v)) same
    (IsOfKind-stored i.kind v proper.0.kind (subst (λ (u : ValueType). IsOf u v) type_is of))
IsOfKind-stored_at (i ∷ is) (suc place) t v proper e of info at =
    IsOfKind-stored_at is place t v proper.1 e of info at

-- the variables with one more value stored, of the type of its variable
AreOfKinds-with_var : (infos : List VarInfo) (vars : List Value) (place : ℕ) (t : ValueType)
    (v : Value)
    → AreTyped infos vars → rule_var_type infos place ≡ Some t → IsOf t v
    → AreOfKinds infos (with_var infos vars place v)
AreOfKinds-with_var infos vars place t v typed e of =
    AreOfKinds-set infos vars place (stored_at infos place v) typed.kinds
    (IsOfKind-stored_at infos place t v typed.proper e of)

-- the partner, the bound variable, the assignments

AreOfKinds-with_partner : (s : Side) (infos : List VarInfo) (vars : List Value) (p : RulePartner)
    (j : ℕ)
    → AreTyped infos vars → j < 64 → is_star_rule_partner s p ≡ true
    → rule_partner_agrees infos s p ≡ true → AreOfKinds infos (with_partner infos vars p j)
AreOfKinds-with_partner s infos vars partner.Home j typed below star e = typed.kinds
AreOfKinds-with_partner s infos vars (partner.Named x) j typed below star e = typed.kinds
AreOfKinds-with_partner side.Home infos vars (partner.Any x) j typed below star e =
    AreOfKinds-with_var infos vars x type.Node (value.Node j) typed
    (has_type type.Node (rule_var_type infos x) e) below
AreOfKinds-with_partner side.Home infos vars (partner.Member x y) j typed below star e =
    AreOfKinds-with_var infos vars x type.Node (value.Node j) typed
    (has_type type.Node (rule_var_type infos x)
    (and_parts (is_of_type type.Node (rule_var_type infos x))
    (is_of_type type.Set (rule_var_type infos y)) e).0) below
AreOfKinds-with_partner side.Remote infos vars (partner.Any x) j typed below star e = absurd (cc)
AreOfKinds-with_partner side.Remote infos vars (partner.Member x y) j typed below star e =
    absurd (cc)

AreOfKinds-with_bound : (infos : List VarInfo) (vars : List Value) (c : Carry) (bound : Option ℕ)
    (v : Value)
    → AreTyped infos vars → IsProperCarry c → IsCarried c v
    → bound_agrees (carried_type c) (option_map (rule_var_type infos) bound) ≡ true
    → AreOfKinds infos (with_bound infos vars bound v)
AreOfKinds-with_bound infos vars c None v typed proper is e = typed.kinds
AreOfKinds-with_bound infos vars c (Some x) v typed proper is e =
    let both = one_type (carried_type c) (rule_var_type infos x) e in
    AreOfKinds-with_var infos vars x both.0 v typed both.2
    (IsOf-carried c both.0 v proper both.1 is)

-- a message whose place is below their number is there
message_there : (messages : List MessageInfo) (place : ℕ) → place < length messages
    → (info : MessageInfo) × (slice_get messages place ≡ Some info)
message_there [] place below = absurd (omega arith)
message_there (m ∷ ms) zero below = (m, refl)
message_there (m ∷ ms) (suc place) below = message_there ms place (omega arith)

AreOfKinds-after_meeting : (s : Side) (messages : List MessageInfo) (infos : List VarInfo)
    (vars : List Value) (kind : RuleKind) (j : ℕ) (v : Value)
    → AllByRecursion (λ m. IsProperCarry m.carries) messages → AreTyped infos vars → j < 64
    → IsReceived messages kind v → IsProperAction s messages infos kind
    → AreOfKinds infos (after_meeting infos vars kind j v)
AreOfKinds-after_meeting s messages infos vars action.Tau j v proper typed below received action =
    typed.kinds
AreOfKinds-after_meeting s messages infos vars (action.Output p m sent) j v proper typed below
    received action =
    AreOfKinds-with_partner s infos vars p j typed below action.star
    (and_parts (rule_partner_agrees infos s p)
    (value_agrees (rule_message_type messages m) (option_map (rule_expr_type infos) sent))
    action.types).0
AreOfKinds-after_meeting s messages infos vars (action.Input p m bound) j v proper typed below
    received action =
    let parts = and_parts (rule_partner_agrees infos s p)
    (bound_agrees (rule_message_type messages m) (option_map (rule_var_type infos) bound))
    action.types in
    let there = message_there messages m action.in_range.1 in
    let agrees = subst (λ (carried : Option ValueType). bound_agrees carried
    (option_map (rule_var_type infos) bound) ≡ true)
    (message_type-at messages m there.0 there.1) parts.1 in
    AreOfKinds-with_bound infos (with_partner infos vars p j) there.0.carries bound v
    (record {
      proper = typed.proper;
      kinds = AreOfKinds-with_partner s infos vars p j typed below
          action.star parts.0;
    })
    (AllByRecursion-at (λ i. IsProperCarry i.carries) messages m there.0 proper there.1)
    (received there.0 there.1) agrees

AreOfKinds-after_assign : (infos : List VarInfo) (vars : List Value) (a : RuleAssign)
    → AreTyped infos vars → IsProperAssign infos a → AreOfKinds infos (after_assign infos vars a)
AreOfKinds-after_assign infos vars a typed proper =
    let both = one_type (rule_var_type infos a.var) (rule_expr_type infos a.value) proper.types in
    AreOfKinds-with_var infos vars a.var both.0 (value_of vars a.value) typed both.1
    (value_of-type infos vars a.value both.0 typed proper.value both.2)

AreOfKinds-assigned : (infos : List VarInfo) (assigns : List RuleAssign) (vars : List Value)
    → AreTyped infos vars → AllByRecursion (IsProperAssign infos) assigns
    → AreOfKinds infos (fold (after_assign infos) vars assigns)
AreOfKinds-assigned infos [] vars typed proper = typed.kinds
AreOfKinds-assigned infos (a ∷ more) vars typed proper =
    AreOfKinds-assigned infos more (after_assign infos vars a)
    (record { proper = typed.proper; kinds = AreOfKinds-after_assign infos vars a typed proper.0 })
    proper.1

-- completing a rule keeps each variable of its type
pub AreOfKinds-completed : (messages : List MessageInfo) (infos : List VarInfo) (vars : List Value)
    (rule : Rule) (j : ℕ) (v : Value)
    → IsTyped messages infos vars rule → j < 64 → IsReceived messages rule.kind v
    → AreOfKinds infos (completed infos vars rule j v)
AreOfKinds-completed messages infos vars rule j v typed below received =
    let before : AreTyped infos vars = record
    { proper = typed.proper_infos; kinds = typed.kinds } in
    AreOfKinds-assigned infos rule.assigns (after_meeting infos vars rule.kind j v)
    (record {
      proper = typed.proper_infos;
      kinds = AreOfKinds-after_meeting typed.side messages
          infos vars rule.kind j v typed.proper_carries before below received
          typed.proper_rule.action;
    })
    typed.proper_rule.assigns

-- the values are as many as the declarations
pub AreOfKinds-length : (infos : List VarInfo) (vars : List Value) → AreOfKinds infos vars
    → length vars ≡ length infos
AreOfKinds-length [] [] kinds = refl
AreOfKinds-length [] (v ∷ vs) kinds = absurd kinds
AreOfKinds-length (i ∷ is) [] kinds = absurd kinds
AreOfKinds-length (i ∷ is) (v ∷ vs) kinds = ap suc (AreOfKinds-length is vs kinds.1)

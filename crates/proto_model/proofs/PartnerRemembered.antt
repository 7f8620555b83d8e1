-- The partner is remembered: after the home has completed an output of a message with a reply, the
-- one guard of the next state has that partner as its only target.
use Rattle.std.proofs.Common.{◌≡◌, ℕ, ◌<◌, true, not, ◌==◌, List, [], ◌∷◌, length, fold}
use Rattle.std.proofs.Common.{Option, Some, None, slice_get, unwrap_or, refl, sym, ap, subst, ◌∙◌}
use Rattle.std.specs.Option.{option_map_or}
use Rattle.std.specs.List.{list_all}
use Rattle.std.proofs.lemmas.Bool.{and_parts, eqb-true, eqb-false}
use Rattle.std.proofs.lemmas.Option.{same_Some}
use Rattle.rv_base.proofs.Lists.{is_false, slice_get-set_same, slice_get-set_other}
use Rattle.proto_model.specs.Numbered.{NumberedProtocol}
use Rattle.proto_model.specs.Guards.{guard_at, after_guard}
use Rattle.proto_model.specs.Values.{is_node, stored, var_value, may_meet, stored_at, with_var}
use Rattle.proto_model.specs.Values.{value_of, after_meeting, after_assign, completed}
use Rattle.proto_model.specs.ValueTypes.{AreOfKinds}
use Rattle.proto_model.specs.Proper.{IsPartnerInRange, IsActionInRange, IsProper}
use Rattle.proto_model.specs.Pairs.{partner_var, output_var, leaves_alone}
use Rattle.proto_model.specs.declared.protocol.VarKind.{VarKind}
use Rattle.proto_model.specs.declared.protocol.VarKind.TheVariants as kind
use Rattle.proto_model.specs.declared.numbered.Value.{Value}
use Rattle.proto_model.specs.declared.numbered.Value.TheVariants as value
use Rattle.proto_model.specs.declared.numbered.RuleAssign.{RuleAssign}
use Rattle.proto_model.specs.declared.numbered.RulePartner.{RulePartner}
use Rattle.proto_model.specs.declared.numbered.RulePartner.TheVariants as partner
use Rattle.proto_model.specs.declared.numbered.RuleKind.{RuleKind}
use Rattle.proto_model.specs.declared.numbered.RuleKind.TheVariants as action
use Rattle.proto_model.specs.declared.numbered.Rule.{Rule}
use Rattle.proto_model.specs.declared.numbered.VarInfo.{VarInfo}
use Rattle.proto_model.proofs.TypedRules.{AreOfKinds-length}
use Rattle.proto_model.proofs.ProperFacts.{home_guard, AwaitsReplyFrom}

-- ---- a remote, stored in a variable

stored-node : (k : VarKind) (j : ℕ) → stored k (value.Node j) ≡ value.Node j
stored-node (kind.Int n) j = refl
stored-node kind.Node j = refl
stored-node kind.Set j = refl

stored-node_there : (o : Option VarInfo) (j : ℕ)
    → option_map_or (λ (info : VarInfo). stored info.kind (value.Node j)) o (value.Node j)
    ≡ value.Node j
stored-node_there None j = refl
stored-node_there (Some info) j = stored-node info.kind j

-- a variable that became the remote is the remote
with_var-node : (infos : List VarInfo) (vars : List Value) (x j : ℕ) → x < length vars
    → var_value (with_var infos vars x (value.Node j)) x ≡ value.Node j
with_var-node infos vars x j within =
    ap (λ (o : Option Value). unwrap_or o value.Unit)
    (slice_get-set_same vars x (stored_at infos x (value.Node j)) within)
    ∙ stored-node_there (slice_get infos x) j

is_node-is : (v : Value) (j : ℕ) → is_node v j ≡ true → v ≡ value.Node j
is_node-is value.Unit j e = absurd (cc)
is_node-is (value.Int k) j e = absurd (cc)
is_node-is value.Nowhere j e = absurd (cc)
is_node-is (value.Node i) j e = ap (λ (k : ℕ). value.Node k) (eqb-true i j e)
is_node-is (value.Set s) j e = absurd (cc)

-- ---- the meeting

-- after the meeting the variable of the output's partner is the remote that was met
met : (infos : List VarInfo) (vars : List Value) (k : RuleKind) (x j : ℕ) (v : Value)
    → output_var k ≡ Some x → x < length vars → may_meet vars k j ≡ true
    → var_value (after_meeting infos vars k j v) x ≡ value.Node j
met infos vars action.Tau x j v is within meets = absurd (cc)
met infos vars (action.Input p m bound) x j v is within meets = absurd (cc)
met infos vars (action.Output partner.Home m sent) x j v is within meets = absurd (cc)
met infos vars (action.Output (partner.Any y) m sent) x j v is within meets =
    subst (λ (z : ℕ). var_value (with_var infos vars z (value.Node j)) x ≡ value.Node j)
    (sym (same_Some y x is)) (with_var-node infos vars x j within)
met infos vars (action.Output (partner.Member y s) m sent) x j v is within meets =
    subst (λ (z : ℕ). var_value (with_var infos vars z (value.Node j)) x ≡ value.Node j)
    (sym (same_Some y x is)) (with_var-node infos vars x j within)
met infos vars (action.Output (partner.Named y) m sent) x j v is within meets =
    let there = is_node-is (var_value vars y) j meets in
    subst (λ (z : ℕ). var_value vars z ≡ value.Node j) (same_Some y x is) there

-- ---- the assignments

-- assignments to other variables leave a variable as it is
assigned-other : (infos : List VarInfo) (assigns : List RuleAssign) (vars : List Value) (x : ℕ)
    → list_all (λ assign. not (assign.var == x)) assigns ≡ true
    → slice_get (fold (after_assign infos) vars assigns) x ≡ slice_get vars x
assigned-other infos [] vars x alone = refl
assigned-other infos (assign ∷ more) vars x alone =
    let rest = list_all (λ (a : RuleAssign). not (a.var == x)) more in
    let both = and_parts (not (assign.var == x)) rest alone in
    let apart = eqb-false assign.var x (is_false (assign.var == x) both.0) in
    let now = after_assign infos vars assign in
    assigned-other infos more now x both.1
    ∙ slice_get-set_other vars assign.var x
    (stored_at infos assign.var (value_of vars assign.value))
    (λ same. apart (sym same))

-- ---- the partner

partner-within : (count : ℕ) (p : RulePartner) (x : ℕ) → IsPartnerInRange count p
    → partner_var p ≡ Some x → x < count
partner-within count partner.Home x range is = absurd (cc)
partner-within count (partner.Any y) x range is =
    subst (λ (z : ℕ). z < count) (same_Some y x is) range
partner-within count (partner.Member y s) x range is =
    subst (λ (z : ℕ). z < count) (same_Some y x is) range.0
partner-within count (partner.Named y) x range is =
    subst (λ (z : ℕ). z < count) (same_Some y x is) range

output_var-within : (count messages : ℕ) (k : RuleKind) (x : ℕ) → IsActionInRange count messages k
    → output_var k ≡ Some x → x < count
output_var-within count messages action.Tau x range is = absurd (cc)
output_var-within count messages (action.Input p m bound) x range is = absurd (cc)
output_var-within count messages (action.Output p m sent) x range is =
    partner-within count p x range.0 is

-- After an output that leaves the variable of its partner alone, this variable is the partner.
pub completed-remembers : (infos : List VarInfo) (vars : List Value) (rule : Rule) (x j : ℕ)
    (v : Value) → output_var rule.kind ≡ Some x → x < length vars
    → may_meet vars rule.kind j ≡ true → leaves_alone x rule ≡ true
    → var_value (completed infos vars rule j v) x ≡ value.Node j
completed-remembers infos vars rule x j v is within meets alone =
    ap (λ (o : Option Value). unwrap_or o value.Unit)
    (assigned-other infos rule.assigns (after_meeting infos vars rule.kind j v) x alone)
    ∙ met infos vars rule.kind x j v is within meets

-- After an output of the home whose message has a reply, the one guard of the next state may meet
-- the partner, and no other remote.
pub home_output-remembers : (protocol : NumberedProtocol) (state g : ℕ) (rule : Rule) (p j i : ℕ)
    (vars : List Value) (v : Value) → IsProper protocol → guard_at protocol.home state g ≡ Some rule
    → AreOfKinds protocol.home.vars vars → (awaits : AwaitsReplyFrom protocol p rule)
    → may_meet vars rule.kind j ≡ true
    → may_meet (after_guard protocol.home vars rule rule.next j v).vars awaits.next.kind i
    ≡ (j == i)
home_output-remembers protocol state g rule p j i vars v proper there kinds awaits meets =
    let body = protocol.home in
    let does = (home_guard protocol state g rule proper there).proper.action in
    let count = AreOfKinds-length body.vars vars kinds in
    let below =
    output_var-within (length body.vars) (length protocol.messages) rule.kind awaits.x does.in_range
    awaits.target in
    let within : awaits.x < length vars = subst (λ (n : ℕ). awaits.x < n) (sym count) below in
    let after = completed body.vars vars rule j v in
    let is =
    completed-remembers body.vars vars rule awaits.x j v awaits.target within meets awaits.alone in
    ap (λ (k : RuleKind). may_meet after k i) awaits.from.kind
    ∙ ap (λ (w : Value). is_node w i) is

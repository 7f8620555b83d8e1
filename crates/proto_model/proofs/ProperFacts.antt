-- What is known of a guard of a proper protocol, from its state and its number there: of active
-- states, of messages that are paired, of directions, and of types.
use Rattle.std.proofs.Common.{◌≡◌, ℕ, zero, suc, ◌<◌, Bool, true, false, not, ◌&&◌, ◌||◌, ◌==◌}
use Rattle.std.proofs.Common.{List, [], ◌∷◌, length, flat_map, Option, Some, None, slice_get}
use Rattle.std.proofs.Common.{refl, sym, ap, subst, ◌∙◌}
use Rattle.std.specs.Option.{option_map, option_map_or, option_and_then}
use Rattle.std.specs.List.{list_any, list_all, range_with_len}
use Rattle.std.proofs.lemmas.Bool.{and_parts, or_left, or_right, eqb-true, eq-eqb}
use Rattle.std.proofs.lemmas.List.Folds.{list_all-append}
use Rattle.std.proofs.lemmas.Option.{same_Some, slice_get_within}
use Rattle.rv_base.proofs.Lists.{AllByRecursion-at, some_map, some_and_then, find-passes, is_false}
use Rattle.proto_model.specs.Numbered.{NumberedProtocol}
use Rattle.proto_model.specs.Guards.{guards_of, guard_at, only_of, only_next, after_guard}
use Rattle.proto_model.specs.Values.{is_open, sends}
use Rattle.proto_model.specs.ValueTypes.{AreOfKinds, IsCarriedBy, IsCarried, IsReceived, Offers}
use Rattle.proto_model.specs.ValueTypes.{message_in, message_out, IsTyped}
use Rattle.proto_model.specs.RendezvousNext.{given}
use Rattle.proto_model.specs.RuleTypes.{is_directed_rule}
use Rattle.proto_model.specs.Star.{goes_in, goes_out}
use Rattle.proto_model.specs.Proper.{IsProperRule, is_output_kind, IsActiveForm, IsProperState}
use Rattle.proto_model.specs.Proper.{IsProperBody, IsProper}
use Rattle.proto_model.specs.Pairs.{all_rules, gives_message, takes_message, no_atoms, awaits}
use Rattle.proto_model.specs.Pairs.{is_held_by, is_from, output_var, leaves_alone, goes_to_only}
use Rattle.proto_model.specs.Pairs.{each_that, some_and_each, goes_up, goes_down, is_up_pair}
use Rattle.proto_model.specs.Pairs.{awaits_from_target, awaits_answer, is_down_pair, is_pair}
use Rattle.proto_model.specs.Pairs.{reply_of}
use Rattle.proto_model.specs.declared.mode.Mode.{Mode}
use Rattle.proto_model.specs.declared.mode.Mode.TheVariants.{Plain, Lean}
use Rattle.proto_model.specs.declared.numbered.Side.{Side}
use Rattle.proto_model.specs.declared.numbered.Side.TheVariants as side
use Rattle.proto_model.specs.declared.numbered.Value.{Value}
use Rattle.proto_model.specs.declared.numbered.RuleAtom.{RuleAtom}
use Rattle.proto_model.specs.declared.numbered.RulePartner.{RulePartner}
use Rattle.proto_model.specs.declared.numbered.RulePartner.TheVariants as partner
use Rattle.proto_model.specs.declared.numbered.RuleKind.{RuleKind}
use Rattle.proto_model.specs.declared.numbered.RuleKind.TheVariants as action
use Rattle.proto_model.specs.declared.numbered.Rule.{Rule}
use Rattle.proto_model.specs.declared.numbered.StateInfo.{StateInfo}
use Rattle.proto_model.specs.declared.numbered.MessageInfo.{MessageInfo}
use Rattle.proto_model.specs.declared.numbered.Body.{Body}
use Rattle.proto_model.proofs.TypedRules.{IsCarried-send, AreOfKinds-completed}

-- ---- a guard at its place

-- The guard with this number in this state of a proper process.
pub record IsGuardOf (s : Side) (messages : List MessageInfo) (body : Body) (state g : ℕ)
    (rule : Rule) : Type 0 where
  pub within : state < length body.states
  pub info : StateInfo
  pub at : slice_get body.states state ≡ Some info
  pub guards : guards_of body state ≡ info.rules
  pub place : slice_get (guards_of body state) g ≡ Some rule
  pub proper : IsProperRule s messages body.vars (length body.states) rule
  pub active : IsActiveForm s (guards_of body state)

pub guard_at-proper : (s : Side) (messages : List MessageInfo) (body : Body) (state g : ℕ)
    (rule : Rule) → IsProperBody s messages body → guard_at body state g ≡ Some rule
    → IsGuardOf s messages body state g rule
guard_at-proper s messages body state g rule proper there =
    let by =
    some_and_then (λ (i : StateInfo). slice_get i.rules g) (slice_get body.states state) rule
    there in
    let info : StateInfo = by.0 in
    let count = length body.states in
    let is =
    AllByRecursion-at (IsProperState s messages body.vars count) body.states state info
    proper.states by.1 in
    let guards : guards_of body state ≡ info.rules =
    ap (λ (o : Option StateInfo). option_map_or (λ i. i.rules) o []) by.1 in
    record {
      within = slice_get_within body.states state info by.1;
      info = info;
      at = by.1;
      guards = guards;
      place = ap (λ (rules : List Rule). slice_get rules g) guards ∙ by.2;
      proper = AllByRecursion-at (IsProperRule s messages body.vars count) info.rules g rule
          is.rules by.2;
      active = subst (IsActiveForm s) (sym guards) is.active;
    }

-- ---- active states

list_any-at : (test : Rule → Bool) (rules : List Rule) (g : ℕ) (rule : Rule)
    → slice_get rules g ≡ Some rule → test rule ≡ true → list_any test rules ≡ true
list_any-at test [] g rule at passes = absurd (cc)
list_any-at test (first ∷ rules) zero rule at passes =
    let same : first ≡ rule = same_Some first rule at in
    or_left (test first) (list_any test rules) (ap test same ∙ passes)
list_any-at test (first ∷ rules) (suc g) rule at passes =
    or_right (test first) (list_any test rules) (list_any-at test rules g rule at passes)

only-place : (rules : List Rule) (only rule : Rule) (g : ℕ) → rules ≡ only ∷ []
    → slice_get rules g ≡ Some rule → (g ≡ 0) × (only ≡ rule)
only-place rules only rule g one at =
    in_one g (ap (λ (rs : List Rule). slice_get rs g) (sym one) ∙ at) where
      in_one : (i : ℕ) → slice_get (only ∷ []) i ≡ Some rule → (i ≡ 0) × (only ≡ rule)
      in_one zero e = (refl, same_Some only rule e)
      in_one (suc i) e = absurd (cc)

-- A remote state with an output has that guard alone, as number 0, and it has no condition.
pub record IsOnlyGuard (body : Body) (state g : ℕ) (rule : Rule) : Type 0 where
  pub guards : guards_of body state ≡ rule ∷ []
  pub number : g ≡ 0
  pub conds : rule.conds ≡ []

pub active-only : (protocol : NumberedProtocol) (state g : ℕ) (rule : Rule) → IsProper protocol
    → guard_at protocol.remote state g ≡ Some rule → is_output_kind rule.kind ≡ true
    → IsOnlyGuard protocol.remote state g rule
active-only protocol state g rule proper there output =
    let body = protocol.remote in
    let is =
    guard_at-proper side.Remote protocol.messages body state g rule proper.remote there in
    let some =
    list_any-at (λ r. is_output_kind r.kind) (guards_of body state) g rule is.place output in
    let one = is.active some in
    let same = only-place (guards_of body state) one.0 rule g one.1 is.place in
    record {
      guards = one.1 ∙ ap (λ (r : Rule). r ∷ []) same.1;
      number = same.0;
      conds = sym (ap (λ (r : Rule). r.conds) same.1) ∙ one.2;
    }

-- ---- the only guard of the next state

only_of-some : (rules : List Rule) (only : Rule) → only_of rules ≡ Some only → rules ≡ only ∷ []
only_of-some [] only e = absurd (cc)
only_of-some (rule ∷ []) only e = ap (λ (r : Rule). r ∷ []) (same_Some rule only e)
only_of-some (rule ∷ other ∷ rules) only e = absurd (cc)

guard_at-first : (o : Option StateInfo) (only : Rule)
    → option_map_or (λ i. i.rules) o [] ≡ only ∷ []
    → option_and_then (λ i. slice_get i.rules 0) o ≡ Some only
guard_at-first None only e = absurd (cc)
guard_at-first (Some info) only e = ap (λ (rules : List Rule). slice_get rules 0) e

-- This is the one guard of the state.
pub record IsOneOf (body : Body) (state : ℕ) (next : Rule) : Type 0 where
  pub only : only_of (guards_of body state) ≡ Some next
  pub guards : guards_of body state ≡ next ∷ []
  pub there : guard_at body state 0 ≡ Some next

one_of : (body : Body) (state : ℕ) (next : Rule) → only_of (guards_of body state) ≡ Some next
    → IsOneOf body state next
one_of body state next only =
    let guards = only_of-some (guards_of body state) next only in
    record {
      only = only;
      guards = guards;
      there = guard_at-first (slice_get body.states state) next guards;
    }

some_passes : {X : Type 0} (test : X → Bool) (o : Option X) → option_map_or test o false ≡ true
    → (x : X) × (o ≡ Some x) × (test x ≡ true)
some_passes test None e = absurd (cc)
some_passes test (Some x) e = (x, refl, e)

goes_to_only-one : (body : Body) (test : Rule → Bool) (rule : Rule)
    → goes_to_only body test rule ≡ true
    → (next : Rule) × IsOneOf body rule.next next × (test next ≡ true)
goes_to_only-one body test rule e =
    let by = some_passes test (only_next body rule) e in
    (by.0, one_of body rule.next by.0 by.1, by.2)

is_message : (o : Option ℕ) (m : ℕ) → option_map_or (λ k. k == m) o false ≡ true → o ≡ Some m
is_message None m e = absurd (cc)
is_message (Some k) m e = ap (λ (n : ℕ). Some n) (eqb-true k m e)

message_is : (o : Option ℕ) (m : ℕ) → o ≡ Some m → option_map_or (λ k. k == m) o false ≡ true
message_is o m e =
    ap (λ (q : Option ℕ). option_map_or (λ k. k == m) q false) e ∙ eq-eqb m m refl

no_atoms-none : (atoms : List RuleAtom) → no_atoms atoms ≡ true → atoms ≡ []
no_atoms-none [] e = refl
no_atoms-none (atom ∷ atoms) e = absurd (cc)

open_without : (vars : List Value) (rule : Rule) → rule.conds ≡ [] → is_open vars rule ≡ true
open_without vars rule none = rw none refl

-- An input of the message that is open whatever the variables are.
pub record IsFreeInput (m : ℕ) (rule : Rule) : Type 0 where
  pub input : message_in rule.kind ≡ Some m
  pub passes : (vars : List Value) → is_open vars rule ≡ true

awaits-free : (m : ℕ) (rule : Rule) → awaits m rule ≡ true → IsFreeInput m rule
awaits-free m rule e =
    let both = and_parts (takes_message m rule) (no_atoms rule.conds) e in
    let none = no_atoms-none rule.conds both.1 in
    record {
      input = is_message (message_in rule.kind) m both.0;
      passes = λ vars. open_without vars rule none;
    }

-- ---- each rule that passes a test

list_all-at : (test : Rule → Bool) (rules : List Rule) (g : ℕ) (rule : Rule)
    → list_all test rules ≡ true → slice_get rules g ≡ Some rule → test rule ≡ true
list_all-at test [] g rule all at = absurd (cc)
list_all-at test (first ∷ rules) zero rule all at =
    let both = and_parts (test first) (list_all test rules) all in
    subst (λ r. test r ≡ true) (same_Some first rule at) both.0
list_all-at test (first ∷ rules) (suc g) rule all at =
    let both = and_parts (test first) (list_all test rules) all in
    list_all-at test rules g rule both.1 at

list_all-in_state : (test : Rule → Bool) (states : List StateInfo) (state g : ℕ) (info : StateInfo)
    (rule : Rule) → list_all test (flat_map (λ i. i.rules) states) ≡ true
    → slice_get states state ≡ Some info → slice_get info.rules g ≡ Some rule → test rule ≡ true
list_all-in_state test [] state g info rule all at there = absurd (cc)
list_all-in_state test (first ∷ states) zero g info rule all at there =
    let rest = flat_map (λ (i : StateInfo). i.rules) states in
    let split = sym (list_all-append test first.rules rest) ∙ all in
    let both = and_parts (list_all test first.rules) (list_all test rest) split in
    let same : first ≡ info = same_Some first info at in
    list_all-at test first.rules g rule both.0
    (ap (λ (i : StateInfo). slice_get i.rules g) same ∙ there)
list_all-in_state test (first ∷ states) (suc state) g info rule all at there =
    let rest = flat_map (λ (i : StateInfo). i.rules) states in
    let split = sym (list_all-append test first.rules rest) ∙ all in
    let both = and_parts (list_all test first.rules) (list_all test rest) split in
    list_all-in_state test states state g info rule both.1 at there

-- where the first holds, so does the second
then_second : (first second : Bool) → (not first || second) ≡ true → first ≡ true → second ≡ true
then_second true second e is = e
then_second false second e is = absurd (cc)

-- What holds of each rule that passes the first test holds of the guard, which does.
each-at : (body : Body) (first second : Rule → Bool) (state g : ℕ) (rule : Rule)
    → some_and_each first second (all_rules body) ≡ true → guard_at body state g ≡ Some rule
    → first rule ≡ true → second rule ≡ true
each-at body first second state g rule e there passes =
    let each =
    (and_parts (list_any first (all_rules body)) (each_that first second (all_rules body)) e).1 in
    let by =
    some_and_then (λ (i : StateInfo). slice_get i.rules g) (slice_get body.states state) rule
    there in
    then_second (first rule) (second rule)
    (list_all-in_state (λ r. not (first r) || second r) body.states state g by.0 rule each by.1
    by.2)
    passes

-- ---- directions

way-up : (o : Option MessageInfo) → option_map_or (λ i. i.up) o false ≡ true
    → option_map_or (λ i. not i.up) o false ≡ false
way-up None e = absurd (cc)
way-up (Some info) e = ap not e

way-down : (o : Option MessageInfo) → option_map_or (λ i. not i.up) o false ≡ true
    → option_map_or (λ i. i.up) o false ≡ false
way-down None e = absurd (cc)
way-down (Some info) e = is_false info.up e

-- no message goes both ways
pub goes_up-not_down : (protocol : NumberedProtocol) (m : ℕ) → goes_up protocol m ≡ true
    → goes_down protocol m ≡ false
goes_up-not_down protocol m e = way-up (slice_get protocol.messages m) e

pub goes_down-not_up : (protocol : NumberedProtocol) (m : ℕ) → goes_down protocol m ≡ true
    → goes_up protocol m ≡ false
goes_down-not_up protocol m e = way-down (slice_get protocol.messages m) e

-- a message that goes somewhere is one of the protocol's
pub goes_up-there : (protocol : NumberedProtocol) (m : ℕ) → goes_up protocol m ≡ true
    → m < length protocol.messages
goes_up-there protocol m e =
    let by = some_passes (λ (i : MessageInfo). i.up) (slice_get protocol.messages m) e in
    slice_get_within protocol.messages m by.0 by.1

pub goes_down-there : (protocol : NumberedProtocol) (m : ℕ) → goes_down protocol m ≡ true
    → m < length protocol.messages
goes_down-there protocol m e =
    let by = some_passes (λ (i : MessageInfo). not i.up) (slice_get protocol.messages m) e in
    slice_get_within protocol.messages m by.0 by.1

directed-out : (s : Side) (messages : List MessageInfo) (k : RuleKind) (m : ℕ)
    → is_directed_rule s messages k ≡ true → message_out k ≡ Some m
    → option_map_or (λ i. goes_out s i.up) (slice_get messages m) false ≡ true
directed-out s messages action.Tau m e out = absurd (cc)
directed-out s messages (action.Input p n bound) m e out = absurd (cc)
directed-out s messages (action.Output p n sent) m e out =
    subst (λ k. option_map_or (λ i. goes_out s i.up) (slice_get messages k) false ≡ true)
    (same_Some n m out) e

directed-in : (s : Side) (messages : List MessageInfo) (k : RuleKind) (m : ℕ)
    → is_directed_rule s messages k ≡ true → message_in k ≡ Some m
    → option_map_or (λ i. goes_in s i.up) (slice_get messages m) false ≡ true
directed-in s messages action.Tau m e takes = absurd (cc)
directed-in s messages (action.Input p n bound) m e takes =
    subst (λ k. option_map_or (λ i. goes_in s i.up) (slice_get messages k) false ≡ true)
    (same_Some n m takes) e
directed-in s messages (action.Output p n sent) m e takes = absurd (cc)

module _ (protocol : NumberedProtocol) (state g : ℕ) (rule : Rule) (proper : IsProper protocol)
  where
    pub home_guard : guard_at protocol.home state g ≡ Some rule
        → IsGuardOf side.Home protocol.messages protocol.home state g rule
    home_guard there =
        guard_at-proper side.Home protocol.messages protocol.home state g rule proper.home there

    pub remote_guard : guard_at protocol.remote state g ≡ Some rule
        → IsGuardOf side.Remote protocol.messages protocol.remote state g rule
    remote_guard there =
        guard_at-proper side.Remote protocol.messages protocol.remote state g rule
        proper.remote there

    -- Home outputs and remote inputs name down messages, the others up messages.
    pub home_output-down : (m : ℕ) → guard_at protocol.home state g ≡ Some rule
        → message_out rule.kind ≡ Some m → goes_down protocol m ≡ true
    home_output-down m there out =
        directed-out side.Home protocol.messages rule.kind m
        (home_guard there).proper.action.direction out

    pub home_input-up : (m : ℕ) → guard_at protocol.home state g ≡ Some rule
        → message_in rule.kind ≡ Some m → goes_up protocol m ≡ true
    home_input-up m there takes =
        directed-in side.Home protocol.messages rule.kind m
        (home_guard there).proper.action.direction takes

    pub remote_output-up : (m : ℕ) → guard_at protocol.remote state g ≡ Some rule
        → message_out rule.kind ≡ Some m → goes_up protocol m ≡ true
    remote_output-up m there out =
        directed-out side.Remote protocol.messages rule.kind m
        (remote_guard there).proper.action.direction out

    pub remote_input-down : (m : ℕ) → guard_at protocol.remote state g ≡ Some rule
        → message_in rule.kind ≡ Some m → goes_down protocol m ≡ true
    remote_input-down m there takes =
        directed-in side.Remote protocol.messages rule.kind m
        (remote_guard there).proper.action.direction takes

-- ---- messages that are paired

-- where one of two holds, and the second doesn't, the first does
first_then : (first second : Bool) → (first || second) ≡ true → second ≡ false → first ≡ true
first_then true second e not_second = refl
first_then false second e not_second = absurd (cc)

second_then : (first second : Bool) → (first || second) ≡ true → first ≡ false → second ≡ true
second_then true second e not_first = absurd (cc)
second_then false second e not_first = e

reply_of-pair : (protocol : NumberedProtocol) (mode : Mode) (m p : ℕ)
    → reply_of protocol mode m ≡ Some p → is_pair protocol m p ≡ true
reply_of-pair protocol Plain m p e = absurd (cc)
reply_of-pair protocol Lean m p e =
    find-passes (is_pair protocol m) (range_with_len 0 (length protocol.messages)) p e

-- Messages that aren't of the direction are no pair of this kind.
not_up_pair : (protocol : NumberedProtocol) (m p : ℕ) → goes_up protocol m ≡ false
    → is_up_pair protocol m p ≡ false
not_up_pair protocol m p e = rw e refl

not_down_pair : (protocol : NumberedProtocol) (m p : ℕ) → goes_down protocol m ≡ false
    → is_down_pair protocol m p ≡ false
not_down_pair protocol m p e = rw e refl

-- The up message q has the reply p.
pub record IsUpPair (protocol : NumberedProtocol) (q p : ℕ) : Type 0 where
  pub down : goes_down protocol p ≡ true
  pub outputs :
      some_and_each (gives_message q) (goes_to_only protocol.remote (awaits p))
      (all_rules protocol.remote) ≡ true

-- The down message m has the reply p.
pub record IsDownPair (protocol : NumberedProtocol) (m p : ℕ) : Type 0 where
  pub up : goes_up protocol p ≡ true
  pub outputs :
      some_and_each (gives_message m) (awaits_answer protocol p) (all_rules protocol.home) ≡ true
  pub inputs :
      some_and_each (takes_message m) (goes_to_only protocol.remote (gives_message p))
      (all_rules protocol.remote) ≡ true

module _ (protocol : NumberedProtocol) (mode : Mode) (m p : ℕ)
    (reply : reply_of protocol mode m ≡ Some p) where
  -- the reply of an up message goes down
  pub up_pair : goes_up protocol m ≡ true → IsUpPair protocol m p
  up_pair up =
      let is =
      first_then (is_up_pair protocol m p) (is_down_pair protocol m p)
      (reply_of-pair protocol mode m p reply)
      (not_down_pair protocol m p (goes_up-not_down protocol m up)) in
      let outputs =
      some_and_each (gives_message m) (goes_to_only protocol.remote (awaits p))
      (all_rules protocol.remote) in
      let rest = and_parts (goes_up protocol m) (goes_down protocol p && outputs) is in
      let both = and_parts (goes_down protocol p) outputs rest.1 in
      record { down = both.0; outputs = both.1 }

  -- the reply of a down message goes up
  pub down_pair : goes_down protocol m ≡ true → IsDownPair protocol m p
  down_pair down =
      let is =
      second_then (is_up_pair protocol m p) (is_down_pair protocol m p)
      (reply_of-pair protocol mode m p reply)
      (not_up_pair protocol m p (goes_down-not_up protocol m down)) in
      let outputs =
      some_and_each (gives_message m) (awaits_answer protocol p) (all_rules protocol.home) in
      let inputs =
      some_and_each (takes_message m) (goes_to_only protocol.remote (gives_message p))
      (all_rules protocol.remote) in
      let first =
      and_parts (goes_down protocol m) (goes_up protocol p && (outputs && inputs)) is in
      let second = and_parts (goes_up protocol p) (outputs && inputs) first.1 in
      let third = and_parts outputs inputs second.1 in
      record { up = second.0; outputs = third.0; inputs = third.1 }

is_held_by-named : (x : ℕ) (p : RulePartner) → is_held_by x p ≡ true → p ≡ partner.Named x
is_held_by-named x partner.Home e = absurd (cc)
is_held_by-named x (partner.Any y) e = absurd (cc)
is_held_by-named x (partner.Member y s) e = absurd (cc)
is_held_by-named x (partner.Named y) e = ap (λ (z : ℕ). partner.Named z) (eqb-true y x e)

-- An input of the message from the remote that variable x holds.
pub record IsInputFrom (x m : ℕ) (k : RuleKind) : Type 0 where
  pub bound : Option ℕ
  pub kind : k ≡ action.Input (partner.Named x) m bound

input_from : (x m : ℕ) (k : RuleKind) → is_from x k ≡ true → message_in k ≡ Some m
    → IsInputFrom x m k
input_from x m action.Tau from takes = absurd (cc)
input_from x m (action.Output q n sent) from takes = absurd (cc)
input_from x m (action.Input q n bound) from takes =
    let named = is_held_by-named x q from in
    let same : n ≡ m = same_Some n m takes in
    record {
      bound = bound;
      kind = ap (λ (r : RulePartner). action.Input r n bound) named
          ∙ ap (λ (k : ℕ). action.Input (partner.Named x) k bound) same;
    }

-- The remote's output of a message with the reply p goes to a state whose one guard is an input of
-- p without a condition.
pub record AwaitsReply (protocol : NumberedProtocol) (p : ℕ) (rule : Rule) : Type 0 where
  pub next : Rule
  pub one : IsOneOf protocol.remote rule.next next
  pub free : IsFreeInput p next

-- The home's output of a message with the reply p, to the remote that variable x becomes or is,
-- leaves x alone in its assignments, and goes to a state whose one guard is an input of p from the
-- remote that x holds, without a condition.
pub record AwaitsReplyFrom (protocol : NumberedProtocol) (p : ℕ) (rule : Rule) : Type 0 where
  pub x : ℕ
  pub target : output_var rule.kind ≡ Some x
  pub alone : leaves_alone x rule ≡ true
  pub next : Rule
  pub one : IsOneOf protocol.home rule.next next
  pub from : IsInputFrom x p next.kind
  pub free : IsFreeInput p next

-- The remote's input of a message with the reply p goes to an active state whose output is p.
pub record LeadsToReply (protocol : NumberedProtocol) (p : ℕ) (rule : Rule) : Type 0 where
  pub next : Rule
  pub one : IsOneOf protocol.remote rule.next next
  pub out : message_out next.kind ≡ Some p
  pub output : is_output_kind next.kind ≡ true

pub message_out-output : (k : RuleKind) (m : ℕ) → message_out k ≡ Some m → is_output_kind k ≡ true
message_out-output action.Tau m e = absurd (cc)
message_out-output (action.Input p n bound) m e = absurd (cc)
message_out-output (action.Output p n sent) m e = refl

module _ (protocol : NumberedProtocol) (mode : Mode) (state g : ℕ) (rule : Rule) (m p : ℕ)
    (proper : IsProper protocol) (reply : reply_of protocol mode m ≡ Some p) where
  pub remote_output-awaits : guard_at protocol.remote state g ≡ Some rule
      → message_out rule.kind ≡ Some m → AwaitsReply protocol p rule
  remote_output-awaits there out =
      let up = remote_output-up protocol state g rule proper m there out in
      let pair = up_pair protocol mode m p reply up in
      let passes =
      each-at protocol.remote (gives_message m) (goes_to_only protocol.remote (awaits p)) state g
      rule pair.outputs there (message_is (message_out rule.kind) m out) in
      let next = goes_to_only-one protocol.remote (awaits p) rule passes in
      record { next = next.0; one = next.1; free = awaits-free p next.0 next.2 }

  pub home_output-awaits : guard_at protocol.home state g ≡ Some rule
      → message_out rule.kind ≡ Some m → AwaitsReplyFrom protocol p rule
  home_output-awaits there out =
      let down = home_output-down protocol state g rule proper m there out in
      let pair = down_pair protocol mode m p reply down in
      let passes =
      each-at protocol.home (gives_message m) (awaits_answer protocol p) state g rule pair.outputs
      there (message_is (message_out rule.kind) m out) in
      let of = some_passes (awaits_from_target protocol p rule) (output_var rule.kind) passes in
      let x = of.0 in
      let test : Rule → Bool = λ input. is_from x input.kind && awaits p input in
      let both = and_parts (leaves_alone x rule) (goes_to_only protocol.home test rule) of.2 in
      let next = goes_to_only-one protocol.home test rule both.1 in
      let parts = and_parts (is_from x next.0.kind) (awaits p next.0) next.2 in
      let free = awaits-free p next.0 parts.1 in
      record {
        x = x;
        target = of.1;
        alone = both.0;
        next = next.0;
        one = next.1;
        from = input_from x p next.0.kind parts.0 free.input;
        free = free;
      }

  pub remote_input-leads : guard_at protocol.remote state g ≡ Some rule
      → message_in rule.kind ≡ Some m → LeadsToReply protocol p rule
  remote_input-leads there takes =
      let down = remote_input-down protocol state g rule proper m there takes in
      let pair = down_pair protocol mode m p reply down in
      let passes =
      each-at protocol.remote (takes_message m) (goes_to_only protocol.remote (gives_message p))
      state g rule pair.inputs there (message_is (message_in rule.kind) m takes) in
      let next = goes_to_only-one protocol.remote (gives_message p) rule passes in
      let out = is_message (message_out next.0.kind) p next.2 in
      record {
        next = next.0;
        one = next.1;
        out = out;
        output = message_out-output next.0.kind p out;
      }

-- ---- types

guard-typed : (s : Side) (protocol : NumberedProtocol) (body : Body) (state g : ℕ) (rule : Rule)
    (vars : List Value) → IsProper protocol → IsProperBody s protocol.messages body
    → guard_at body state g ≡ Some rule → AreOfKinds body.vars vars
    → IsTyped protocol.messages body.vars vars rule
guard-typed s protocol body state g rule vars proper proper_body there kinds = record {
  side = s;
  states = length body.states;
  proper_carries = proper.messages;
  proper_infos = proper_body.vars;
  proper_rule = (guard_at-proper s protocol.messages body state g rule proper_body there).proper;
  kinds = kinds;
}

-- What an output gives is a message of the protocol, with a value of its type.
pub record IsGiven (messages : List MessageInfo) (kind : RuleKind) (message : ℕ × Value) : Type 0
  where
    pub out : message_out kind ≡ Some message.0
    pub there : message.0 < length messages
    pub value : IsCarriedBy messages message.0 message.1

given-typed : (messages : List MessageInfo) (vars : List Value) (rule : Rule) (message : ℕ × Value)
    → ((info : MessageInfo) → Offers messages rule info.carries
    → IsCarried info.carries (sends vars rule.kind info.carries))
    → given messages vars rule.kind ≡ Some message → IsGiven messages rule.kind message
given-typed messages vars rule message carried gives =
    let send : ℕ → MessageInfo → ℕ × Value =
    λ place m. (place, sends vars rule.kind m.carries) in
    let by =
    some_and_then (λ place. option_map (send place) (slice_get messages place))
    (message_out rule.kind) message gives in
    let of = some_map (send by.0) (slice_get messages by.0) message by.2 in
    let place : by.0 ≡ message.0 = ap (λ (pair : ℕ × Value). pair.0) of.2 in
    let sent : sends vars rule.kind of.0.carries ≡ message.1 =
    ap (λ (pair : ℕ × Value). pair.1) of.2 in
    let at : slice_get messages message.0 ≡ Some of.0 = ap (slice_get messages) (sym place)
    ∙ of.1 in
    let is = carried of.0
    (record { place = by.0; message = of.0; out = by.1; there = of.1; same = refl }) in
    record {
      out = by.1 ∙ ap (λ (k : ℕ). Some k) place;
      there = slice_get_within messages message.0 of.0 at;
      value = λ info here.
          let same : of.0 ≡ info = same_Some of.0 info (sym at ∙ here) in
          subst (λ (i : MessageInfo). IsCarried i.carries message.1) same
          (subst (λ (v : Value). IsCarried of.0.carries v) sent is);
    }

module _ (protocol : NumberedProtocol) (state g : ℕ) (rule : Rule) (vars : List Value)
    (proper : IsProper protocol) where
  -- Completing a guard of the home keeps each variable of its type, and what it gives is typed.
  pub home_guard-kinds : (partner : ℕ) (v : Value) → guard_at protocol.home state g ≡ Some rule
      → AreOfKinds protocol.home.vars vars → partner < 64
      → IsReceived protocol.messages rule.kind v
      → AreOfKinds protocol.home.vars (after_guard protocol.home vars rule rule.next partner v).vars
  home_guard-kinds partner v there kinds below received =
      AreOfKinds-completed protocol.messages protocol.home.vars vars rule partner v
      (guard-typed side.Home protocol protocol.home state g rule vars proper proper.home there
      kinds)
      below received

  pub home_guard-gives : (message : ℕ × Value) → guard_at protocol.home state g ≡ Some rule
      → AreOfKinds protocol.home.vars vars → given protocol.messages vars rule.kind ≡ Some message
      → IsGiven protocol.messages rule.kind message
  home_guard-gives message there kinds gives =
      let typed =
      guard-typed side.Home protocol protocol.home state g rule vars proper proper.home there
      kinds in
      given-typed protocol.messages vars rule message
      (λ info offers.
      IsCarried-send protocol.messages protocol.home.vars vars rule info.carries typed offers)
      gives

  -- The same of a guard of a remote.
  pub remote_guard-kinds : (partner : ℕ) (v : Value) → guard_at protocol.remote state g ≡ Some rule
      → AreOfKinds protocol.remote.vars vars → partner < 64
      → IsReceived protocol.messages rule.kind v
      → AreOfKinds protocol.remote.vars
      (after_guard protocol.remote vars rule rule.next partner v).vars
  remote_guard-kinds partner v there kinds below received =
      AreOfKinds-completed protocol.messages protocol.remote.vars vars rule partner v
      (guard-typed side.Remote protocol protocol.remote state g rule vars proper proper.remote there
      kinds)
      below received

  pub remote_guard-gives : (message : ℕ × Value) → guard_at protocol.remote state g ≡ Some rule
      → AreOfKinds protocol.remote.vars vars → given protocol.messages vars rule.kind ≡ Some message
      → IsGiven protocol.messages rule.kind message
  remote_guard-gives message there kinds gives =
      let typed =
      guard-typed side.Remote protocol protocol.remote state g rule vars proper proper.remote there
      kinds in
      given-typed protocol.messages vars rule message
      (λ info offers.
      IsCarried-send protocol.messages protocol.remote.vars vars rule info.carries typed offers)
      gives

-- ---- what is received

-- an input receives a value of its message's type, and no other kind receives any
pub input-received : (messages : List MessageInfo) (kind : RuleKind) (m : ℕ) (v : Value)
    → message_in kind ≡ Some m → IsCarriedBy messages m v → IsReceived messages kind v
input-received messages action.Tau m v takes is = absurd (cc)
input-received messages (action.Input p n bound) m v takes is =
    subst (λ k. IsCarriedBy messages k v) (sym (same_Some n m takes)) is
input-received messages (action.Output p n sent) m v takes is = absurd (cc)

pub output-received : (messages : List MessageInfo) (kind : RuleKind) (v : Value)
    → is_output_kind kind ≡ true → IsReceived messages kind v
output-received messages action.Tau v output = absurd (cc)
output-received messages (action.Input p n bound) v output = absurd (cc)
output-received messages (action.Output p n sent) v output = tt

pub tau-received : (messages : List MessageInfo) (kind : RuleKind) (v : Value)
    → kind ≡ action.Tau → IsReceived messages kind v
tau-received messages kind v is = rw is tt

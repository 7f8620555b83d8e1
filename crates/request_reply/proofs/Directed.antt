-- In a proper protocol a message and the reply to which its rules lead go in different directions.
use Rattle.std.proofs.Common.{◌≡◌, ℕ, ◌==◌, ◌&&◌, ◌||◌, not, Bool, true, false, cond, List, [], ◌∷◌}
use Rattle.std.proofs.Common.{length, flat_map, Option, Some, None, option_and_then}
use Rattle.std.proofs.Common.{slice_get, refl, subst}
use Rattle.std.specs.Option.{option_map_or}
use Rattle.std.specs.List.{list_any, AllByRecursion}
use Rattle.std.proofs.lemmas.Bool.{eqb-true}
use Rattle.rv_base.proofs.Lists.{AllByRecursion-append, AllByRecursion-at}
use Rattle.proto_model.specs.Guards.{only_of, only_next}
use Rattle.proto_model.specs.ValueTypes.{message_in, message_out}
use Rattle.proto_model.specs.RuleTypes.{is_directed_rule}
use Rattle.proto_model.specs.Star.{goes_in, goes_out}
use Rattle.proto_model.specs.Proper.{IsProper, IsProperBody, IsProperState, IsProperRule}
use Rattle.proto_model.specs.Numbered.{NumberedProtocol}
use Rattle.proto_model.specs.Pairs.{all_rules, goes_up, goes_down, gives_message, each_that}
use Rattle.proto_model.specs.Pairs.{some_and_each, no_atoms, is_from, leaves_alone, output_var}
use Rattle.proto_model.specs.declared.numbered.Side.{Side}
use Rattle.proto_model.specs.declared.numbered.Side.TheVariants as side
use Rattle.proto_model.specs.declared.numbered.RuleKind.{RuleKind}
use Rattle.proto_model.specs.declared.numbered.RuleKind.TheVariants as action
use Rattle.proto_model.specs.declared.numbered.Rule.{Rule}
use Rattle.proto_model.specs.declared.numbered.StateInfo.{StateInfo}
use Rattle.proto_model.specs.declared.numbered.VarInfo.{VarInfo}
use Rattle.proto_model.specs.declared.numbered.MessageInfo.{MessageInfo}
use Rattle.proto_model.specs.declared.numbered.Body.{Body}
use Rattle.request_reply.specs.Looks.{awaited, awaited_from, awaited_of_target, awaited_from_target}
use Rattle.request_reply.proofs.Both.{first_passes}
use Rattle.request_reply.proofs.Leads.{is_it}

at_it : (test : ℕ → Bool) (p k : ℕ) → test k ≡ true → (k == p) ≡ true → test p ≡ true
at_it test p k passes same = let e : k ≡ p = eqb-true k p same in subst (λ n. test n ≡ true) e
    passes

-- A process sends the one way and takes the other.
sends : Side → List MessageInfo → ℕ → Bool
sends s messages m = option_map_or (λ i. goes_out s i.up) (slice_get messages m) false

takes : Side → List MessageInfo → ℕ → Bool
takes s messages m = option_map_or (λ i. goes_in s i.up) (slice_get messages m) false

sends-out : (s : Side) (messages : List MessageInfo) (k : RuleKind) (m : ℕ)
    → is_directed_rule s messages k ≡ true → is_it m (message_out k) ≡ true
    → sends s messages m ≡ true
unfolding sends
sends-out s messages action.Tau m directed is = absurd (cc)
sends-out s messages (action.Input p n bound) m directed is = absurd (cc)
sends-out s messages (action.Output p n sent) m directed is =
    at_it (sends s messages) m n directed is

takes-in : (s : Side) (messages : List MessageInfo) (k : RuleKind) (m : ℕ)
    → is_directed_rule s messages k ≡ true → is_it m (message_in k) ≡ true
    → takes s messages m ≡ true
unfolding takes
takes-in s messages action.Tau m directed is = absurd (cc)
takes-in s messages (action.Input p n bound) m directed is =
    at_it (takes s messages) m n directed is
takes-in s messages (action.Output p n sent) m directed is = absurd (cc)

-- Each rule of the states is proper.
proper_rules : (s : Side) (messages : List MessageInfo) (vars : List VarInfo) (count : ℕ)
    (states : List StateInfo)
    → AllByRecursion (IsProperState s messages vars count) states
    → AllByRecursion (IsProperRule s messages vars count) (flat_map (λ state. state.rules) states)
proper_rules s messages vars count [] each = tt
proper_rules s messages vars count (state ∷ states) each =
    AllByRecursion-append (IsProperRule s messages vars count) state.rules
    (flat_map (λ state. state.rules) states) each.0.rules
    (proper_rules s messages vars count states each.1)

-- What holds if a rule passes a test holds if some rule does.
first_or_later : (b c holds : Bool) → (b ≡ true → holds ≡ true) → (c ≡ true → holds ≡ true)
    → (b || c) ≡ true → holds ≡ true
first_or_later true c holds first later some = first some
first_or_later false c holds first later some = later some

some_passes : {X : Type 0} (P : X → Type 0) (test : X → Bool) (holds : Bool)
    → ((x : X) → P x → test x ≡ true → holds ≡ true) → (xs : List X) → AllByRecursion P xs
    → list_any test xs ≡ true → holds ≡ true
some_passes P test holds step [] each some = absurd (cc)
some_passes P test holds step (x ∷ xs) each some =
    first_or_later (test x) (list_any test xs) holds (step x each.0)
    (some_passes P test holds step xs each.1) some

some_passes_any : {X : Type 0} (test : X → Bool) (holds : Bool)
    → ((x : X) → test x ≡ true → holds ≡ true) → (xs : List X) → list_any test xs ≡ true
    → holds ≡ true
some_passes_any test holds step [] some = absurd (cc)
some_passes_any test holds step (x ∷ xs) some =
    first_or_later (test x) (list_any test xs) holds (step x)
    (some_passes_any test holds step xs) some

some_goes_out : (s : Side) (messages : List MessageInfo) (body : Body) (m : ℕ)
    → IsProperBody s messages body → list_any (gives_message m) (all_rules body) ≡ true
    → sends s messages m ≡ true
some_goes_out s messages body m proper some =
    some_passes (IsProperRule s messages body.vars (length body.states)) (gives_message m)
    (sends s messages m)
    (λ rule is passes. sends-out s messages rule.kind m is.action.direction passes)
    (all_rules body)
    (proper_rules s messages body.vars (length body.states) body.states proper.states) some

-- So is the one rule of a next state.
only_of-proper : (s : Side) (messages : List MessageInfo) (vars : List VarInfo) (count : ℕ)
    (rules : List Rule) (next : Rule)
    → AllByRecursion (IsProperRule s messages vars count) rules → only_of rules ≡ Some next
    → IsProperRule s messages vars count next
only_of-proper s messages vars count [] next each is = absurd (cc)
only_of-proper s messages vars count (rule ∷ []) next each is =
    let same : rule ≡ next = cc in subst (IsProperRule s messages vars count) same each.0
only_of-proper s messages vars count (rule ∷ other ∷ rules) next each is = absurd (cc)

only_of_state : (s : Side) (messages : List MessageInfo) (body : Body) (place : ℕ)
    (o : Option StateInfo) (next : Rule)
    → IsProperBody s messages body → slice_get body.states place ≡ o
    → only_of (option_map_or (λ state. state.rules) o []) ≡ Some next
    → IsProperRule s messages body.vars (length body.states) next
only_of_state s messages body place None next proper at is = absurd (cc)
only_of_state s messages body place (Some state) next proper at is =
    only_of-proper s messages body.vars (length body.states) state.rules next
    (AllByRecursion-at (IsProperState s messages body.vars (length body.states)) body.states place
    state proper.states at).rules is

only_next-proper : (s : Side) (messages : List MessageInfo) (body : Body) (rule next : Rule)
    → IsProperBody s messages body → only_next body rule ≡ Some next
    → IsProperRule s messages body.vars (length body.states) next
only_next-proper s messages body rule next proper is =
    only_of_state s messages body rule.next (slice_get body.states rule.next) next proper refl is

-- The message that a rule awaits goes the way in which its process takes.
takes-kept : (s : Side) (messages : List MessageInfo) (b : Bool) (k : RuleKind) (m : ℕ)
    → is_directed_rule s messages k ≡ true → is_it m (cond b (message_in k) None) ≡ true
    → takes s messages m ≡ true
takes-kept s messages true k m directed is = takes-in s messages k m directed is
takes-kept s messages false k m directed is = absurd (cc)

awaited-takes : (s : Side) (messages : List MessageInfo) (rule : Rule) (m : ℕ)
    → is_directed_rule s messages rule.kind ≡ true → is_it m (awaited rule) ≡ true
    → takes s messages m ≡ true
awaited-takes s messages rule m directed is =
    takes-kept s messages (no_atoms rule.conds) rule.kind m directed is

from-takes : (s : Side) (messages : List MessageInfo) (rule : Rule) (b : Bool) (m : ℕ)
    → is_directed_rule s messages rule.kind ≡ true → is_it m (cond b (awaited rule) None) ≡ true
    → takes s messages m ≡ true
from-takes s messages rule true m directed is = awaited-takes s messages rule m directed is
from-takes s messages rule false m directed is = absurd (cc)

next-takes : (s : Side) (messages : List MessageInfo) (message : Rule → Option ℕ) (m : ℕ)
    (o : Option Rule)
    → ((next : Rule) → is_directed_rule s messages next.kind ≡ true → is_it m (message next) ≡ true
    → takes s messages m ≡ true)
    → ((next : Rule) → o ≡ Some next → is_directed_rule s messages next.kind ≡ true)
    → is_it m (option_and_then message o) ≡ true → takes s messages m ≡ true
next-takes s messages message m None step directed is = absurd (cc)
next-takes s messages message m (Some next) step directed is = step next (directed next refl) is

only_next-takes : (s : Side) (messages : List MessageInfo) (body : Body) (message : Rule → Option ℕ)
    (rule : Rule) (m : ℕ)
    → IsProperBody s messages body
    → ((next : Rule) → is_directed_rule s messages next.kind ≡ true → is_it m (message next) ≡ true
    → takes s messages m ≡ true)
    → is_it m (option_and_then message (only_next body rule)) ≡ true → takes s messages m ≡ true
only_next-takes s messages body message rule m proper step is =
    next-takes s messages message m (only_next body rule) step
    (λ next same. (only_next-proper s messages body rule next proper same).action.direction) is

target-takes : (s : Side) (messages : List MessageInfo) (body : Body) (rule : Rule) (m x : ℕ)
    (b : Bool)
    → IsProperBody s messages body
    → is_it m (cond b (option_and_then (awaited_from x) (only_next body rule)) None) ≡ true
    → takes s messages m ≡ true
target-takes s messages body rule m x true proper is =
    only_next-takes s messages body (awaited_from x) rule m proper
    (λ next. from-takes s messages next (is_from x next.kind) m) is
target-takes s messages body rule m x false proper is = absurd (cc)

output-takes : (s : Side) (messages : List MessageInfo) (body : Body) (rule : Rule) (m : ℕ)
    (o : Option ℕ)
    → IsProperBody s messages body
    → is_it m (option_and_then (awaited_of_target body rule) o) ≡ true → takes s messages m ≡ true
output-takes s messages body rule m None proper is = absurd (cc)
output-takes s messages body rule m (Some x) proper is =
    target-takes s messages body rule m x (leaves_alone x rule) proper is

-- Where some rule passes the first test, and each that does passes the second, some rule passes the
-- second.
one_second : (f s some each later : Bool) → ((some && each) ≡ true → later ≡ true)
    → ((f || some) && ((not f || s) && each)) ≡ true → (s || later) ≡ true
one_second f true some each later step is = refl
one_second true false some each later step is = absurd (cc)
one_second false false some each later step is = step is

some_second : (first second : Rule → Bool) (rules : List Rule)
    → some_and_each first second rules ≡ true → list_any second rules ≡ true
some_second first second [] is = absurd (cc)
some_second first second (rule ∷ rules) is =
    one_second (first rule) (second rule) (list_any first rules) (each_that first second rules)
    (list_any second rules)
    (some_second first second rules) is

some_first : (first second : Rule → Bool) (rules : List Rule)
    → some_and_each first second rules ≡ true → list_any first rules ≡ true
some_first first second rules is =
    first_passes (list_any first rules) (each_that first second rules) is

-- A message that a remote sends goes up, and what it awaits behind goes down.
pub up_request : (protocol : NumberedProtocol) → IsProper protocol → (q p : ℕ)
    → some_and_each (gives_message q)
    (λ rule. is_it p (option_and_then awaited (only_next protocol.remote rule)))
    (all_rules protocol.remote)
    ≡ true
    → (goes_up protocol q ≡ true) × (goes_down protocol p ≡ true)
unfolding sends takes
up_request protocol proper q p is =
    let awaits_p : Rule → Bool =
    λ rule. is_it p (option_and_then awaited (only_next protocol.remote rule)) in (
      some_goes_out side.Remote protocol.messages protocol.remote q proper.remote
          (some_first (gives_message q) awaits_p (all_rules protocol.remote) is),
      some_passes_any awaits_p (takes side.Remote protocol.messages p)
          (λ rule. only_next-takes side.Remote protocol.messages protocol.remote awaited rule p
          proper.remote
          (λ next. awaited-takes side.Remote protocol.messages next p))
          (all_rules protocol.remote)
          (some_second (gives_message q) awaits_p (all_rules protocol.remote) is),
    )

-- A message that the home sends goes down, and what it awaits behind goes up.
pub down_request : (protocol : NumberedProtocol) → IsProper protocol → (m p : ℕ)
    → some_and_each (gives_message m) (λ rule. is_it p (awaited_from_target protocol.home rule))
    (all_rules protocol.home)
    ≡ true
    → (goes_down protocol m ≡ true) × (goes_up protocol p ≡ true)
unfolding sends takes
down_request protocol proper m p is =
    let awaits_p : Rule → Bool = λ rule. is_it p (awaited_from_target protocol.home rule) in (
      some_goes_out side.Home protocol.messages protocol.home m proper.home
          (some_first (gives_message m) awaits_p (all_rules protocol.home) is),
      some_passes_any awaits_p (takes side.Home protocol.messages p)
          (λ rule. output-takes side.Home protocol.messages protocol.home rule p
          (output_var rule.kind) proper.home)
          (all_rules protocol.home)
          (some_second (gives_message m) awaits_p (all_rules protocol.home) is),
    )

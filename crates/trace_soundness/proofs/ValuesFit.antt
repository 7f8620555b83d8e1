-- Values, messages, variables and names of states hold no LF, and have few bytes.
use Rattle.std.proofs.Common.{◌≡◌, ◌≤◌, ◌+◌, ◌*◌, ℕ, zero, suc, Bool, true, false, List}
use Rattle.std.proofs.Common.{[], ◌∷◌, ◌++◌, length, map, Option, Some, None, arith, refl, sym}
use Rattle.std.proofs.Common.{codes, decimal, slice_get, subst, append-nil, if◌then◌else◌}
use Rattle.std.specs.List.{AllByRecursion}
use Rattle.std.specs.Option.{option_map_or}
use Rattle.std.proofs.Math.Nat.{mul-le-mul_right, suc-mul}
use Rattle.std.proofs.lemmas.List.{length-append, length-map, map-append}
use Rattle.rv_base.proofs.Lists.{AllByRecursion-at, AllByRecursion-append}
use Rattle.proto_model.specs.Tokens.{Text}
use Rattle.proto_model.specs.NumberSets.{has_number, members_below}
use Rattle.proto_model.specs.Texts.{value_text, carried_text, message_text, vars_text}
use Rattle.proto_model.specs.Texts.{state_name, message_name}
use Rattle.proto_model.specs.Proper.{IsProper, IsProperBody, IsProperVar, IsProperKind, IsShortName}
use Rattle.proto_model.specs.Proper.{IsProperCarry, IsProperState}
use Rattle.proto_model.specs.Numbered.{NumberedProtocol}
use Rattle.proto_model.specs.ValueTypes.{IsIntBelow, IsSet, IsOfKind, IsCarried}
use Rattle.proto_model.specs.ValueTypes.{IsCarriedBy}
use Rattle.proto_model.specs.ValueTypes.{AreOfKinds}
use Rattle.proto_model.specs.declared.protocol.Carry.{Carry}
use Rattle.proto_model.specs.declared.protocol.Carry.TheVariants as carry
use Rattle.proto_model.specs.declared.protocol.VarKind.{VarKind}
use Rattle.proto_model.specs.declared.protocol.VarKind.TheVariants as kind
use Rattle.proto_model.specs.declared.numbered.Side.{Side}
use Rattle.proto_model.specs.declared.numbered.Value.{Value}
use Rattle.proto_model.specs.declared.numbered.Value.TheVariants as value
use Rattle.proto_model.specs.declared.numbered.VarInfo.{VarInfo}
use Rattle.proto_model.specs.declared.numbered.StateInfo.{StateInfo}
use Rattle.proto_model.specs.declared.numbered.MessageInfo.{MessageInfo}
use Rattle.proto_model.specs.declared.numbered.Body.{Body}
use Rattle.schedule_replay.specs.TextLines.{HasNoLf}
use Rattle.rendezvous_meaning.specs.GivenMessage.{message_by_number}
use Rattle.trace_soundness.proofs.Plain.{IsPlain, IsPlainBody}
use Rattle.trace_soundness.proofs.Fits.{Fits, fits-append, fits-less, fits-nil, fits-literal}
use Rattle.trace_soundness.proofs.Fits.{fits-decimal, fits-joined, fits-name}

-- ---- values

-- The numbers below n in a set, by whether n is in it too.
with-next : (P : List ℕ → Type 0) (before : List ℕ) (n : ℕ) (is : Bool) → P before
    → P (before ++ n ∷ []) → P (before ++ (if is then n ∷ [] else []))
with-next P before n true same more = more
with-next P before n false same more = subst P (sym (append-nil before)) same

-- the numbers below n that are in a set are at most n
few-members : (set n : ℕ) → length (members_below set n) ≤ n
unfolding members_below
few-members set zero = omega arith
few-members set (suc n) =
    let few = few-members set n in
    with-next (λ (numbers : List ℕ). length numbers ≤ suc n) (members_below set n) n
    (has_number set n) (omega (arith, few))
    (let whole = length-append (members_below set n) (n ∷ []) in omega (arith, whole, few))

-- each of them fits in two bytes
members-fit : (set n : ℕ) → n ≤ 64 → AllByRecursion (Fits 2) (map decimal (members_below set n))
unfolding members_below
members-fit set zero few = tt
members-fit set (suc n) few =
    let before = members-fit set n (omega (arith, few)) in
    with-next (λ (numbers : List ℕ). AllByRecursion (Fits 2) (map decimal numbers))
    (members_below set n) n (has_number set n) before
    (subst (AllByRecursion (Fits 2)) (sym (map-append decimal (members_below set n) (n ∷ [])))
    (AllByRecursion-append (Fits 2) (map decimal (members_below set n)) (decimal n ∷ []) before
    (fits-decimal 2 n (omega arith) (omega (arith, few)) (omega (arith, few)), tt)))

-- a set has at most 64 members
set-fits : (set : ℕ) → Fits 194 (value_text (value.Set set))
set-fits set =
    let texts = map decimal (members_below set 64) in
    let count : length texts ≡ length (members_below set 64) = length-map (members_below set 64)
    decimal in
    let few = few-members set 64 in
    let joined = fits-joined 2 texts (members-fit set 64 (omega arith)) in
    fits-append (fits-literal (codes "{") refl)
    (fits-append (fits-less 192 joined (omega (arith, count, few))) (fits-literal (codes "}") refl))

node-fits : (v : Value) → IsOfKind kind.Node v → Fits 194 (value_text v)
node-fits value.Unit is = absurd is
node-fits (value.Int k) is = absurd is
node-fits value.Nowhere is = fits-less 194 (fits-literal (codes "none") refl) (omega arith)
node-fits (value.Node j) is =
    fits-less 194 (fits-append (fits-literal (codes "#") refl)
    (fits-decimal 2 j (omega arith) (omega (arith, is)) (omega (arith, is)))) (omega arith)
node-fits (value.Set s) is = absurd is

-- a number below the bound of an int
int-fits : (n : ℕ) (v : Value) → n ≤ 65536 → IsIntBelow n v → Fits 194 (value_text v)
int-fits n value.Unit few is = absurd is
int-fits n (value.Int k) few is =
    fits-less 194 (fits-decimal 5 k (omega arith) (omega (arith, few, is)) (omega (arith, few, is)))
    (omega arith)
int-fits n value.Nowhere few is = absurd is
int-fits n (value.Node j) few is = absurd is
int-fits n (value.Set s) few is = absurd is

set_value-fits : (v : Value) → IsSet v → Fits 194 (value_text v)
set_value-fits value.Unit is = absurd is
set_value-fits (value.Int k) is = absurd is
set_value-fits value.Nowhere is = absurd is
set_value-fits (value.Node j) is = absurd is
set_value-fits (value.Set s) is = set-fits s

-- a value of the type of a variable
pub value-fits : (k : VarKind) (v : Value) → IsProperKind k → IsOfKind k v → Fits 194 (value_text v)
value-fits (kind.Int n) v proper is = int-fits n v proper.1 is
value-fits kind.Node v proper is = node-fits v is
value-fits kind.Set v proper is = set_value-fits v is

-- ---- messages

-- a text in parentheses
in_parentheses : {m : ℕ} {text : Text} → Fits m text
    → Fits (1 + (m + 1)) (codes "(" ++ (text ++ codes ")"))
in_parentheses fits =
    fits-append (fits-literal (codes "(") refl) (fits-append fits (fits-literal (codes ")") refl))

-- the value that a message carries
carried-fits : (carries : Carry) (v : Value) → IsProperCarry carries → IsCarried carries v
    → Fits 196 (carried_text carries v)
carried-fits carry.Nothing v proper is = fits-nil 196
carried-fits (carry.Int n) v proper is = in_parentheses (int-fits n v proper.1 is)
carried-fits carry.Node v proper is = in_parentheses (node-fits v is)
carried-fits carry.Set v proper is = in_parentheses (set_value-fits v is)

-- What holds of each item holds of the one at a place, if there is one.
at_place : {X : Type 0} (P : Text → Type 0) (give : X → Text) (items : List X) (found : Option X)
    → ((x : X) → found ≡ Some x → P (give x)) → P [] → P (option_map_or give found [])
at_place P give items None each none = none
at_place P give items (Some x) each none = each x refl

-- a message with its value
pub message-fits : (protocol : NumberedProtocol) → IsProper protocol → IsPlain protocol
    → (m : ℕ) (v : Value) → IsCarriedBy protocol.messages m v
    → Fits 228 (message_by_number protocol.messages m v)
message-fits protocol proper plain m v typed =
    at_place (Fits 228) (λ info. message_text info v) protocol.messages
    (slice_get protocol.messages m)
    (λ info there.
    let name = fits-name info.name
    (AllByRecursion-at (λ (i : MessageInfo). IsShortName i.name) protocol.messages m info
    proper.short_names there)
    (AllByRecursion-at (λ (i : MessageInfo). HasNoLf i.name) protocol.messages m info
    plain.messages there) in
    let carries = AllByRecursion-at (λ (i : MessageInfo). IsProperCarry i.carries) protocol.messages
    m
    info proper.messages there in
    fits-append name (carried-fits info.carries v carries (typed info there)))
    (fits-nil 228)

-- the name of a message
pub message_name-fits : (protocol : NumberedProtocol) → IsProper protocol → IsPlain protocol
    → (m : ℕ) → Fits 32 (message_name protocol.messages m)
message_name-fits protocol proper plain m =
    at_place (Fits 32) (λ info. info.name) protocol.messages (slice_get protocol.messages m)
    (λ info there. fits-name info.name
    (AllByRecursion-at (λ (i : MessageInfo). IsShortName i.name) protocol.messages m info
    proper.short_names there)
    (AllByRecursion-at (λ (i : MessageInfo). HasNoLf i.name) protocol.messages m info
    plain.messages there))
    (fits-nil 32)

-- ---- variables

-- the variables of a process, each with its name and its value
vars-fit : (infos : List VarInfo) (vs : List Value) → AllByRecursion IsProperVar infos
    → AllByRecursion (λ i. IsShortName i.name) infos → AllByRecursion (λ i. HasNoLf i.name) infos
    → AreOfKinds infos vs → Fits (length infos * 228) (vars_text infos vs)
vars-fit [] [] proper short plain typed = fits-nil 0
vars-fit [] (v ∷ vs) proper short plain typed = absurd typed
vars-fit (i ∷ is) [] proper short plain typed = absurd typed
vars-fit (i ∷ is) (v ∷ vs) proper short plain typed =
    let one = fits-append (fits-literal (codes " ") refl)
    (fits-append (fits-name i.name short.0 plain.0)
    (fits-append (fits-literal (codes "=") refl)
    (value-fits i.kind v proper.0.kind typed.0))) in
    let more : suc (length is) * 228 ≡ length is * 228 + 228 = suc-mul (length is) 228 in
    fits-less (suc (length is) * 228)
    (fits-append one (vars-fit is vs proper.1 short.1 plain.1 typed.1)) (omega (arith, more))

-- the variables of a process of the protocol
pub body_vars-fit : (s : Side) (messages : List MessageInfo) (body : Body) (vs : List Value)
    → IsProperBody s messages body → IsPlainBody body → AreOfKinds body.vars vs
    → Fits 3648 (vars_text body.vars vs)
body_vars-fit s messages body vs proper plain typed =
    fits-less 3648 (vars-fit body.vars vs proper.vars proper.short_names plain.vars typed)
    (mul-le-mul_right 228 proper.few_vars)

-- the name of a state
pub state_name-fits : (s : Side) (messages : List MessageInfo) (body : Body) (state : ℕ)
    → IsProperBody s messages body → IsPlainBody body → Fits 32 (state_name body state)
state_name-fits s messages body state proper plain =
    at_place (Fits 32) (λ info. info.name) body.states (slice_get body.states state)
    (λ info there. fits-name info.name
    (AllByRecursion-at (IsProperState s messages body.vars (length body.states)) body.states state
    info proper.states there).short_name
    (AllByRecursion-at (λ (i : StateInfo). HasNoLf i.name) body.states state info plain.states
    there))
    (fits-nil 32)

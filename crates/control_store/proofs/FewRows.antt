-- A sound table has at most 6,208 rows: the home five for each of 16 guards of 64 states, a remote
-- 17 for each of 64 states, since an active state has one guard.
use Rattle.std.proofs.Common.{◌≡◌, ℕ, zero, suc, ◌+◌, ◌*◌, ◌≤◌, Bool, true, false, List, []}
use Rattle.std.proofs.Common.{◌∷◌, ◌++◌, length, Option, Some, slice_get, refl, ap}
use Rattle.std.proofs.Common.{subst, arith, length-append}
use Rattle.std.specs.List.{list_any}
use Rattle.std.proofs.Math.Nat.{suc-mul}
use Rattle.std.proofs.lemmas.Bool.{or_parts}
use Rattle.rv_base.specs.Lists.{flat_from}
use Rattle.rv_base.proofs.Lists.{AllByRecursion-at}
use Rattle.proto_model.specs.Numbered.{NumberedProtocol}
use Rattle.proto_model.specs.Proper.{IsProper, IsProperBody, IsProperState, IsActiveForm}
use Rattle.proto_model.specs.Proper.{is_output_kind}
use Rattle.proto_model.specs.Pairs.{replies_of}
use Rattle.proto_model.specs.declared.mode.Mode.{Mode}
use Rattle.proto_model.specs.declared.numbered.Side.{Side}
use Rattle.proto_model.specs.declared.numbered.Side.TheVariants as side
use Rattle.proto_model.specs.declared.numbered.RuleKind.{RuleKind}
use Rattle.proto_model.specs.declared.numbered.RuleKind.TheVariants as action
use Rattle.proto_model.specs.declared.numbered.Rule.{Rule}
use Rattle.proto_model.specs.declared.numbered.StateInfo.{StateInfo}
use Rattle.proto_model.specs.declared.numbered.MessageInfo.{MessageInfo}
use Rattle.proto_model.specs.declared.numbered.Body.{Body}
use Rattle.controller_table.specs.Rows.{guard_id, is_reply_down, is_reply_up, is_active, pay_rows}
use Rattle.controller_table.specs.Rows.{due_rows, last_rows, home_action_rows, home_guard_rows}
use Rattle.controller_table.specs.Rows.{home_state_rows, home_rows_of, remote_action_rows}
use Rattle.controller_table.specs.Rows.{remote_guard_rows, remote_state_rows, remote_rows_of}
use Rattle.controller_table.specs.Rows.{home_rows, remote_rows}
use Rattle.controller_table.specs.Sound.{IsSound, Tabled, protocol_of}
use Rattle.controller_table.specs.declared.rows.GuardId.{GuardId}
use Rattle.controller_table.specs.declared.rows.Row.{Row}
use Rattle.control_store.specs.Compared.{all_rows}
use Rattle.control_store.proofs.Ranges.{rows-are}

-- ---- what items give, where each gives at most so many

flat-few : {A : Type 0} (most : ℕ) (give : ℕ → A → List Row) (from : ℕ) (items : List A)
    → ((place : ℕ) (item : A) → slice_get items place ≡ Some item
    → length (give (from + place) item) ≤ most)
    → length (flat_from give from items) ≤ length items * most
flat-few most give from [] each = omega arith
flat-few most give from (item ∷ items) each =
    let here : from + 0 ≡ from = omega arith in
    let first : length (give from item) ≤ most =
    subst (λ (n : ℕ). length (give n item) ≤ most) here (each 0 item refl) in
    let rest : length (flat_from give (from + 1) items) ≤ length items * most =
    flat-few most give (from + 1) items (λ place other at.
    let there : from + suc place ≡ from + 1 + place = omega arith in
    subst (λ (n : ℕ). length (give n other) ≤ most) there (each (suc place) other at)) in
    omega (
      arith,
      length-append (give from item) (flat_from give (from + 1) items),
      suc-mul (length items) most,
    )

-- ---- one guard

pay-few : (reply : Bool) (g : GuardId) (rule : Rule) (m : ℕ) → length (pay_rows reply g rule m) ≤ 1
pay-few false g rule m = omega arith
pay-few true g rule m = omega arith

due-few : (reply : Bool) (g : GuardId) (rule : Rule) (q : ℕ) → length (due_rows reply g rule q) ≤ 1
due-few false g rule q = omega arith
due-few true g rule q = omega arith

last-few : (active : Bool) (state : ℕ) → length (last_rows active state) ≤ 1
last-few false state = omega arith
last-few true state = omega arith

none-any : (test : Rule → Bool) (rules : List Rule) (place : ℕ) (rule : Rule)
    → list_any test rules ≡ false → slice_get rules place ≡ Some rule → test rule ≡ false
none-any test [] place rule none at = absurd (cc)
none-any test (first ∷ rules) zero rule none at =
    let same : first ≡ rule = cc in
    subst (λ (r : Rule). test r ≡ false) same (or_parts (test first) (list_any test rules) none).0
none-any test (first ∷ rules) (suc place) rule none at =
    none-any test rules place rule (or_parts (test first) (list_any test rules) none).1 at

module _ (messages : List MessageInfo) (replies : List (Option ℕ)) (body : Body) where
  home-action-few : (g : GuardId) (rule : Rule) (kind : RuleKind)
      → length (home_action_rows messages replies body g rule kind) ≤ 5
  home-action-few g rule action.Tau = omega arith
  home-action-few g rule (action.Input p m bound) = omega arith
  home-action-few g rule (action.Output p m sent) =
      let paid = pay-few (is_reply_down messages replies m) g rule m in omega arith

  remote-action-few : (g : GuardId) (rule : Rule) (kind : RuleKind)
      → length (remote_action_rows messages replies body g rule kind) ≤ 4
  remote-action-few g rule action.Tau = omega arith
  remote-action-few g rule (action.Input p m bound) = omega arith
  remote-action-few g rule (action.Output p q sent) =
      let due = due-few (is_reply_up messages replies q) g rule q in omega arith

  passive-action-few : (g : GuardId) (rule : Rule) (kind : RuleKind) → is_output_kind kind ≡ false
      → length (remote_action_rows messages replies body g rule kind) ≤ 1
  passive-action-few g rule action.Tau e = omega arith
  passive-action-few g rule (action.Input p m bound) e = omega arith
  passive-action-few g rule (action.Output p q sent) e = absurd (cc)

  -- ---- one state

  home-state-few : (state : ℕ) (info : StateInfo) → length info.rules ≤ 16
      → length (home_state_rows messages replies body state info) ≤ 80
  home-state-few state info few =
      let rows =
      flat-few 5 (home_guard_rows messages replies body state) 0 info.rules (λ guard rule at.
      home-action-few (guard_id state (0 + guard)) rule rule.kind) in
      omega arith

  remote-state-few : (state : ℕ) (info : StateInfo) (active : Bool) → length info.rules ≤ 16
      → IsActiveForm side.Remote info.rules → is_active info ≡ active
      → length (flat_from (remote_guard_rows messages replies body state) 0 info.rules
      ++ last_rows active state) ≤ 17
  remote-state-few state info true few form is =
      let one = form is in
      let count : length info.rules ≡ 1 = ap (λ (rules : List Rule). length rules) one.1 in
      let rows =
      flat-few 4 (remote_guard_rows messages replies body state) 0 info.rules (λ guard rule at.
      remote-action-few (guard_id state (0 + guard)) rule rule.kind) in
      omega (
        arith,
        length-append (flat_from (remote_guard_rows messages replies body state) 0 info.rules) [],
      )
  remote-state-few state info false few form is =
      let rows =
      flat-few 1 (remote_guard_rows messages replies body state) 0 info.rules (λ guard rule at.
      passive-action-few (guard_id state (0 + guard)) rule rule.kind
      (none-any (λ r. is_output_kind r.kind) info.rules guard rule is at)) in
      let last = last-few false state in
      omega (
        arith,
        length-append (flat_from (remote_guard_rows messages replies body state) 0 info.rules)
            (last_rows false state),
      )

  -- ---- all states

  module _ (s : Side) (proper : IsProperBody s messages body) where
    state-is : (state : ℕ) (info : StateInfo) → slice_get body.states state ≡ Some info
        → IsProperState s messages body.vars (length body.states) info
    state-is state info there =
        AllByRecursion-at (IsProperState s messages body.vars (length body.states)) body.states
        state info proper.states there

  pub home-rows-few : IsProperBody side.Home messages body
      → length (home_rows_of messages replies body) ≤ 5120
  home-rows-few proper =
      let rows =
      flat-few 80 (home_state_rows messages replies body) 0 body.states (λ state info there.
      home-state-few (0 + state) info (state-is side.Home proper state info there).few_rules) in
      let few = proper.few_states in
      omega arith

  pub remote-rows-few : IsProperBody side.Remote messages body
      → length (remote_rows_of messages replies body) ≤ 1088
  remote-rows-few proper =
      let rows =
      flat-few 17 (remote_state_rows messages replies body) 0 body.states (λ state info there.
      let is = state-is side.Remote proper state info there in
      remote-state-few (0 + state) info (is_active info) is.few_rules is.active refl) in
      let few = proper.few_states in
      omega arith

-- ---- a table

pub protocol-few : (protocol : NumberedProtocol) (mode : Mode) → IsProper protocol
    → length (home_rows protocol mode ++ remote_rows protocol mode) ≤ 6208
protocol-few protocol mode proper =
    let replies : List (Option ℕ) = replies_of protocol mode in
    let home = home-rows-few protocol.messages replies protocol.home proper.home in
    let remote = remote-rows-few protocol.messages replies protocol.remote proper.remote in
    omega (arith, length-append (home_rows protocol mode) (remote_rows protocol mode))

pub table-few : (table : Tabled) → IsSound table → length (all_rows table) ≤ 6208
table-few table sound =
    let few = protocol-few (protocol_of table) table.mode sound.proper in
    let same = ap (λ (rows : List Row). length rows) (rows-are table sound) in
    omega arith

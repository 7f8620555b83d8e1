-- Each row of a sound table is in range.
use Rattle.std.proofs.Common.{◌≡◌, ◌⊎◌, inl, inr, ℕ, suc, ◌+◌, ◌<◌, ◌≤◌, Bool, true, false}
use Rattle.std.proofs.Common.{◌&&◌}
use Rattle.std.proofs.Common.{◌||◌, List, [], ◌∷◌, ◌++◌, length, Option, Some, None, slice_get}
use Rattle.std.proofs.Common.{refl, sym, ap, subst, ◌∙◌, arith}
use Rattle.std.specs.Option.{option_map_or}
use Rattle.std.specs.List.{AllByRecursion, range_with_len}
use Rattle.std.proofs.lemmas.Bool.{and_parts}
use Rattle.std.proofs.lemmas.Option.{slice_get_within}
use Rattle.rv_base.specs.Lists.{flat_from}
use Rattle.rv_base.proofs.Lists.{AllByRecursion-append, AllByRecursion-at, AllByRecursion-map}
use Rattle.rv_base.proofs.Lists.{some_and_then, find-passes}
use Rattle.proto_model.specs.Numbered.{NumberedProtocol}
use Rattle.proto_model.specs.Guards.{guard_at}
use Rattle.proto_model.specs.Proper.{IsProper, IsProperBody, IsProperState, IsProperRule}
use Rattle.proto_model.specs.Proper.{IsActionInRange}
use Rattle.proto_model.specs.Pairs.{is_up_pair, is_down_pair, is_pair, goes_up, goes_down}
use Rattle.proto_model.specs.Pairs.{reply_of, replies_of, some_and_each, gives_message}
use Rattle.proto_model.specs.Pairs.{takes_message, goes_to_only, awaits, awaits_answer, all_rules}
use Rattle.proto_model.proofs.ProperFacts.{guard_at-proper, goes_up-there, goes_down-there}
use Rattle.proto_model.specs.declared.mode.Mode.{Mode}
use Rattle.proto_model.specs.declared.mode.Mode.TheVariants.{Plain, Lean}
use Rattle.proto_model.specs.declared.numbered.Side.{Side}
use Rattle.proto_model.specs.declared.numbered.Side.TheVariants as side
use Rattle.proto_model.specs.declared.numbered.RuleKind.{RuleKind}
use Rattle.proto_model.specs.declared.numbered.RuleKind.TheVariants as action
use Rattle.proto_model.specs.declared.numbered.Rule.{Rule}
use Rattle.proto_model.specs.declared.numbered.StateInfo.{StateInfo}
use Rattle.proto_model.specs.declared.numbered.MessageInfo.{MessageInfo}
use Rattle.proto_model.specs.declared.numbered.Body.{Body}
use Rattle.controller_table.specs.Rows.{guard_id, next_of_first, reply_at, is_reply_down}
use Rattle.controller_table.specs.Rows.{is_reply_up, is_active, tau_row, send_row, answered_row}
use Rattle.controller_table.specs.Rows.{back_row, take_row, pay_rows, due_rows}
use Rattle.controller_table.specs.Rows.{answer_row, last_rows, home_action_rows}
use Rattle.controller_table.specs.Rows.{home_guard_rows, home_state_rows, home_rows_of}
use Rattle.controller_table.specs.Rows.{remote_action_rows, remote_guard_rows, remote_state_rows}
use Rattle.controller_table.specs.Rows.{remote_rows_of, home_rows, remote_rows}
use Rattle.controller_table.specs.Sound.{IsSound, Tabled, protocol_of}
use Rattle.controller_table.specs.declared.rows.GuardId.{GuardId}
use Rattle.controller_table.specs.declared.rows.Trigger.{Trigger}
use Rattle.controller_table.specs.declared.rows.Trigger.TheVariants.{GotNack, GotRequest}
use Rattle.controller_table.specs.declared.rows.Row.{Row}
use Rattle.control_store.specs.RowWord.{IsState, IsGuard, IsMessage, IsGuardInRange}
use Rattle.control_store.specs.RowWord.{IsTriggerInRange, IsInRange}
use Rattle.control_store.specs.Compared.{all_rows}

-- ---- what items give, each with what is known of it at its place

flat-each : {A : Type 0} (give : ℕ → A → List Row) (from : ℕ) (items : List A)
    → ((place : ℕ) (item : A) → slice_get items place ≡ Some item
    → AllByRecursion IsInRange (give (from + place) item))
    → AllByRecursion IsInRange (flat_from give from items)
flat-each give from [] each = tt
flat-each give from (item ∷ items) each =
    let here : from + 0 ≡ from = omega arith in
    AllByRecursion-append IsInRange (give from item) (flat_from give (from + 1) items)
    (subst (λ (n : ℕ). AllByRecursion IsInRange (give n item)) here (each 0 item refl))
    (flat-each give (from + 1) items (λ place other at.
    let there : from + suc place ≡ from + 1 + place = omega arith in
    subst (λ (n : ℕ). AllByRecursion IsInRange (give n other)) there (each (suc place) other at)))

-- ---- replies

-- the reply, if there is one, is a message
abbrev pub IsReply : Option ℕ → Type 0
IsReply None = Unit {0}
IsReply (Some p) = IsMessage p

either : (a b : Bool) → (a || b) ≡ true → (a ≡ true) ⊎ (b ≡ true)
either true b e = inl refl
either false b e = inr e

up-there : (protocol : NumberedProtocol) (q p : ℕ) → is_up_pair protocol q p ≡ true
    → p < length protocol.messages
up-there protocol q p e =
    let outputs : Bool =
    some_and_each (gives_message q) (goes_to_only protocol.remote (awaits p))
    (all_rules protocol.remote) in
    let rest = and_parts (goes_up protocol q) (goes_down protocol p && outputs) e in
    goes_down-there protocol p (and_parts (goes_down protocol p) outputs rest.1).0

down-there : (protocol : NumberedProtocol) (m p : ℕ) → is_down_pair protocol m p ≡ true
    → p < length protocol.messages
down-there protocol m p e =
    let both : Bool =
    some_and_each (gives_message m) (awaits_answer protocol p) (all_rules protocol.home)
    && some_and_each (takes_message m) (goes_to_only protocol.remote (gives_message p))
    (all_rules protocol.remote) in
    let rest = and_parts (goes_down protocol m) (goes_up protocol p && both) e in
    goes_up-there protocol p (and_parts (goes_up protocol p) both rest.1).0

pair-there : (protocol : NumberedProtocol) (m p : ℕ)
    → (is_up_pair protocol m p ≡ true) ⊎ (is_down_pair protocol m p ≡ true)
    → p < length protocol.messages
pair-there protocol m p (inl e) = up-there protocol m p e
pair-there protocol m p (inr e) = down-there protocol m p e

reply-there : (protocol : NumberedProtocol) (mode : Mode) (m p : ℕ)
    → reply_of protocol mode m ≡ Some p → p < length protocol.messages
reply-there protocol Plain m p e = absurd (cc)
reply-there protocol Lean m p e =
    pair-there protocol m p
    (either (is_up_pair protocol m p) (is_down_pair protocol m p)
    (find-passes (is_pair protocol m) (range_with_len 0 (length protocol.messages)) p e))

reply-is : (protocol : NumberedProtocol) (mode : Mode) (m : ℕ) (reply : Option ℕ)
    → IsProper protocol → reply_of protocol mode m ≡ reply → IsReply reply
reply-is protocol mode m None proper e = tt
reply-is protocol mode m (Some p) proper e =
    let there : p < length protocol.messages = reply-there protocol mode m p e in
    let few = proper.few_messages in
    omega arith

replies-are : (protocol : NumberedProtocol) (mode : Mode) → IsProper protocol
    → AllByRecursion IsReply (replies_of protocol mode)
replies-are protocol mode proper =
    AllByRecursion-map IsReply (reply_of protocol mode)
    (range_with_len 0 (length protocol.messages))
    (λ place m at. reply-is protocol mode m (reply_of protocol mode m) proper refl)

reply_at-found : (replies : List (Option ℕ)) (m : ℕ) (reply : Option ℕ)
    → AllByRecursion IsReply replies → reply_at replies m ≡ reply → IsReply reply
reply_at-found replies m None are e = tt
reply_at-found replies m (Some p) are e =
    let by = some_and_then (λ (r : Option ℕ). r) (slice_get replies m) p e in
    subst IsReply by.2 (AllByRecursion-at IsReply replies m by.0 are by.1)

-- ---- the first rule of a state

first-next : (s : Side) (messages : List MessageInfo) (body : Body) (state : ℕ)
    (first : Option Rule) → IsProperBody s messages body → guard_at body state 0 ≡ first
    → IsState (option_map_or (λ rule. rule.next) first 0)
first-next s messages body state None proper e = omega arith
first-next s messages body state (Some rule) proper e =
    let is = guard_at-proper s messages body state 0 rule proper e in
    let next = is.proper.next in
    let few = proper.few_states in
    omega arith

-- ---- the rows of one guard

module _ (g : GuardId) (rule : Rule) (here : IsGuardInRange g) (next : IsState rule.next) where
  tau-in : IsInRange (tau_row g rule)
  tau-in = record { at = here.0; on = here.1; puts = tt; does = here; to = next }

  send-in : (m : ℕ) → IsMessage m → IsInRange (send_row g m)
  send-in m small = record { at = here.0; on = here.1; puts = small; does = tt; to = here }

  answered-in : (body : Body) (reply : Option ℕ) → IsState (next_of_first body rule.next)
      → IsReply reply → IsInRange (answered_row body g rule reply)
  answered-in body None first small =
      record { at = here; on = tt; puts = tt; does = here; to = next }
  answered-in body (Some p) first small =
      let zeroth : IsGuard 0 = omega arith in
      record { at = here; on = small; puts = tt; does = (here, (next, zeroth)); to = first }

  back-in : (on : Trigger) → IsTriggerInRange on → IsInRange (back_row g on)
  back-in on small = record { at = here; on = small; puts = tt; does = tt; to = here.0 }

  take-in : (reply : Option ℕ) → IsReply reply → IsInRange (take_row g rule reply)
  take-in None small = record { at = here.0; on = here.1; puts = tt; does = here; to = next }
  take-in (Some p) small = record { at = here.0; on = here.1; puts = small; does = here; to = next }

  pay-in : (reply : Bool) (m : ℕ) → IsMessage m → AllByRecursion IsInRange (pay_rows reply g rule m)
  pay-in false m small = tt
  pay-in true m small = (
    record { at = here.0; on = here.1; puts = small; does = here; to = next },
    tt,
  )

  due-in : (reply : Bool) (q : ℕ) → IsMessage q → AllByRecursion IsInRange (due_rows reply g rule q)
  due-in false q small = tt
  due-in true q small = (
    record { at = here; on = here.1; puts = small; does = here; to = next },
    tt,
  )

  answer-in : (reply : Option ℕ) → IsReply reply → IsInRange (answer_row g rule reply)
  answer-in None small = record { at = here.0; on = here.1; puts = tt; does = here; to = next }
  answer-in (Some p) small =
      let zeroth : IsGuard 0 = omega arith in
      record { at = here.0; on = here.1; puts = tt; does = here; to = (next, zeroth) }

last-in : (active : Bool) (state : ℕ) → IsState state
    → AllByRecursion IsInRange (last_rows active state)
last-in true state small = tt
last-in false state small = (
  record { at = small; on = tt; puts = tt; does = tt; to = small },
  tt,
)

-- ---- the rows of a process

module _ (messages : List MessageInfo) (replies : List (Option ℕ))
    (few : length messages ≤ 64) (are : AllByRecursion IsReply replies) (body : Body) where
  reply-small : (m : ℕ) → IsReply (reply_at replies m)
  reply-small m = reply_at-found replies m (reply_at replies m) are refl

  home-action : (count : ℕ) (g : GuardId) (rule : Rule) (kind : RuleKind) → IsGuardInRange g
      → IsState rule.next → IsState (next_of_first body rule.next)
      → IsActionInRange count (length messages) kind
      → AllByRecursion IsInRange (home_action_rows messages replies body g rule kind)
  home-action count g rule action.Tau here next first is = (tau-in g rule here next, tt)
  home-action count g rule (action.Input p m bound) here next first is =
      (take-in g rule here next (reply_at replies m) (reply-small m), tt)
  home-action count g rule (action.Output p m sent) here next first is =
      let small : IsMessage m = omega (arith, is.1, few) in (
        send-in g rule here next m small,
        (
          answered-in g rule here next body (reply_at replies m) first (reply-small m),
          (
            back-in g rule here next GotNack tt,
            (
              back-in g rule here next GotRequest tt,
              pay-in g rule here next (is_reply_down messages replies m) m small,
            ),
          ),
        ),
      )

  remote-action : (count : ℕ) (g : GuardId) (rule : Rule) (kind : RuleKind) → IsGuardInRange g
      → IsState rule.next → IsState (next_of_first body rule.next)
      → IsActionInRange count (length messages) kind
      → AllByRecursion IsInRange (remote_action_rows messages replies body g rule kind)
  remote-action count g rule action.Tau here next first is = (tau-in g rule here next, tt)
  remote-action count g rule (action.Input p m bound) here next first is =
      (answer-in g rule here next (reply_at replies m) (reply-small m), tt)
  remote-action count g rule (action.Output p q sent) here next first is =
      let small : IsMessage q = omega (arith, is.1, few) in (
        send-in g rule here next q small,
        (
          answered-in g rule here next body (reply_at replies q) first (reply-small q),
          (
            back-in g rule here next GotNack tt,
            due-in g rule here next (is_reply_up messages replies q) q small,
          ),
        ),
      )

  module _ (s : Side) (proper : IsProperBody s messages body) where
    -- what is known of a rule at its place in its state
    record IsRuleAt (state guard : ℕ) (rule : Rule) : Type 0 where
      here : IsGuardInRange (guard_id state guard)
      next : IsState rule.next
      first : IsState (next_of_first body rule.next)
      action : IsActionInRange (length body.vars) (length messages) rule.kind

    rule-at : (state : ℕ) (info : StateInfo) (guard : ℕ) (rule : Rule)
        → slice_get body.states state ≡ Some info → slice_get info.rules guard ≡ Some rule
        → IsRuleAt (0 + state) (0 + guard) rule
    rule-at state info guard rule state_there rule_there =
        let count = length body.states in
        let is =
        AllByRecursion-at (IsProperState s messages body.vars count) body.states state info
        proper.states state_there in
        let rule_is =
        AllByRecursion-at (IsProperRule s messages body.vars count) info.rules guard rule is.rules
        rule_there in
        let state_within = slice_get_within body.states state info state_there in
        let guard_within = slice_get_within info.rules guard rule rule_there in
        let states_few = proper.few_states in
        let rules_few = is.few_rules in
        let goes = rule_is.next in
        let small_state : 0 + state < 64 = omega arith in
        let small_guard : 0 + guard < 16 = omega arith in
        let small_next : rule.next < 64 = omega arith in
        record {
          here = (small_state, small_guard);
          next = small_next;
          first = first-next s messages body rule.next (guard_at body rule.next 0) proper refl;
          action = rule_is.action.in_range;
        }

    pub home-rows-in : AllByRecursion IsInRange (home_rows_of messages replies body)
    home-rows-in =
        flat-each (home_state_rows messages replies body) 0 body.states
        (λ state info state_there.
        flat-each (home_guard_rows messages replies body (0 + state)) 0 info.rules
        (λ guard rule rule_there.
        let is = rule-at state info guard rule state_there rule_there in
        home-action (length body.vars) (guard_id (0 + state) (0 + guard)) rule rule.kind is.here
        is.next is.first is.action))

    pub remote-rows-in : AllByRecursion IsInRange (remote_rows_of messages replies body)
    remote-rows-in =
        flat-each (remote_state_rows messages replies body) 0 body.states
        (λ state info state_there.
        let within = slice_get_within body.states state info state_there in
        let states_few = proper.few_states in
        let small : 0 + state < 64 = omega arith in
        AllByRecursion-append IsInRange
        (flat_from (remote_guard_rows messages replies body (0 + state)) 0 info.rules)
        (last_rows (is_active info) (0 + state))
        (flat-each (remote_guard_rows messages replies body (0 + state)) 0 info.rules
        (λ guard rule rule_there.
        let is = rule-at state info guard rule state_there rule_there in
        remote-action (length body.vars) (guard_id (0 + state) (0 + guard)) rule rule.kind is.here
        is.next is.first is.action))
        (last-in (is_active info) (0 + state) small))

-- ---- the rows of a table

pub protocol-rows-in : (protocol : NumberedProtocol) (mode : Mode) → IsProper protocol
    → AllByRecursion IsInRange (home_rows protocol mode ++ remote_rows protocol mode)
protocol-rows-in protocol mode proper =
    let replies : List (Option ℕ) = replies_of protocol mode in
    let are = replies-are protocol mode proper in
    AllByRecursion-append IsInRange (home_rows protocol mode) (remote_rows protocol mode)
    (home-rows-in protocol.messages replies proper.few_messages are protocol.home side.Home
    proper.home)
    (remote-rows-in protocol.messages replies proper.few_messages are protocol.remote side.Remote
    proper.remote)

pub rows-are : (table : Tabled) → IsSound table
    → all_rows table
    ≡ home_rows (protocol_of table) table.mode ++ remote_rows (protocol_of table) table.mode
rows-are table sound =
    ap (λ (rows : List Row). rows ++ table.remote.rows) sound.home_rows
    ∙ ap (λ (rows : List Row). home_rows (protocol_of table) table.mode ++ rows) sound.remote_rows

pub rows-in : (table : Tabled) → IsSound table → AllByRecursion IsInRange (all_rows table)
rows-in table sound =
    subst (AllByRecursion IsInRange) (sym (rows-are table sound))
    (protocol-rows-in (protocol_of table) table.mode sound.proper)

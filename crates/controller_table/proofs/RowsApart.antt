-- No two rows of a process have the same place and trigger.
use Rattle.std.proofs.Common.{◌≡◌, ℕ, Bool, true, false, List, ◌∷◌, Option, Some, None, refl}
use Rattle.std.specs.List.{AllByRecursion}
use Rattle.rv_base.specs.Lists.{flat_from}
use Rattle.rv_base.proofs.Lists.{AllByRecursion-append, AllByRecursion-weaker}
use Rattle.rv_base.proofs.Lists.{AllByRecursion-flat_from}
use Rattle.proto_model.specs.declared.numbered.RuleKind.{RuleKind}
use Rattle.proto_model.specs.declared.numbered.RuleKind.TheVariants as action
use Rattle.proto_model.specs.declared.numbered.Rule.{Rule}
use Rattle.proto_model.specs.declared.numbered.StateInfo.{StateInfo}
use Rattle.proto_model.specs.declared.numbered.MessageInfo.{MessageInfo}
use Rattle.proto_model.specs.declared.numbered.Body.{Body}
use Rattle.controller_table.specs.OneRow.{NoneHasKey}
use Rattle.controller_table.specs.Rows.{guard_id, send_row, answered_row, back_row}
use Rattle.controller_table.specs.Rows.{reply_at, is_reply_down, is_reply_up, pay_rows, due_rows}
use Rattle.controller_table.specs.Rows.{answer_row, last_rows, is_active, home_action_rows}
use Rattle.controller_table.specs.Rows.{home_guard_rows, home_state_rows, home_rows_of}
use Rattle.controller_table.specs.Rows.{remote_action_rows, remote_guard_rows, remote_state_rows}
use Rattle.controller_table.specs.Rows.{remote_rows_of}
use Rattle.controller_table.specs.Sound.{state_of}
use Rattle.controller_table.specs.declared.rows.GuardId.{GuardId}
use Rattle.controller_table.specs.declared.rows.Place.{Place}
use Rattle.controller_table.specs.declared.rows.Place.TheVariants.{Comm, Trans, Due}
use Rattle.controller_table.specs.declared.rows.Trigger.{Trigger}
use Rattle.controller_table.specs.declared.rows.Trigger.TheVariants.{Tau, Send, Pay, Take, Answer}
use Rattle.controller_table.specs.declared.rows.Trigger.TheVariants.{AnswerNone, GotAck, GotNack}
use Rattle.controller_table.specs.declared.rows.Trigger.TheVariants.{GotReply, GotRequest}
use Rattle.controller_table.specs.declared.rows.Row.{Row}
use Rattle.controller_table.proofs.Apart.{AllApart}
use Rattle.controller_table.proofs.Apart.{apart-append, apart-flat}

-- The guard of a key: that of the place, and in a communication state that of the trigger. Where
-- the trigger is of no guard it is 0.
abbrev guard_of : Place → Trigger → ℕ
guard_of (Comm s) (Tau g) = g
guard_of (Comm s) (Send g) = g
guard_of (Comm s) (Pay g) = g
guard_of (Comm s) (Take g) = g
guard_of (Comm s) (Answer g) = g
guard_of (Comm s) AnswerNone = 0
guard_of (Comm s) GotAck = 0
guard_of (Comm s) GotNack = 0
guard_of (Comm s) (GotReply m) = 0
guard_of (Comm s) GotRequest = 0
guard_of (Trans g) on = g.guard
guard_of (Due g) on = g.guard

-- the row is of this guard
record IsOf (g : GuardId) (row : Row) : Type 0 where
  state : state_of row.at ≡ g.state
  guard : guard_of row.at row.on ≡ g.guard
  on : row.on ≡ AnswerNone → ⊥

-- the row is of this state
abbrev IsIn : ℕ → Row → Type 0
IsIn s row = state_of row.at ≡ s

abbrev AllIn : ℕ → List Row → Type 0
AllIn s rows = AllByRecursion (IsIn s) rows

abbrev AllOf : GuardId → List Row → Type 0
AllOf g rows = AllByRecursion (IsOf g) rows

module _ (messages : List MessageInfo) (replies : List (Option ℕ)) (body : Body) where
  -- ---- rows of one guard are of that guard

  send-of : (g : GuardId) (m : ℕ) → IsOf g (send_row g m)
  send-of g m = record { state = refl; guard = refl; on = λ e. cc }

  back-of : (g : GuardId) (on : Trigger) → (on ≡ AnswerNone → ⊥) → IsOf g (back_row g on)
  back-of g on ne = record { state = refl; guard = refl; on = ne }

  answered-of : (g : GuardId) (rule : Rule) (o : Option ℕ) → IsOf g (answered_row body g rule o)
  answered-of g rule None = record { state = refl; guard = refl; on = λ e. cc }
  answered-of g rule (Some p) = record { state = refl; guard = refl; on = λ e. cc }

  answer-of : (g : GuardId) (rule : Rule) (o : Option ℕ) → IsOf g (answer_row g rule o)
  answer-of g rule None = record { state = refl; guard = refl; on = λ e. cc }
  answer-of g rule (Some p) = record { state = refl; guard = refl; on = λ e. cc }

  pay-of : (g : GuardId) (rule : Rule) (m : ℕ) (b : Bool) → AllOf g (pay_rows b g rule m)
  pay-of g rule m false = tt
  pay-of g rule m true = (record { state = refl; guard = refl; on = λ e. cc }, tt)

  due-of : (g : GuardId) (rule : Rule) (m : ℕ) (b : Bool) → AllOf g (due_rows b g rule m)
  due-of g rule m false = tt
  due-of g rule m true = (record { state = refl; guard = refl; on = λ e. cc }, tt)

  home-of : (g : GuardId) (rule : Rule) (k : RuleKind)
      → AllOf g (home_action_rows messages replies body g rule k)
  home-of g rule action.Tau = (record { state = refl; guard = refl; on = λ e. cc }, tt)
  home-of g rule (action.Input p m bound) =
      (record { state = refl; guard = refl; on = λ e. cc }, tt)
  home-of g rule (action.Output p m sent) = (
    send-of g m,
    (
      answered-of g rule (reply_at replies m),
      (
        back-of g GotNack (λ e. cc),
        (back-of g GotRequest (λ e. cc), pay-of g rule m (is_reply_down messages replies m)),
      ),
    ),
  )

  remote-of : (g : GuardId) (rule : Rule) (k : RuleKind)
      → AllOf g (remote_action_rows messages replies body g rule k)
  remote-of g rule action.Tau = (record { state = refl; guard = refl; on = λ e. cc }, tt)
  remote-of g rule (action.Input p m bound) = (answer-of g rule (reply_at replies m), tt)
  remote-of g rule (action.Output p m sent) = (
    send-of g m,
    (
      answered-of g rule (reply_at replies m),
      (
        back-of g GotNack (λ e. cc),
        due-of g rule m (is_reply_up messages replies m),
      ),
    ),
  )

  -- ---- rows of one guard differ

  home_output-apart : (g : GuardId) (rule : Rule) (m : ℕ) (o : Option ℕ) (b : Bool)
      → AllApart
      (send_row g m ∷ answered_row body g rule o ∷ back_row g GotNack ∷ back_row g GotRequest
      ∷ pay_rows b g rule m)
  home_output-apart g rule m None false = (
    (λ k. cc, (λ k. cc, (λ k. cc, tt))),
    (
      (λ k. cc, (λ k. cc, tt)),
      (
        (λ k. cc, tt),
        (tt, tt),
      ),
    ),
  )
  home_output-apart g rule m None true = (
    (λ k. cc, (λ k. cc, (λ k. cc, (λ k. cc, tt)))),
    (
      (λ k. cc, (λ k. cc, (λ k. cc, tt))),
      (
        (λ k. cc, (λ k. cc, tt)),
        (
          (λ k. cc, tt),
          (tt, tt),
        ),
      ),
    ),
  )
  home_output-apart g rule m (Some p) false = (
    (λ k. cc, (λ k. cc, (λ k. cc, tt))),
    (
      (λ k. cc, (λ k. cc, tt)),
      (
        (λ k. cc, tt),
        (tt, tt),
      ),
    ),
  )
  home_output-apart g rule m (Some p) true = (
    (λ k. cc, (λ k. cc, (λ k. cc, (λ k. cc, tt)))),
    (
      (λ k. cc, (λ k. cc, (λ k. cc, tt))),
      (
        (λ k. cc, (λ k. cc, tt)),
        (
          (λ k. cc, tt),
          (tt, tt),
        ),
      ),
    ),
  )

  remote_output-apart : (g : GuardId) (rule : Rule) (m : ℕ) (o : Option ℕ) (b : Bool)
      → AllApart
      (send_row g m ∷ answered_row body g rule o ∷ back_row g GotNack ∷ due_rows b g rule m)
  remote_output-apart g rule m None false = (
    (λ k. cc, (λ k. cc, tt)),
    (
      (λ k. cc, tt),
      (tt, tt),
    ),
  )
  remote_output-apart g rule m None true = (
    (λ k. cc, (λ k. cc, (λ k. cc, tt))),
    (
      (λ k. cc, (λ k. cc, tt)),
      (
        (λ k. cc, tt),
        (tt, tt),
      ),
    ),
  )
  remote_output-apart g rule m (Some p) false = (
    (λ k. cc, (λ k. cc, tt)),
    (
      (λ k. cc, tt),
      (tt, tt),
    ),
  )
  remote_output-apart g rule m (Some p) true = (
    (λ k. cc, (λ k. cc, (λ k. cc, tt))),
    (
      (λ k. cc, (λ k. cc, tt)),
      (
        (λ k. cc, tt),
        (tt, tt),
      ),
    ),
  )

  home-apart : (g : GuardId) (rule : Rule) (k : RuleKind)
      → AllApart (home_action_rows messages replies body g rule k)
  home-apart g rule action.Tau = (tt, tt)
  home-apart g rule (action.Input p m bound) = (tt, tt)
  home-apart g rule (action.Output p m sent) =
      home_output-apart g rule m (reply_at replies m) (is_reply_down messages replies m)

  remote-apart : (g : GuardId) (rule : Rule) (k : RuleKind)
      → AllApart (remote_action_rows messages replies body g rule k)
  remote-apart g rule action.Tau = (tt, tt)
  remote-apart g rule (action.Input p m bound) = (tt, tt)
  remote-apart g rule (action.Output p m sent) =
      remote_output-apart g rule m (reply_at replies m) (is_reply_up messages replies m)

  -- ---- rows of one state

  abbrev home_guards : ℕ → ℕ → Rule → List Row
  home_guards = home_guard_rows messages replies body

  abbrev remote_guards : ℕ → ℕ → Rule → List Row
  remote_guards = remote_guard_rows messages replies body

  abbrev last : ℕ → StateInfo → List Row
  last s info = last_rows (is_active info) s

  home_guard-of : (s i : ℕ) (rule : Rule) → AllOf (guard_id s i) (home_guards s i rule)
  home_guard-of s i rule = home-of (guard_id s i) rule rule.kind

  remote_guard-of : (s i : ℕ) (rule : Rule) → AllOf (guard_id s i) (remote_guards s i rule)
  remote_guard-of s i rule = remote-of (guard_id s i) rule rule.kind

  home_guards-in : (s : ℕ) (rules : List Rule) → AllIn s (flat_from (home_guards s) 0 rules)
  home_guards-in s rules =
      AllByRecursion-flat_from (IsIn s) (home_guards s) 0 rules
      (λ i rule. AllByRecursion-weaker (IsOf (guard_id s i)) (IsIn s) (home_guards s i rule)
      (λ row of. of.state) (home_guard-of s i rule))

  remote_guards-in : (s : ℕ) (rules : List Rule) → AllIn s (flat_from (remote_guards s) 0 rules)
  remote_guards-in s rules =
      AllByRecursion-flat_from (IsIn s) (remote_guards s) 0 rules
      (λ i rule. AllByRecursion-weaker (IsOf (guard_id s i)) (IsIn s) (remote_guards s i rule)
      (λ row of. of.state) (remote_guard-of s i rule))

  home_guards-apart : (s : ℕ) (rules : List Rule) → AllApart (flat_from (home_guards s) 0 rules)
  home_guards-apart s rules =
      apart-flat (home_guards s) guard_of
      (λ i rule. AllByRecursion-weaker (IsOf (guard_id s i)) (λ row. guard_of row.at row.on ≡ i)
      (home_guards s i rule) (λ row of. of.guard) (home_guard-of s i rule))
      0 rules (λ i rule. home-apart (guard_id s i) rule rule.kind)

  remote_guards-apart : (s : ℕ) (rules : List Rule) → AllApart (flat_from (remote_guards s) 0 rules)
  remote_guards-apart s rules =
      apart-flat (remote_guards s) guard_of
      (λ i rule. AllByRecursion-weaker (IsOf (guard_id s i)) (λ row. guard_of row.at row.on ≡ i)
      (remote_guards s i rule) (λ row of. of.guard) (remote_guard-of s i rule))
      0 rules (λ i rule. remote-apart (guard_id s i) rule rule.kind)

  -- ---- the last row of a remote's state

  last-in : (b : Bool) (s : ℕ) → AllIn s (last_rows b s)
  last-in true s = tt
  last-in false s = (refl, tt)

  last-apart : (b : Bool) (s : ℕ) → AllApart (last_rows b s)
  last-apart true s = tt
  last-apart false s = (tt, tt)

  -- no row of a guard has its key
  last-other : (row : Row) (b : Bool) (s : ℕ) → (row.on ≡ AnswerNone → ⊥)
      → NoneHasKey row.at row.on (last_rows b s)
  last-other row true s ne = tt
  last-other row false s ne = (λ k. ne (cc), tt)

  remote_state-in : (s : ℕ) (info : StateInfo)
      → AllIn s (remote_state_rows messages replies body s info)
  remote_state-in s info =
      AllByRecursion-append (IsIn s) (flat_from (remote_guards s) 0 info.rules) (last s info)
      (remote_guards-in s info.rules) (last-in (is_active info) s)

  remote_state-apart : (s : ℕ) (info : StateInfo)
      → AllApart (remote_state_rows messages replies body s info)
  remote_state-apart s info =
      apart-append (flat_from (remote_guards s) 0 info.rules) (last s info)
      (remote_guards-apart s info.rules) (last-apart (is_active info) s)
      (AllByRecursion-flat_from (λ row. NoneHasKey row.at row.on (last s info))
      (remote_guards s) 0 info.rules
      (λ i rule. AllByRecursion-weaker (IsOf (guard_id s i))
      (λ row. NoneHasKey row.at row.on (last s info)) (remote_guards s i rule)
      (λ row of. last-other row (is_active info) s of.on) (remote_guard-of s i rule)))

  -- ---- all rows

  pub home_rows-apart : AllApart (home_rows_of messages replies body)
  home_rows-apart =
      apart-flat (home_state_rows messages replies body) (λ at on. state_of at)
      (λ s info. home_guards-in s info.rules) 0 body.states
      (λ s info. home_guards-apart s info.rules)

  pub remote_rows-apart : AllApart (remote_rows_of messages replies body)
  remote_rows-apart =
      apart-flat (remote_state_rows messages replies body) (λ at on. state_of at)
      remote_state-in 0 body.states remote_state-apart

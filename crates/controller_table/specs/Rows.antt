-- The rows of the two controllers that a protocol compiles to.
use Rattle.std.specs.Prelude.{ℕ, Bool, true, false, not, ◌&&◌, ◌==◌, List, [], ◌∷◌, ◌++◌}
use Rattle.std.specs.Prelude.{Option, Some, None, slice_get, zip}
use Rattle.std.specs.Option.{option_map_or, option_and_then}
use Rattle.std.specs.List.{list_any}
use Rattle.rv_base.specs.Lists.{flat_from}
use Rattle.proto_model.specs.Numbered.{NumberedProtocol}
use Rattle.proto_model.specs.Guards.{guard_at}
use Rattle.proto_model.specs.Proper.{is_output_kind}
use Rattle.proto_model.specs.Pairs.{replies_of}
use Rattle.proto_model.specs.declared.mode.Mode.{Mode}
use Rattle.proto_model.specs.declared.numbered.RuleKind.{RuleKind}
use Rattle.proto_model.specs.declared.numbered.RuleKind.TheVariants as action
use Rattle.proto_model.specs.declared.numbered.Rule.{Rule}
use Rattle.proto_model.specs.declared.numbered.StateInfo.{StateInfo}
use Rattle.proto_model.specs.declared.numbered.MessageInfo.{MessageInfo}
use Rattle.proto_model.specs.declared.numbered.Body.{Body}
use Rattle.controller_table.specs.declared.rows.GuardId.{GuardId}
use Rattle.controller_table.specs.declared.rows.Place.{Place}
use Rattle.controller_table.specs.declared.rows.Place.TheVariants.{Comm, Trans, Due}
use Rattle.controller_table.specs.declared.rows.Trigger.{Trigger}
use Rattle.controller_table.specs.declared.rows.Trigger.TheVariants.{Tau, Send, Pay, Take, Answer}
use Rattle.controller_table.specs.declared.rows.Trigger.TheVariants.{AnswerNone, GotAck, GotNack}
use Rattle.controller_table.specs.declared.rows.Trigger.TheVariants.{GotReply, GotRequest}
use Rattle.controller_table.specs.declared.rows.Puts.{Puts}
use Rattle.controller_table.specs.declared.rows.Puts.TheVariants as puts
use Rattle.controller_table.specs.declared.rows.Does.{Does}
use Rattle.controller_table.specs.declared.rows.Does.TheVariants as does
use Rattle.controller_table.specs.declared.rows.Row.{Row}

-- the guard with this number in this state
abbrev pub guard_id : ℕ → ℕ → GuardId
guard_id state guard = record { state = state; guard = guard }

-- A row: where the controller stands and what makes it move; what it puts, the guards that it
-- completes, and where it stands then.
abbrev pub row : Place → Trigger → Puts → Does → Place → Row
row at on what done to = record { at = at; on = on; puts = what; does = done; to = to }

-- The state to which the first guard of a state goes. Where a reply is awaited, the state has that
-- guard alone.
abbrev pub next_of_first : Body → ℕ → ℕ
next_of_first body state = option_map_or (λ rule. rule.next) (guard_at body state 0) 0

-- ---- rows of both sides

-- A local step: it puts nothing on a link, completes the guard, and goes to its next state.
abbrev pub tau_row : GuardId → Rule → Row
tau_row g rule = row (Comm g.state) (Tau g.guard) puts.Nothing (does.One g) (Comm rule.next)

-- An output sends a request, completes nothing yet, and waits in a transient state.
abbrev pub send_row : GuardId → ℕ → Row
send_row g m = row (Comm g.state) (Send g.guard) (puts.Request m) does.Nothing (Trans g)

-- The request was answered. An ack completes the guard. A reply completes it, and then the one
-- guard of the state to which it goes, which awaits the reply.
abbrev pub answered_row : Body → GuardId → Rule → Option ℕ → Row
answered_row body g rule None = row (Trans g) GotAck puts.Nothing (does.One g) (Comm rule.next)
answered_row body g rule (Some p) =
    row (Trans g) (GotReply p) puts.Nothing (does.Two g (guard_id rule.next 0))
    (Comm (next_of_first body rule.next))

-- Where the request is not granted, the process stands again where it was.
abbrev pub back_row : GuardId → Trigger → Row
back_row g on = row (Trans g) on puts.Nothing does.Nothing (Comm g.state)

-- ---- replies

-- the reply of message m, where these are the replies of all messages
abbrev pub reply_at : List (Option ℕ) → ℕ → Option ℕ
reply_at replies m = option_and_then (λ r. r) (slice_get replies m)

-- message p is the reply of this message, which goes up
abbrev pub answers_up : ℕ → MessageInfo × Option ℕ → Bool
answers_up p message = message.0.up && option_map_or (λ r. r == p) message.1 false

-- message p is the reply of this message, which goes down
abbrev pub answers_down : ℕ → MessageInfo × Option ℕ → Bool
answers_down p message = not message.0.up && option_map_or (λ r. r == p) message.1 false

-- message p is the reply of some up message
abbrev pub is_reply_down : List MessageInfo → List (Option ℕ) → ℕ → Bool
is_reply_down messages replies p = list_any (answers_up p) (zip messages replies)

-- message p is the reply of some down message
abbrev pub is_reply_up : List MessageInfo → List (Option ℕ) → ℕ → Bool
is_reply_up messages replies p = list_any (answers_down p) (zip messages replies)

-- ---- rows of the home

-- what the home puts for a request that it takes: an ack, or nothing, and then it owes the reply
abbrev pub taken : Option ℕ → Puts
taken None = puts.Ack
taken (Some p) = puts.Owe p

-- The home takes a request that it holds by an input.
abbrev pub take_row : GuardId → Rule → Option ℕ → Row
take_row g rule reply =
    row (Comm g.state) (Take g.guard) (taken reply) (does.One g) (Comm rule.next)

-- By an output of a message that is a reply the home pays where it owes this reply.
abbrev pub pay_row : GuardId → Rule → ℕ → Row
pay_row g rule m = row (Comm g.state) (Pay g.guard) (puts.Reply m) (does.One g) (Comm rule.next)

-- the row of paying where the message is the reply of some up message; else none
abbrev pub pay_rows : Bool → GuardId → Rule → ℕ → List Row
pay_rows false g rule m = []
pay_rows true g rule m = pay_row g rule m ∷ []

-- ---- rows of a remote

-- A remote that is due sends the reply by its output, and goes to its next state.
abbrev pub due_row : GuardId → Rule → ℕ → Row
due_row g rule q = row (Due g) (Send g.guard) (puts.Reply q) (does.One g) (Comm rule.next)

-- the row of a due remote where the message is the reply of some down message; else none
abbrev pub due_rows : Bool → GuardId → Rule → ℕ → List Row
due_rows false g rule q = []
due_rows true g rule q = due_row g rule q ∷ []

-- A remote answers a request by an input. It puts an ack; or where the message has a reply it puts
-- nothing, and is then due to send the reply by the one guard of the state to which it goes.
abbrev pub answer_row : GuardId → Rule → Option ℕ → Row
answer_row g rule None = row (Comm g.state) (Answer g.guard) puts.Ack (does.One g) (Comm rule.next)
answer_row g rule (Some p) =
    row (Comm g.state) (Answer g.guard) puts.Nothing (does.One g) (Due (guard_id rule.next 0))

-- In a passive state a request that no input takes is nacked, and the remote stays. An active
-- state, one with an output, has no such row.
abbrev pub last_row : ℕ → Row
last_row state = row (Comm state) AnswerNone puts.Nack does.Nothing (Comm state)

-- the last row of a passive state; an active one has none
abbrev pub last_rows : Bool → ℕ → List Row
last_rows true state = []
last_rows false state = last_row state ∷ []

-- some guard of the state is an output
abbrev pub is_active : StateInfo → Bool
is_active info = list_any (λ rule. is_output_kind rule.kind) info.rules

-- ---- all rows

-- of the messages of a protocol and the reply of each
module _ (messages : List MessageInfo) (replies : List (Option ℕ)) where
  -- The rows of an output of message m by which the home sends: the request, its answer (an ack, or
  -- the reply of m), a nack, a request of the remote on which it waits, which is a nack too, and
  -- where m is a reply the row of paying.
  abbrev pub home_output_rows : Body → GuardId → Rule → ℕ → List Row
  home_output_rows body g rule m =
      send_row g m ∷ answered_row body g rule (reply_at replies m) ∷ back_row g GotNack
      ∷ back_row g GotRequest ∷ pay_rows (is_reply_down messages replies m) g rule m

  -- the rows of a guard of the home, by what the guard does
  abbrev pub home_action_rows : Body → GuardId → Rule → RuleKind → List Row
  home_action_rows body g rule action.Tau = tau_row g rule ∷ []
  home_action_rows body g rule (action.Input p m bound) = take_row g rule (reply_at replies m) ∷ []
  home_action_rows body g rule (action.Output p m sent) = home_output_rows body g rule m

  -- the rows of the guard with this number in this state
  abbrev pub home_guard_rows : Body → ℕ → ℕ → Rule → List Row
  home_guard_rows body state guard rule =
      home_action_rows body (guard_id state guard) rule rule.kind

  -- the rows of a state: those of each of its guards, in file order
  abbrev pub home_state_rows : Body → ℕ → StateInfo → List Row
  home_state_rows body state info = flat_from (home_guard_rows body state) 0 info.rules

  -- the rows of the home: of each state in file order, of each of its guards in file order
  abbrev pub home_rows_of : Body → List Row
  home_rows_of body = flat_from (home_state_rows body) 0 body.states

  -- The rows of an output of message q by which a remote sends: the request, its answer (an ack, or
  -- the reply of q), a nack, and the row of a due remote, where q is a reply. It has no row for a
  -- request of the home that comes while it waits: that is dropped.
  abbrev pub remote_output_rows : Body → GuardId → Rule → ℕ → List Row
  remote_output_rows body g rule q =
      send_row g q ∷ answered_row body g rule (reply_at replies q) ∷ back_row g GotNack
      ∷ due_rows (is_reply_up messages replies q) g rule q

  -- the rows of a guard of a remote, by what the guard does
  abbrev pub remote_action_rows : Body → GuardId → Rule → RuleKind → List Row
  remote_action_rows body g rule action.Tau = tau_row g rule ∷ []
  remote_action_rows body g rule (action.Input p m bound) =
      answer_row g rule (reply_at replies m) ∷ []
  remote_action_rows body g rule (action.Output p q sent) = remote_output_rows body g rule q

  -- the rows of the guard with this number in this state
  abbrev pub remote_guard_rows : Body → ℕ → ℕ → Rule → List Row
  remote_guard_rows body state guard rule =
      remote_action_rows body (guard_id state guard) rule rule.kind

  -- the rows of a state: those of each of its guards, in file order, and the last row of a passive
  -- state
  abbrev pub remote_state_rows : Body → ℕ → StateInfo → List Row
  remote_state_rows body state info =
      flat_from (remote_guard_rows body state) 0 info.rules ++ last_rows (is_active info) state

  -- the rows of a remote: of each state in file order, of each of its guards in file order, and
  -- after the guards of a passive state its last row
  abbrev pub remote_rows_of : Body → List Row
  remote_rows_of body = flat_from (remote_state_rows body) 0 body.states

-- the rows of the home's controller
abbrev pub home_rows : NumberedProtocol → Mode → List Row
home_rows protocol mode = home_rows_of protocol.messages (replies_of protocol mode) protocol.home

-- the rows of a remote's controller
abbrev pub remote_rows : NumberedProtocol → Mode → List Row
remote_rows protocol mode =
    remote_rows_of protocol.messages (replies_of protocol mode) protocol.remote

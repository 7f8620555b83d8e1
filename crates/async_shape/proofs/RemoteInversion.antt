-- What is known of an enabled step at a remote, kind by kind: the guard, the request, what was
-- looked at, and the outcome.
use Rattle.std.proofs.Common.{◌≡◌, ◌⊎◌, inl, inr, ℕ, true, Option, Some, None, refl, sym, ap, ◌∙◌}
use Rattle.std.specs.Option.{option_map, option_and_then}
use Rattle.rv_base.proofs.Lists.{some_map, some_and_then}
use Rattle.std.proofs.lemmas.Option.{same_Some}
use Rattle.proto_model.specs.Proper.{is_output_kind}
use Rattle.proto_model.specs.Guards.{part, guards_of, guard_at, after_guard}
use Rattle.proto_model.specs.Values.{is_open}
use Rattle.proto_model.specs.ValueTypes.{message_in}
use Rattle.proto_model.specs.RendezvousNext.{tau_part, given, accepts}
use Rattle.proto_model.specs.declared.numbered.Value.{Value}
use Rattle.proto_model.specs.declared.numbered.Rule.{Rule}
use Rattle.proto_model.specs.declared.rendezvous.Part.{Part}
use Rattle.controller_table.specs.Rows.{guard_id}
use Rattle.controller_table.specs.declared.rows.GuardId.{GuardId}
use Rattle.controller_table.specs.declared.rows.Place.{Place}
use Rattle.controller_table.specs.declared.rows.Place.TheVariants.{Comm, Trans, Due}
use Rattle.ordered_links.specs.Link.{Up}
use Rattle.ordered_links.specs.declared.packet.Packet.{Packet}
use Rattle.ordered_links.specs.declared.packet.Packet.TheVariants as packet
use Rattle.async_shape.specs.Setting.{Setting, reply_to}
use Rattle.async_shape.specs.Guards.{Chosen, guard_by, first_that, active_guard, answering_guard}
use Rattle.async_shape.specs.Guards.{idle_state}
use Rattle.async_shape.specs.Outcome.{RemoteOutcome, at_remote, put_on, remote_at, without_slot}
use Rattle.async_shape.specs.RemoteSteps.{remote_tau, remote_requested, remote_sent_by, remote_send}
use Rattle.async_shape.specs.RemoteSteps.{answered, answered_by, answered_in, remote_answer}
use Rattle.async_shape.specs.RemoteSteps.{replied, replied_at, remote_reply, down_idle}
use Rattle.async_shape.specs.RemoteSteps.{down_waiting, down_at, down}
use Rattle.async_shape.specs.declared.config.RemoteState.{RemoteState}
use Rattle.async_shape.specs.declared.config.Request.{Request}
use Rattle.async_shape.proofs.GuardsFound.{guards_of-at, first_that-found, accepts-input}
use Rattle.async_shape.proofs.GuardsFound.{IsLocalStep, tau_part-step, remote_idle}

-- ---- a local step

-- The remote is idle and completes the open local step g.
pub record RemoteTakesTau (setting : Setting) (remote : RemoteState) (g : ℕ) (o : RemoteOutcome)
    : Type 0 where
  pub state : ℕ
  pub idle : remote.place ≡ Comm state
  pub after : Part
  pub step : IsLocalStep setting.protocol.remote state remote.vars g after
  pub outcome : o ≡ at_remote (remote_at remote after) None

-- a local step of a remote takes a tau that is open
pub remote_tau-some : (setting : Setting) (remote : RemoteState) (g : ℕ) (o : RemoteOutcome)
    → remote_tau setting remote g ≡ Some o → RemoteTakesTau setting remote g o
unfolding remote_tau
remote_tau-some setting remote g o did =
    let moved : Part → RemoteOutcome = λ p. at_remote (remote_at remote p) None in
    let by =
    some_and_then
    (λ state. option_map moved (tau_part setting.protocol.remote (part state remote.vars) g))
    (idle_state remote.place) o did in
    let after =
    some_map moved (tau_part setting.protocol.remote (part by.0 remote.vars) g) o by.2 in
    record {
      state = by.0;
      idle = remote_idle remote.place by.0 by.1;
      after = after.0;
      step = tau_part-step setting.protocol.remote (part by.0 remote.vars) g after.0 after.1;
      outcome = sym after.2;
    }

-- ---- a request is sent

-- The remote is idle in an active state, and sends the request of its output.
pub record SendsRequest (setting : Setting) (j : ℕ) (remote : RemoteState) (o : RemoteOutcome)
    : Type 0 where
  pub state : ℕ
  pub idle : remote.place ≡ Comm state
  pub output : Chosen
  pub active : active_guard (guards_of setting.protocol.remote state) ≡ Some output
  pub there : guard_at setting.protocol.remote state output.number ≡ Some output.rule
  pub is_output : is_output_kind output.rule.kind ≡ true
  pub message : ℕ × Value
  pub gives : given setting.protocol.messages remote.vars output.rule.kind ≡ Some message
  pub outcome : o ≡ remote_requested j remote (guard_id state output.number) message

-- a request of a remote is given by the only guard of its state
pub remote_send-some : (setting : Setting) (j : ℕ) (remote : RemoteState) (o : RemoteOutcome)
    → remote_send setting j remote ≡ Some o → SendsRequest setting j remote o
unfolding remote_send
remote_send-some setting j remote o did =
    let body = setting.protocol.remote in
    let sent = remote_sent_by setting j remote in
    let by =
    some_and_then (λ state. option_and_then (sent state) (active_guard (guards_of body state)))
    (idle_state remote.place) o did in
    let state = by.0 in
    let of = some_and_then (sent state) (active_guard (guards_of body state)) o by.2 in
    let output = of.0 in
    let found =
    first_that-found (λ rule. is_output_kind rule.kind) (guards_of body state) output of.1 in
    let gives =
    some_map (remote_requested j remote (guard_id state output.number))
    (given setting.protocol.messages remote.vars output.rule.kind) o of.2 in
    record {
      state = state;
      idle = remote_idle remote.place state by.1;
      output = output;
      active = of.1;
      there = sym (guards_of-at body state output.number) ∙ found.0;
      is_output = found.1;
      message = gives.0;
      gives = gives.1;
      outcome = sym gives.2;
    }

-- ---- the request in the slot is answered

-- No guard takes the request, and the remote nacks it.
pub record Nacks (setting : Setting) (j : ℕ) (remote : RemoteState) (o : RemoteOutcome) : Type 0
  where
    pub none : answering_guard setting.protocol.remote remote ≡ None
    pub outcome : o ≡ at_remote (without_slot remote) (put_on (Up j) packet.Nack)

-- The remote completes the first open input of the request's message.
pub record AnswersBy (setting : Setting) (j : ℕ) (remote : RemoteState) (state : ℕ)
    (request : Request) (o : RemoteOutcome) : Type 0 where
  pub guard : Chosen
  pub chosen : answering_guard setting.protocol.remote remote ≡ Some guard
  pub there : guard_at setting.protocol.remote state guard.number ≡ Some guard.rule
  pub input : message_in guard.rule.kind ≡ Some request.message
  pub passes : is_open remote.vars guard.rule ≡ true
  pub outcome :
      o ≡ answered j
      (after_guard setting.protocol.remote remote.vars guard.rule guard.rule.next 0 request.value)
      (reply_to setting request.message)

-- The remote is idle in a passive state, and answers the request in its slot.
pub record AnswersRequest (setting : Setting) (j : ℕ) (remote : RemoteState) (o : RemoteOutcome)
    : Type 0 where
  pub state : ℕ
  pub idle : remote.place ≡ Comm state
  pub passive : active_guard (guards_of setting.protocol.remote state) ≡ None
  pub request : Request
  pub slot : remote.slot ≡ Some request
  pub how : Nacks setting j remote o ⊎ AnswersBy setting j remote state request o

-- What is chosen to answer with is an open input of the state, of the request's message.
pub record IsAnswering (setting : Setting) (remote : RemoteState) (state : ℕ) (request : Request)
    (guard : Chosen) : Type 0 where
  pub there : guard_at setting.protocol.remote state guard.number ≡ Some guard.rule
  pub input : message_in guard.rule.kind ≡ Some request.message
  pub passes : is_open remote.vars guard.rule ≡ true

-- the guard that answers this request in this state
abbrev answering : Setting → RemoteState → ℕ → Request → Option Chosen
answering setting remote state request =
    first_that (λ rule. accepts remote.vars rule request.message)
    (guards_of setting.protocol.remote state)

-- the guard that answers is open and takes the request
pub answering_guard-some : (setting : Setting) (remote : RemoteState) (state : ℕ)
    (request : Request) (guard : Chosen) → remote.place ≡ Comm state → remote.slot ≡ Some request
    → answering_guard setting.protocol.remote remote ≡ Some guard
    → IsAnswering setting remote state request guard
answering_guard-some setting remote state request guard idle slot chosen =
    let body = setting.protocol.remote in
    let in_state : ℕ → Option Chosen =
    λ s. option_and_then (answering setting remote s) remote.slot in
    let by = some_and_then in_state (idle_state remote.place) guard chosen in
    let same_state : by.0 ≡ state =
    same_Some by.0 state (sym by.1 ∙ ap idle_state idle) in
    let of = some_and_then (answering setting remote by.0) remote.slot guard by.2 in
    let same_request : of.0 ≡ request = same_Some of.0 request (sym of.1 ∙ slot) in
    let at_state =
    ap (λ (s : ℕ). answering setting remote s request) (sym same_state)
    ∙ ap (λ (r : Request). answering setting remote by.0 r) (sym same_request) ∙ of.2 in
    let found =
    first_that-found (λ rule. accepts remote.vars rule request.message) (guards_of body state) guard
    at_state in
    let input = accepts-input remote.vars guard.rule request.message found.1 in
    record {
      there = sym (guards_of-at body state guard.number) ∙ found.0;
      input = input.0;
      passes = input.1;
    }

-- the request is nacked or answered by a guard
answered_by-how : (setting : Setting) (j : ℕ) (remote : RemoteState) (state : ℕ)
    (request : Request) (guard : Option Chosen) (o : RemoteOutcome)
    → remote.place ≡ Comm state → remote.slot ≡ Some request
    → answering_guard setting.protocol.remote remote ≡ guard
    → o ≡ answered_by setting j remote request guard
    → Nacks setting j remote o ⊎ AnswersBy setting j remote state request o
answered_by-how setting j remote state request None o idle slot chosen outcome =
    inl (record { none = chosen; outcome = outcome })
answered_by-how setting j remote state request (Some guard) o idle slot chosen outcome =
    let is = answering_guard-some setting remote state request guard idle slot chosen in
    inr (record {
      guard = guard;
      chosen = chosen;
      there = is.there;
      input = is.input;
      passes = is.passes;
      outcome = outcome;
    })

-- it is answered in a state that has no output
answered_in-some : (setting : Setting) (j : ℕ) (remote : RemoteState) (request : Request)
    (output : Option Chosen) (o : RemoteOutcome)
    → answered_in setting j remote request output ≡ Some o
    → (output ≡ None)
    × (o ≡ answered_by setting j remote request (answering_guard setting.protocol.remote remote))
answered_in-some setting j remote request None o did =
    let guard = answering_guard setting.protocol.remote remote in
    let now = answered_by setting j remote request guard in
    (refl, sym (same_Some now o did))
answered_in-some setting j remote request (Some output) o did = absurd (cc)

-- a request that is answered stands in the slot, and is nacked or answered by a guard
pub remote_answer-some : (setting : Setting) (j : ℕ) (remote : RemoteState) (o : RemoteOutcome)
    → remote_answer setting j remote ≡ Some o → AnswersRequest setting j remote o
unfolding remote_answer
remote_answer-some setting j remote o did =
    let body = setting.protocol.remote in
    let answer : ℕ → Request → Option RemoteOutcome =
    λ state request. answered_in setting j remote request (active_guard (guards_of body state)) in
    let by =
    some_and_then (λ state. option_and_then (answer state) remote.slot)
    (idle_state remote.place) o did in
    let state = by.0 in
    let of = some_and_then (answer state) remote.slot o by.2 in
    let request = of.0 in
    let idle = remote_idle remote.place state by.1 in
    let passive =
    answered_in-some setting j remote request (active_guard (guards_of body state)) o of.2 in
    record {
      state = state;
      idle = idle;
      passive = passive.0;
      request = request;
      slot = of.1;
      how = answered_by-how setting j remote state request (answering_guard body remote) o idle of.1
          refl passive.1;
    }

-- ---- the reply that is due is sent

-- The remote is due by this output, and sends the reply.
pub record SendsReply (setting : Setting) (j : ℕ) (remote : RemoteState) (o : RemoteOutcome)
    : Type 0 where
  pub guard : GuardId
  pub due : remote.place ≡ Due guard
  pub rule : Rule
  pub there : guard_by setting.protocol.remote guard ≡ Some rule
  pub message : ℕ × Value
  pub gives : given setting.protocol.messages remote.vars rule.kind ≡ Some message
  pub outcome : o ≡ replied setting j remote rule message

-- a reply is sent where the remote is due, where its place is known
replied_at-some : (setting : Setting) (j : ℕ) (remote : RemoteState) (place : Place)
    (o : RemoteOutcome) → remote.place ≡ place → replied_at setting j remote place ≡ Some o
    → SendsReply setting j remote o
replied_at-some setting j remote (Comm state) o at did = absurd (cc)
replied_at-some setting j remote (Trans g) o at did = absurd (cc)
replied_at-some setting j remote (Due g) o at did =
    let gives : Rule → Option (ℕ × Value) =
    λ rule. given setting.protocol.messages remote.vars rule.kind in
    let by =
    some_and_then (λ rule. option_map (replied setting j remote rule) (gives rule))
    (guard_by setting.protocol.remote g) o did in
    let message = some_map (replied setting j remote by.0) (gives by.0) o by.2 in
    record {
      guard = g;
      due = at;
      rule = by.0;
      there = by.1;
      message = message.0;
      gives = message.1;
      outcome = sym message.2;
    }

-- a reply is given by the guard by which the remote is due
pub remote_reply-some : (setting : Setting) (j : ℕ) (remote : RemoteState) (o : RemoteOutcome)
    → remote_reply setting j remote ≡ Some o → SendsReply setting j remote o
unfolding remote_reply
remote_reply-some setting j remote o did =
    replied_at-some setting j remote remote.place o refl did

-- ---- a packet arrives at the remote

-- The remote is idle.
pub record ReachesIdle (setting : Setting) (remote : RemoteState) (arrived : Packet) : Type 0 where
  pub state : ℕ
  pub idle : remote.place ≡ Comm state
  pub outcome : down setting remote arrived ≡ at_remote (down_idle remote arrived) None

-- The remote waits by this guard.
pub record ReachesWaiting (setting : Setting) (remote : RemoteState) (arrived : Packet) : Type 0
  where
    pub guard : GuardId
    pub waits : remote.place ≡ Trans guard
    pub outcome :
        down setting remote arrived
        ≡ at_remote (down_waiting setting.protocol.remote remote guard arrived) None

-- The remote is due by this guard.
pub record ReachesDue (setting : Setting) (remote : RemoteState) (arrived : Packet) : Type 0 where
  pub guard : GuardId
  pub due : remote.place ≡ Due guard
  pub outcome : down setting remote arrived ≡ at_remote remote None

-- whom the packet reaches
abbrev pub Reaches : Setting → RemoteState → Packet → Type 0
Reaches setting remote arrived =
    ReachesIdle setting remote arrived
    ⊎ ReachesWaiting setting remote arrived
    ⊎ ReachesDue setting remote arrived

-- a packet reaches an idle remote, one that waits, or one that is due, where its place is known
down_at-by : (setting : Setting) (remote : RemoteState) (arrived : Packet) (place : Place)
    → remote.place ≡ place
    → down setting remote arrived
    ≡ at_remote (down_at setting.protocol.remote remote place arrived) None
    → Reaches setting remote arrived
down_at-by setting remote arrived (Comm state) at did =
    inl (record { state = state; idle = at; outcome = did })
down_at-by setting remote arrived (Trans g) at did =
    inr (inl (record { guard = g; waits = at; outcome = did }))
down_at-by setting remote arrived (Due g) at did =
    inr (inr (record { guard = g; due = at; outcome = did }))

-- so it does in any place
pub down-by : (setting : Setting) (remote : RemoteState) (arrived : Packet)
    → Reaches setting remote arrived
unfolding down
down-by setting remote arrived = down_at-by setting remote arrived remote.place refl refl

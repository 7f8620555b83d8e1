-- What each kind of step at the home does: where the home stands after it, what it holds then, and
-- what it puts on a link. None where the step is not enabled, but for the range of a remote's
-- number and for an empty link, which `Next` looks at. Whatever a definition does not name stays.
use Rattle.std.specs.Prelude.{ℕ, ◌+◌, Bool, not, ◌&&◌, ◌||◌, ◌==◌, nat_le, if◌then◌else◌}
use Rattle.std.specs.Prelude.{List, [], ◌∷◌, ◌++◌, length, Option, Some, None, is_some}
use Rattle.std.specs.Option.{option_map, option_map_or, option_and_then}
use Rattle.std.specs.List.{list_any, range_with_len}
use Rattle.proto_model.specs.Proper.{is_output_kind}
use Rattle.proto_model.specs.Guards.{part, guards_of, guard_at, after_guard}
use Rattle.proto_model.specs.Values.{is_open, may_meet}
use Rattle.proto_model.specs.RendezvousNext.{tau_part, given}
use Rattle.proto_model.specs.declared.numbered.Body.{Body}
use Rattle.proto_model.specs.declared.numbered.Value.{Value}
use Rattle.proto_model.specs.declared.numbered.Value.TheVariants as value
use Rattle.proto_model.specs.declared.numbered.Rule.{Rule}
use Rattle.controller_table.specs.Rows.{guard_id}
use Rattle.controller_table.specs.declared.rows.GuardId.{GuardId}
use Rattle.slot_reserve.specs.Admission.{room_to_send}
use Rattle.slot_reserve.specs.Requests.{first_of, without_first, last_of, displaced}
use Rattle.slot_reserve.specs.declared.held.Held.{Held}
use Rattle.ordered_links.specs.Link.{Down}
use Rattle.ordered_links.specs.declared.packet.Packet.{Packet}
use Rattle.ordered_links.specs.declared.packet.Packet.TheVariants as packet
use Rattle.async_shape.specs.Setting.{Setting, reply_to}
use Rattle.async_shape.specs.Config.{owed_to}
use Rattle.async_shape.specs.Guards.{after_ack, after_reply}
use Rattle.async_shape.specs.Requests.{is_target_of, Taking, taking, some_completes}
use Rattle.async_shape.specs.Requests.{is_admitted, displaces}
use Rattle.async_shape.specs.Outcome.{HomeOutcome, at_home, put_on, home_idle_state, home_at, owing}
use Rattle.async_shape.specs.declared.config.HomeState.{HomeState}
use Rattle.async_shape.specs.declared.config.HomePlace.{HomePlace}
use Rattle.async_shape.specs.declared.config.HomePlace.TheVariants.{Idle, Waits}
use Rattle.async_shape.specs.declared.config.Waiting.{Waiting}

-- ---- a local step

-- HomeTau(g): the home is idle and g is an open local step, which it completes.
unfoldable pub home_tau : Setting → HomeState → List Held → ℕ → Option HomeOutcome
home_tau setting home held g =
    option_and_then (λ state.
    option_map (λ p. at_home (home_at home p) held None)
    (tau_part setting.protocol.home (part state home.vars) g))
    (home_idle_state home.place)

-- ---- a held request is taken

-- The request of j was taken, and the home stands so now: it acks it, or it owes the reply where
-- the message has one.
abbrev pub request_taken : List Held → ℕ → HomeState → Option ℕ → HomeOutcome
request_taken held j now None = at_home now (without_first j held) (put_on (Down j) packet.Ack)
request_taken held j now (Some p) = at_home (owing j (Some p) now) (without_first j held) None

-- The home has completed the guard with the request's value.
abbrev pub request_taken_by : Setting → HomeState → List Held → ℕ → Taking → HomeOutcome
request_taken_by setting home held j what =
    let rule = what.guard.rule in
    let now = after_guard setting.protocol.home home.vars rule rule.next j what.request.value in
    request_taken held j (home_at home now) (reply_to setting what.request.message)

-- of n remotes, of the home that stands so and holds these requests
module _ (setting : Setting) (n : ℕ) (home : HomeState) (held : List Held) where
  -- HomeTake(j): the home is idle and holds a request of j, which completes a guard. The request is
  -- removed, and the first such guard is completed.
  unfoldable pub home_take : ℕ → Option HomeOutcome
  home_take j =
      option_and_then (λ _.
      option_map (request_taken_by setting home held j)
      (taking n setting.protocol.home home held j))
      (home_idle_state home.place)

-- ---- a reply or a request is sent

-- The home has paid the reply that it owed to j, and completed the guard.
abbrev pub paid : Setting → HomeState → List Held → ℕ → Rule → ℕ × Value → HomeOutcome
paid setting home held j rule reply =
    let now = after_guard setting.protocol.home home.vars rule rule.next j value.Unit in
    let put = put_on (Down j) (packet.Reply reply.0 reply.1) in
    at_home (owing j None (home_at home now)) held put

-- the home waits, by this guard and on remote j, to which it has sent this value
abbrev pub home_waiting : HomeState → GuardId → ℕ → Value → HomeState
home_waiting home g j v = record {
  place = Waits (record { by = g; on = j; sent = v });
  vars = home.vars;
  owed = home.owed;
}

-- The home has sent a request to j, and waits on it by this guard.
abbrev pub requested : HomeState → List Held → ℕ → GuardId → ℕ × Value → HomeOutcome
requested home held j g message =
    let put = put_on (Down j) (packet.Request message.0 message.1) in
    at_home (home_waiting home g j message.1) held put

module _ (setting : Setting) (n : ℕ) (home : HomeState) (held : List Held) where
  -- The home may send a request to j: no held request completes a guard, two slots or more are
  -- free, and no request of j is held.
  abbrev pub may_request : ℕ → Bool
  may_request j =
      not (some_completes n setting.protocol.home home held)
      && (room_to_send setting.slots (length held) && not (is_some (first_of j held)))

  -- Where j is owed a message, the home sends that message alone, as the reply. Else it sends a
  -- request, where it may.
  abbrev pub sent_to : ℕ → GuardId → Rule → Option ℕ → ℕ × Value → Option HomeOutcome
  sent_to j g rule (Some p) message =
      if p == message.0 then Some (paid setting home held j rule message) else None
  sent_to j g rule None message =
      if may_request j then Some (requested home held j g message) else None

  -- What the home sends to j by this guard, where it is an open output of which j is a target; none
  -- where it isn't, and where the home may not send the message.
  abbrev pub sent_by : ℕ → GuardId → Rule → Option HomeOutcome
  sent_by j g rule =
      let message = given setting.protocol.messages home.vars rule.kind in
      if is_open home.vars rule && is_target_of n home.vars rule j
      then option_and_then (sent_to j g rule (owed_to home j)) message
      else None

  -- HomeSend(g, j): the home is idle and g is an open output of which j is a target.
  unfoldable pub home_send : ℕ → ℕ → Option HomeOutcome
  home_send g j =
      option_and_then (λ state.
      option_and_then (sent_by j (guard_id state g)) (guard_at setting.protocol.home state g))
      (home_idle_state home.place)

-- ---- a held request is dropped

-- the guard is an open output that passes the test
abbrev pub is_open_output : List Value → (Rule → Bool) → Rule → Bool
is_open_output vars test rule = is_output_kind rule.kind && (is_open vars rule && test rule)

-- some of n remotes is a target of the guard
abbrev pub has_target : ℕ → List Value → Rule → Bool
has_target n vars rule = list_any (may_meet vars rule.kind) (range_with_len 0 n)

module _ (setting : Setting) (n : ℕ) (home : HomeState) (held : List Held) where
  -- The home has reason to drop the request of j: some open output has a target; and either k - 1
  -- requests or more are held, or j is a target of an open output.
  abbrev pub may_drop : ℕ → List Rule → Bool
  may_drop j rules =
      list_any (is_open_output home.vars (has_target n home.vars)) rules
      && (nat_le setting.slots (length held + 1)
      || list_any (is_open_output home.vars (λ rule. is_target_of n home.vars rule j)) rules)

  -- HomeDrop(j): the home is idle and holds a request of j, no held request completes a guard, and
  -- there is reason to drop it. The request is removed and nacked.
  unfoldable pub home_drop : ℕ → Option HomeOutcome
  home_drop j =
      option_and_then (λ state. option_and_then (λ request.
      if not (some_completes n setting.protocol.home home held)
      && may_drop j (guards_of setting.protocol.home state)
      then Some (at_home home (without_first j held) (put_on (Down j) packet.Nack)) else None)
      (first_of j held)) (home_idle_state home.place)

-- ---- a packet of remote j arrives at the home

-- The home waits on j. An ack completes the guard, a nack brings the home back, and a reply
-- completes the guard and then the only guard of the next state. A request crosses the home's own:
-- it is an implicit nack, so the home is back. Where an ack or a reply finds no such guard, the
-- home stays waiting.
abbrev pub home_answered : Body → HomeState → Waiting → Packet → HomeState
home_answered body home waiting packet.Ack =
    option_map_or (home_at home) (after_ack body home.vars waiting.by waiting.on) home
home_answered body home waiting packet.Nack = home_at home (part waiting.by.state home.vars)
home_answered body home waiting (packet.Reply p v) =
    option_map_or (home_at home) (after_reply body home.vars waiting.by waiting.on v) home
home_answered body home waiting (packet.Request m v) =
    home_at home (part waiting.by.state home.vars)

-- this message of remote j, as a held request
abbrev pub request_from : ℕ → ℕ → Value → Held
request_from j m v = record { from = j; message = m; value = v }

-- what the home holds then: a request that crosses the home's own is held too, in the ack slot
abbrev pub held_crossing : List Held → ℕ → Packet → List Held
held_crossing held j packet.Ack = held
held_crossing held j packet.Nack = held
held_crossing held j (packet.Reply p v) = held
held_crossing held j (packet.Request m v) = held ++ request_from j m v ∷ []

-- what a home does that waits on j, where this packet of j arrives
abbrev pub up_answer : Body → HomeState → List Held → ℕ → Waiting → Packet → HomeOutcome
up_answer body home held j waiting arrived =
    at_home (home_answered body home waiting arrived) (held_crossing held j arrived) None

-- the last held request has made room for this one, and is nacked
abbrev pub made_room : HomeState → List Held → Held → Held → HomeOutcome
made_room home held request last = record {
  home = home;
  held = displaced held request;
  put = put_on (Down last.from) packet.Nack;
  displaced_from = Some last.from;
}

module _ (setting : Setting) (n : ℕ) (home : HomeState) (held : List Held) where
  -- A request arrives, and the home doesn't wait on its sender: it is kept, or displaces the last
  -- held one, or is nacked.
  abbrev pub up_request : Held → HomeOutcome
  up_request request =
      if is_admitted n setting.protocol.home home setting.slots held request
      then at_home home (held ++ request ∷ []) None
      else (if displaces n setting.protocol.home home setting.slots held request
      then option_map_or (made_room home held request) (last_of held) (at_home home held None)
      else at_home home held (put_on (Down request.from) packet.Nack))

  -- This packet of j arrives, and the home doesn't wait on j: a request is dealt with as above, and
  -- any other packet changes nothing.
  abbrev pub up_other : ℕ → Packet → HomeOutcome
  up_other j (packet.Request m v) = up_request (request_from j m v)
  up_other j packet.Ack = at_home home held None
  up_other j packet.Nack = at_home home held None
  up_other j (packet.Reply p v) = at_home home held None

  -- this packet of j arrives at a home in this place
  abbrev pub up_at : ℕ → HomePlace → Packet → HomeOutcome
  up_at j (Idle state) arrived = up_other j arrived
  up_at j (Waits waiting) arrived =
      if waiting.on == j
      then up_answer setting.protocol.home home held j waiting arrived
      else up_other j arrived

  -- Up(j): this packet of j arrives at the home.
  unfoldable pub up : ℕ → Packet → HomeOutcome
  up j arrived = up_at j home.place arrived

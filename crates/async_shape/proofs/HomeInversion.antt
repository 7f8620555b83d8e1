-- What is known of an enabled step at the home, kind by kind: the guard, the request, what was
-- looked at, and the outcome.
use Rattle.std.proofs.Common.{◌≡◌, ◌⊎◌, inl, inr, ℕ, ◌+◌, ◌<◌, ◌≤◌, true, false, not, ◌&&◌, ◌==◌}
use Rattle.std.proofs.Common.{List, length, Option, Some, None, is_some, slice_get, refl, sym, ap}
use Rattle.std.proofs.Common.{subst, ◌∙◌, nat_lt, if◌then◌else◌}
use Rattle.std.specs.Option.{option_map, option_and_then}
use Rattle.std.proofs.lemmas.Bool.{and_parts, eqb-true, ltb-true, leb-true}
use Rattle.rv_base.proofs.Lists.{is_false, some_when, some_map, some_and_then}
use Rattle.proto_model.specs.Guards.{part, guards_of, guard_at, after_guard}
use Rattle.proto_model.specs.Values.{is_open, may_meet}
use Rattle.proto_model.specs.ValueTypes.{message_in}
use Rattle.proto_model.specs.RendezvousNext.{tau_part, given, accepts}
use Rattle.proto_model.specs.declared.numbered.Value.{Value}
use Rattle.proto_model.specs.declared.numbered.Rule.{Rule}
use Rattle.proto_model.specs.declared.rendezvous.Part.{Part}
use Rattle.controller_table.specs.Rows.{guard_id}
use Rattle.controller_table.specs.declared.rows.GuardId.{GuardId}
use Rattle.slot_reserve.specs.Admission.{room_to_send}
use Rattle.slot_reserve.specs.Requests.{first_of, without_first}
use Rattle.slot_reserve.specs.declared.held.Held.{Held}
use Rattle.slot_reserve.proofs.HeldAfter.{first_of-sender}
use Rattle.ordered_links.specs.Link.{Down}
use Rattle.ordered_links.specs.declared.packet.Packet.TheVariants as packet
use Rattle.async_shape.specs.Setting.{Setting, reply_to}
use Rattle.async_shape.specs.Config.{owed_to}
use Rattle.async_shape.specs.Guards.{Chosen}
use Rattle.async_shape.specs.Requests.{state_of_home, is_target_of, completes_guard}
use Rattle.async_shape.specs.Requests.{Taking, taking_guard, taking, some_completes}
use Rattle.async_shape.specs.Outcome.{HomeOutcome, at_home, put_on, home_idle_state, home_at}
use Rattle.async_shape.specs.HomeSteps.{home_tau, request_taken, request_taken_by, home_take, paid}
use Rattle.async_shape.specs.HomeSteps.{requested, may_request, sent_to, sent_by, home_send}
use Rattle.async_shape.specs.HomeSteps.{may_drop, home_drop}
use Rattle.async_shape.specs.declared.config.HomeState.{HomeState}
use Rattle.async_shape.specs.declared.config.HomePlace.{HomePlace}
use Rattle.async_shape.specs.declared.config.HomePlace.TheVariants.{Idle}
use Rattle.async_shape.proofs.GuardsFound.{when_some, is_none_then, guards_of-at, first_that-found}
use Rattle.async_shape.proofs.GuardsFound.{accepts-input, IsLocalStep, tau_part-step, home_idle}

-- ---- a local step

-- The home is idle and completes the open local step g.
pub record TakesTau (setting : Setting) (home : HomeState) (held : List Held) (g : ℕ)
    (o : HomeOutcome) : Type 0 where
  pub state : ℕ
  pub idle : home.place ≡ Idle state
  pub after : Part
  pub step : IsLocalStep setting.protocol.home state home.vars g after
  pub outcome : o ≡ at_home (home_at home after) held None

-- a local step of the home takes a tau that is open
pub home_tau-some : (setting : Setting) (home : HomeState) (held : List Held) (g : ℕ)
    (o : HomeOutcome) → home_tau setting home held g ≡ Some o → TakesTau setting home held g o
unfolding home_tau
home_tau-some setting home held g o did =
    let moved : Part → HomeOutcome = λ p. at_home (home_at home p) held None in
    let by =
    some_and_then
    (λ state. option_map moved (tau_part setting.protocol.home (part state home.vars) g))
    (home_idle_state home.place) o did in
    let after =
    some_map moved (tau_part setting.protocol.home (part by.0 home.vars) g) o by.2 in
    record {
      state = by.0;
      idle = home_idle home.place by.0 by.1;
      after = after.0;
      step = tau_part-step setting.protocol.home (part by.0 home.vars) g after.0 after.1;
      outcome = sym after.2;
    }

-- ---- a held request is taken

-- The home is idle and completes the first guard that the first request of j completes.
pub record TakesHeld (setting : Setting) (n : ℕ) (home : HomeState) (held : List Held) (j : ℕ)
    (o : HomeOutcome) : Type 0 where
  pub state : ℕ
  pub idle : home.place ≡ Idle state
  pub request : Held
  pub first : first_of j held ≡ Some request
  pub sender : request.from ≡ j
  pub guard : Chosen
  pub chosen : taking_guard n setting.protocol.home home request ≡ Some guard
  pub there : guard_at setting.protocol.home state guard.number ≡ Some guard.rule
  pub input : message_in guard.rule.kind ≡ Some request.message
  pub passes : is_open home.vars guard.rule ≡ true
  pub target : may_meet home.vars guard.rule.kind j ≡ true
  pub outcome :
      o ≡ request_taken held j
      (home_at home
      (after_guard setting.protocol.home home.vars guard.rule guard.rule.next j request.value))
      (reply_to setting request.message)

-- A guard that a request completes is an open input of its message, and its sender is a target.
pub record CompletesBy (vars : List Value) (request : Held) (rule : Rule) : Type 0 where
  pub input : message_in rule.kind ≡ Some request.message
  pub passes : is_open vars rule ≡ true
  pub target : may_meet vars rule.kind request.from ≡ true

-- a request completes a guard that is open, may meet its sender and takes its message
pub completes_guard-parts : (n : ℕ) (vars : List Value) (request : Held) (rule : Rule)
    → completes_guard n vars request rule ≡ true → CompletesBy vars request rule
completes_guard-parts n vars request rule e =
    let both =
    and_parts (accepts vars rule request.message) (is_target_of n vars rule request.from) e in
    let input = accepts-input vars rule request.message both.0 in
    let target =
    and_parts (nat_lt request.from n) (may_meet vars rule.kind request.from) both.1 in
    record { input = input.0; passes = input.1; target = target.1 }

-- a request that is taken is held, and completes the guard that takes it
pub home_take-some : (setting : Setting) (n : ℕ) (home : HomeState) (held : List Held) (j : ℕ)
    (o : HomeOutcome)
    → home_take setting n home held j ≡ Some o → TakesHeld setting n home held j o
unfolding home_take
home_take-some setting n home held j o did =
    let body = setting.protocol.home in
    let by =
    some_and_then
    (λ _. option_map (request_taken_by setting home held j) (taking n body home held j))
    (home_idle_state home.place) o did in
    let state = by.0 in
    let idle = home_idle home.place state by.1 in
    let took =
    some_map (request_taken_by setting home held j) (taking n body home held j) o by.2 in
    let make : Held → Chosen → Taking =
    λ request guard. record { request = request; guard = guard } in
    let of =
    some_and_then (λ request. option_map (make request) (taking_guard n body home request))
    (first_of j held) took.0 took.1 in
    let request = of.0 in
    let found = some_map (make request) (taking_guard n body home request) took.0 of.2 in
    let guard = found.0 in
    let found_there =
    first_that-found (completes_guard n home.vars request)
    (guards_of body (state_of_home home.place)) guard found.1 in
    let at_state = ap (λ (place : HomePlace). guards_of body (state_of_home place)) idle in
    let there =
    sym (guards_of-at body state guard.number)
    ∙ ap (λ (rules : List Rule). slice_get rules guard.number) (sym at_state)
    ∙ found_there.0 in
    let sender = first_of-sender j held request of.1 in
    let completed = completes_guard-parts n home.vars request guard.rule found_there.1 in
    record {
      state = state;
      idle = idle;
      request = request;
      first = of.1;
      sender = sender;
      guard = guard;
      chosen = found.1;
      there = there;
      input = completed.input;
      passes = completed.passes;
      target = subst (λ from. may_meet home.vars guard.rule.kind from ≡ true) sender
          completed.target;
      outcome = sym took.2
          ∙ ap (λ (what : Taking). request_taken_by setting home held j what) (sym found.2);
    }

-- ---- a reply or a request is sent

-- The home owes j the message, and pays it.
pub record Pays (setting : Setting) (home : HomeState) (held : List Held) (j : ℕ) (rule : Rule)
    (message : ℕ × Value) (o : HomeOutcome) : Type 0 where
  pub owed : owed_to home j ≡ Some message.0
  pub outcome : o ≡ paid setting home held j rule message

-- The home owes j nothing and may send it a request, which it does.
pub record Asks (setting : Setting) (n : ℕ) (home : HomeState) (held : List Held) (j : ℕ)
    (g : GuardId) (message : ℕ × Value) (o : HomeOutcome) : Type 0 where
  pub owed : owed_to home j ≡ None
  pub none_completes : some_completes n setting.protocol.home home held ≡ false
  pub room : length held + 2 ≤ setting.slots
  pub none_held : first_of j held ≡ None
  pub outcome : o ≡ requested home held j g message

-- The home is idle and sends to its target j by the open output g: a reply or a request.
pub record SendsTo (setting : Setting) (n : ℕ) (home : HomeState) (held : List Held) (g j : ℕ)
    (o : HomeOutcome) : Type 0 where
  pub state : ℕ
  pub idle : home.place ≡ Idle state
  pub rule : Rule
  pub there : guard_at setting.protocol.home state g ≡ Some rule
  pub passes : is_open home.vars rule ≡ true
  pub within : j < n
  pub target : may_meet home.vars rule.kind j ≡ true
  pub message : ℕ × Value
  pub gives : given setting.protocol.messages home.vars rule.kind ≡ Some message
  pub how :
      Pays setting home held j rule message o
      ⊎ Asks setting n home held j (guard_id state g) message o

-- a request may be sent where nothing held completes a guard, a slot stays free, and nothing is
-- held of the remote
may_request-parts : (setting : Setting) (n : ℕ) (home : HomeState) (held : List Held) (j : ℕ)
    → may_request setting n home held j ≡ true
    → (some_completes n setting.protocol.home home held ≡ false)
    × (length held + 2 ≤ setting.slots) × (first_of j held ≡ None)
may_request-parts setting n home held j e =
    let some = some_completes n setting.protocol.home home held in
    let room = room_to_send setting.slots (length held) in
    let none = not (is_some (first_of j held)) in
    let both = and_parts (not some) (room && none) e in
    let rest = and_parts room none both.1 in (
      is_false some both.0,
      leb-true (length held + 2) setting.slots rest.0,
      is_none_then (first_of j held) (is_false (is_some (first_of j held)) rest.1),
    )

-- what is sent by an output pays what is owed, or asks
sent_to-some : (setting : Setting) (n : ℕ) (home : HomeState) (held : List Held) (j : ℕ)
    (g : GuardId) (rule : Rule) (debt : Option ℕ) (message : ℕ × Value) (o : HomeOutcome)
    → owed_to home j ≡ debt → sent_to setting n home held j g rule debt message ≡ Some o
    → Pays setting home held j rule message o ⊎ Asks setting n home held j g message o
sent_to-some setting n home held j g rule (Some p) message o owed did =
    let sent = some_when (p == message.0) (paid setting home held j rule message) o did in
    let same : p ≡ message.0 = eqb-true p message.0 sent.0 in
    inl (record { owed = owed ∙ ap (λ (m : ℕ). Some m) same; outcome = sym sent.1 })
sent_to-some setting n home held j g rule None message o owed did =
    let sent =
    some_when (may_request setting n home held j) (requested home held j g message) o did in
    let may = may_request-parts setting n home held j sent.0 in
    inr (record {
      owed = owed;
      none_completes = may.0;
      room = may.1;
      none_held = may.2;
      outcome = sym sent.1;
    })

-- so it is of an output of the home's state
pub home_send-some : (setting : Setting) (n : ℕ) (home : HomeState) (held : List Held) (g j : ℕ)
    (o : HomeOutcome)
    → home_send setting n home held g j ≡ Some o → SendsTo setting n home held g j o
unfolding home_send
home_send-some setting n home held g j o did =
    let body = setting.protocol.home in
    let by =
    some_and_then
    (λ state. option_and_then (sent_by setting n home held j (guard_id state g))
    (guard_at body state g))
    (home_idle_state home.place) o did in
    let state = by.0 in
    let sends = sent_by setting n home held j (guard_id state g) in
    let of = some_and_then sends (guard_at body state g) o by.2 in
    let rule = of.0 in
    let gives = given setting.protocol.messages home.vars rule.kind in
    let to = sent_to setting n home held j (guard_id state g) rule (owed_to home j) in
    let sent =
    when_some (is_open home.vars rule && is_target_of n home.vars rule j)
    (option_and_then to gives) o of.2 in
    let both = and_parts (is_open home.vars rule) (is_target_of n home.vars rule j) sent.0 in
    let target = and_parts (nat_lt j n) (may_meet home.vars rule.kind j) both.1 in
    let message = some_and_then to gives o sent.1 in
    record {
      state = state;
      idle = home_idle home.place state by.1;
      rule = rule;
      there = of.1;
      passes = both.0;
      within = ltb-true j n target.0;
      target = target.1;
      message = message.0;
      gives = message.1;
      how = sent_to-some setting n home held j (guard_id state g) rule (owed_to home j) message.0 o
          refl message.2;
    }

-- ---- a held request is dropped

-- The home is idle, no held request completes a guard, and the first request of j is dropped.
pub record DropsHeld (setting : Setting) (n : ℕ) (home : HomeState) (held : List Held) (j : ℕ)
    (o : HomeOutcome) : Type 0 where
  pub state : ℕ
  pub idle : home.place ≡ Idle state
  pub request : Held
  pub first : first_of j held ≡ Some request
  pub sender : request.from ≡ j
  pub none_completes : some_completes n setting.protocol.home home held ≡ false
  pub reason : may_drop setting n home held j (guards_of setting.protocol.home state) ≡ true
  pub outcome : o ≡ at_home home (without_first j held) (put_on (Down j) packet.Nack)

-- a request that is dropped is held, and completes no guard
pub home_drop-some : (setting : Setting) (n : ℕ) (home : HomeState) (held : List Held) (j : ℕ)
    (o : HomeOutcome)
    → home_drop setting n home held j ≡ Some o → DropsHeld setting n home held j o
unfolding home_drop
home_drop-some setting n home held j o did =
    let body = setting.protocol.home in
    let some = some_completes n body home held in
    let dropped = at_home home (without_first j held) (put_on (Down j) packet.Nack) in
    let drop_in : ℕ → Held → Option HomeOutcome =
    λ state request.
    if not some && may_drop setting n home held j (guards_of body state)
    then Some dropped else None in
    let by =
    some_and_then (λ state. option_and_then (drop_in state) (first_of j held))
    (home_idle_state home.place) o did in
    let of = some_and_then (drop_in by.0) (first_of j held) o by.2 in
    let may = may_drop setting n home held j (guards_of body by.0) in
    let when = some_when (not some && may) dropped o of.2 in
    let both = and_parts (not some) may when.0 in
    record {
      state = by.0;
      idle = home_idle home.place by.0 by.1;
      request = of.0;
      first = of.1;
      sender = first_of-sender j held of.0 of.1;
      none_completes = is_false some both.0;
      reason = both.1;
      outcome = sym when.1;
    }

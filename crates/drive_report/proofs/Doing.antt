-- Where a process does something: a local step that is open, an output that may be given, a request
-- that may be taken, answered or dropped.
use Rattle.std.proofs.Common.{◌≡◌, ℕ, Bool, true, false, not, ◌&&◌}
use Rattle.std.proofs.Common.{List, [], ◌∷◌, Option, Some, None, is_some, slice_get}
use Rattle.std.proofs.Common.{refl, ap, ap₂, ◌∙◌, if◌then◌else◌}
use Rattle.std.specs.Option.{option_map, option_and_then}
use Rattle.std.proofs.lemmas.Bool.{eq-eqb}
use Rattle.std.proofs.lemmas.Map.Keys.{any_passes_from_place}
use Rattle.proto_model.specs.Proper.{is_output_kind}
use Rattle.proto_model.specs.Guards.{part, guards_of, guard_at, after_guard}
use Rattle.proto_model.specs.Values.{is_open, sends}
use Rattle.proto_model.specs.ValueTypes.{message_out}
use Rattle.proto_model.specs.RendezvousNext.{tau_part, given}
use Rattle.proto_model.specs.declared.numbered.Value.{Value}
use Rattle.proto_model.specs.declared.numbered.Value.TheVariants as value
use Rattle.proto_model.specs.declared.numbered.RuleKind.TheVariants as action
use Rattle.proto_model.specs.declared.numbered.MessageInfo.{MessageInfo}
use Rattle.proto_model.specs.declared.numbered.Rule.{Rule}
use Rattle.proto_model.specs.declared.numbered.Body.{Body}
use Rattle.proto_model.specs.declared.rendezvous.Part.{Part}
use Rattle.controller_table.specs.declared.rows.GuardId.{GuardId}
use Rattle.controller_table.specs.declared.rows.Place.TheVariants.{Comm, Due}
use Rattle.slot_reserve.specs.Requests.{first_of, without_first}
use Rattle.slot_reserve.specs.declared.held.Held.{Held}
use Rattle.ordered_links.specs.Link.{Down}
use Rattle.ordered_links.specs.declared.packet.Packet.TheVariants as packet
use Rattle.async_shape.specs.Setting.{Setting}
use Rattle.async_shape.specs.Config.{owed_to}
use Rattle.async_shape.specs.Guards.{Chosen, guard_by, first_that, active_guard}
use Rattle.async_shape.specs.Requests.{is_target_of, completes_guard, Taking, taking_guard, taking}
use Rattle.async_shape.specs.Requests.{completes, some_completes, state_of_home}
use Rattle.async_shape.specs.Outcome.{HomeOutcome, at_home, put_on, home_idle_state}
use Rattle.async_shape.specs.HomeSteps.{home_tau, home_take, home_send, home_drop, request_taken_by}
use Rattle.async_shape.specs.HomeSteps.{may_request, may_drop}
use Rattle.async_shape.specs.RemoteSteps.{remote_tau, remote_send, remote_answer, remote_reply}
use Rattle.async_shape.specs.declared.config.HomeState.{HomeState}
use Rattle.async_shape.specs.declared.config.HomePlace.TheVariants.{Idle}
use Rattle.async_shape.specs.declared.config.RemoteState.{RemoteState}
use Rattle.async_shape.specs.declared.config.Request.{Request}
use Rattle.async_shape.proofs.GuardsFound.{guards_of-at}
use Rattle.async_machine.proofs.Choices.{first-any}
use Rattle.drive_report.proofs.MapsSome.{is_some-map}
use Rattle.async_machine.proofs.Sent.{home_send-found}

-- ---- guards

-- a local step that is open is taken
tau_part-open : (body : Body) (p : Part) (g : ℕ) (rule : Rule)
    → guard_at body p.state g ≡ Some rule → rule.kind ≡ action.Tau → is_open p.vars rule ≡ true
    → tau_part body p g ≡ Some (after_guard body p.vars rule rule.next 0 value.Unit)
tau_part-open body p g rule there tau passes = rw (there, tau, passes) refl

-- a message of the protocol is given
pub given-there : (messages : List MessageInfo) (vars : List Value) (rule : Rule) (m : ℕ)
    (info : MessageInfo) → message_out rule.kind ≡ Some m → slice_get messages m ≡ Some info
    → given messages vars rule.kind ≡ Some (m, sends vars rule.kind info.carries)
given-there messages vars rule m info out there = rw (out, there) refl

-- the one guard of an active state is its output
pub active_guard-one : (rules : List Rule) (rule : Rule) → rules ≡ rule ∷ []
    → is_output_kind rule.kind ≡ true
    → active_guard rules ≡ Some (record { number = 0; rule = rule })
active_guard-one rules rule one output = rw (one, output) refl

-- ---- the home

module _ (setting : Setting) (n : ℕ) (home : HomeState) (held : List Held) (state : ℕ)
    (idle : home.place ≡ Idle state) where
  -- an open local step
  pub home_tau-does : (g : ℕ) (rule : Rule) → guard_at setting.protocol.home state g ≡ Some rule
      → rule.kind ≡ action.Tau → is_open home.vars rule ≡ true
      → is_some (home_tau setting home held g) ≡ true
  unfolding home_tau
  home_tau-does g rule there tau passes =
      rw (idle, tau_part-open setting.protocol.home (part state home.vars) g rule there tau passes)
      refl

  -- the request completes a guard
  pub completes-by : (request : Held) (g : ℕ) (rule : Rule)
      → guard_at setting.protocol.home state g ≡ Some rule
      → completes_guard n home.vars request rule ≡ true
      → completes n setting.protocol.home home request ≡ true
  completes-by request g rule there passes =
      let body = setting.protocol.home in
      let test : Rule → Bool = completes_guard n home.vars request in
      ap (λ place. is_some (first_that test (guards_of body (state_of_home place)))) idle
      ∙ first-any test (guards_of body state)
      ∙ any_passes_from_place test (guards_of body state) g rule
      (guards_of-at body state g ∙ there) passes

  -- a held request that completes a guard
  pub home_take-does : (j : ℕ) (request : Held) → first_of j held ≡ Some request
      → completes n setting.protocol.home home request ≡ true
      → is_some (home_take setting n home held j) ≡ true
  unfolding home_take
  home_take-does j request first able =
      let body = setting.protocol.home in
      let make : Held → Chosen → Taking = λ r guard. record { request = r; guard = guard } in
      ap
      (λ place.
      is_some (option_and_then
      (λ (s : ℕ). option_map (request_taken_by setting home held j) (taking n body home held j))
      (home_idle_state place))) idle
      ∙ is_some-map (request_taken_by setting home held j) (taking n body home held j)
      ∙ ap
      (λ (o : Option Held).
      is_some (option_and_then (λ r. option_map (make r) (taking_guard n body home r)) o)) first
      ∙ is_some-map (make request) (taking_guard n body home request)
      ∙ able

  -- an open output, of which j is a target
  module _ (g j : ℕ) (rule : Rule) (there : guard_at setting.protocol.home state g ≡ Some rule)
      (passes : is_open home.vars rule ≡ true) (target : is_target_of n home.vars rule j ≡ true)
      (message : ℕ × Value)
      (gives : given setting.protocol.messages home.vars rule.kind ≡ Some message) where
    -- it gives the message that is owed to j
    pub home_send-pays : owed_to home j ≡ Some message.0
        → is_some (home_send setting n home held g j) ≡ true
    home_send-pays owed =
        ap is_some
        (home_send-found setting n home held g j state rule message (Some message.0) idle there
        passes target gives owed)
        ∙ rw (eq-eqb message.0 message.0 refl) refl

    -- nothing is owed to j, and the home may send a request to j
    pub home_send-asks : owed_to home j ≡ None → may_request setting n home held j ≡ true
        → is_some (home_send setting n home held g j) ≡ true
    home_send-asks owed may =
        ap is_some
        (home_send-found setting n home held g j state rule message None idle there passes target
        gives owed)
        ∙ rw may refl

  -- a held request that completes no guard, where there is reason to drop it
  pub home_drop-does : (j : ℕ) (request : Held) → first_of j held ≡ Some request
      → some_completes n setting.protocol.home home held ≡ false
      → may_drop setting n home held j (guards_of setting.protocol.home state) ≡ true
      → is_some (home_drop setting n home held j) ≡ true
  unfolding home_drop
  home_drop-does j request first none reason =
      let body = setting.protocol.home in
      let dropped : Bool → Bool → Option HomeOutcome =
      λ able may.
      if not able && may
      then Some (at_home home (without_first j held) (put_on (Down j) packet.Nack)) else None in
      let able = some_completes n body home held in
      ap
      (λ place.
      is_some (option_and_then
      (λ s.
      option_and_then (λ (r : Held). dropped able
      (may_drop setting n home held j (guards_of body s)))
      (first_of j held))
      (home_idle_state place))) idle
      ∙ ap
      (λ (o : Option Held).
      is_some (option_and_then
      (λ (r : Held). dropped able (may_drop setting n home held j (guards_of body state))) o)) first
      ∙ ap₂ (λ (a b : Bool). is_some (dropped a b)) none reason

-- ---- a remote

module _ (setting : Setting) (j : ℕ) (remote : RemoteState) where
  module _ (state : ℕ) (idle : remote.place ≡ Comm state) where
    -- an open local step
    pub remote_tau-does : (g : ℕ) (rule : Rule)
        → guard_at setting.protocol.remote state g ≡ Some rule → rule.kind ≡ action.Tau
        → is_open remote.vars rule ≡ true → is_some (remote_tau setting remote g) ≡ true
    unfolding remote_tau
    remote_tau-does g rule there tau passes =
        rw (
          idle,
          tau_part-open setting.protocol.remote (part state remote.vars) g rule there tau
              passes,
        )
        refl

    -- an output gives a message
    pub remote_send-does : (output : Chosen) (message : ℕ × Value)
        → active_guard (guards_of setting.protocol.remote state) ≡ Some output
        → given setting.protocol.messages remote.vars output.rule.kind ≡ Some message
        → is_some (remote_send setting j remote) ≡ true
    unfolding remote_send
    remote_send-does output message active gives = rw (idle, active, gives) refl

    -- a request is in the slot of a remote in a passive state
    pub remote_answer-does : (request : Request) → remote.slot ≡ Some request
        → active_guard (guards_of setting.protocol.remote state) ≡ None
        → is_some (remote_answer setting j remote) ≡ true
    unfolding remote_answer
    remote_answer-does request slot passive = rw (idle, slot, passive) refl

  -- a remote that is due gives a message
  pub remote_reply-does : (g : GuardId) (rule : Rule) (message : ℕ × Value)
      → remote.place ≡ Due g → guard_by setting.protocol.remote g ≡ Some rule
      → given setting.protocol.messages remote.vars rule.kind ≡ Some message
      → is_some (remote_reply setting j remote) ≡ true
  unfolding remote_reply
  remote_reply-does g rule message due there gives = rw (due, there, gives) refl

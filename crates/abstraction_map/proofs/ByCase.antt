-- The abstraction by case: where the home and a remote stand, by the place and by what became of
-- the request, and so by the phase of the remote.
use Rattle.std.proofs.Common.{◌≡◌, ℕ, ◌==◌, true, false, List, Option, Some, unwrap_or, sym, ap}
use Rattle.std.proofs.Common.{subst, ◌∙◌, refl}
use Rattle.std.specs.Option.{option_map_or}
use Rattle.std.proofs.lemmas.Bool.{eqb-true}
use Rattle.std.proofs.lemmas.Option.{same_Some}
use Rattle.proto_model.specs.Numbered.{NumberedProtocol}
use Rattle.proto_model.specs.Guards.{part, guards_of, only_of, after_guard}
use Rattle.proto_model.specs.Values.{is_open, may_meet}
use Rattle.proto_model.specs.RendezvousNext.{given}
use Rattle.proto_model.specs.declared.numbered.Value.{Value}
use Rattle.proto_model.specs.declared.numbered.Value.TheVariants as value
use Rattle.proto_model.specs.declared.numbered.Rule.{Rule}
use Rattle.proto_model.specs.declared.numbered.Body.{Body}
use Rattle.proto_model.specs.declared.rendezvous.Part.{Part}
use Rattle.controller_table.specs.declared.rows.GuardId.{GuardId}
use Rattle.controller_table.specs.declared.rows.Place.TheVariants.{Comm, Trans, Due}
use Rattle.async_shape.specs.Setting.{Setting}
use Rattle.async_shape.specs.Config.{Config, count_of}
use Rattle.ordered_links.specs.declared.packet.Packet.{Packet}
use Rattle.ordered_links.specs.declared.packet.Packet.TheVariants as packet
use Rattle.async_shape.specs.Guards.{guard_by, request_by, after_ack, after_reply}
use Rattle.async_shape.specs.Outcome.{home_at, remote_at}
use Rattle.async_shape.specs.HomeSteps.{home_answered}
use Rattle.async_shape.specs.RemoteSteps.{down_waiting}
use Rattle.async_shape.specs.View.{View, awaited_at, view_at}
use Rattle.async_shape.specs.Phase.{Phase}
use Rattle.async_shape.specs.Shape.{IsWaitingHome, IsHomePlace, IsWhole}
use Rattle.ordered_links.specs.Packets.{is_request}
use Rattle.async_shape.specs.declared.config.HomeState.{HomeState}
use Rattle.async_shape.specs.declared.config.HomePlace.{HomePlace}
use Rattle.async_shape.specs.declared.config.HomePlace.TheVariants.{Idle, Waits}
use Rattle.async_shape.specs.declared.config.RemoteState.{RemoteState}
use Rattle.async_shape.specs.declared.config.Waiting.{Waiting}
use Rattle.async_shape.specs.declared.config.Request.{Request}
use Rattle.async_shape.proofs.GuardsFound.{when_some}
use Rattle.async_shape.proofs.Completed.{request_by-some, after_ack-is, after_reply-is}
use Rattle.async_shape.proofs.Phases.{IsIn}
use Rattle.abstraction_map.specs.Abstraction.{Fate, Granted, Replied, remote_fate, awaited_fate}
use Rattle.abstraction_map.specs.Abstraction.{home_fate, waiting_part, remote_part, home_part}
use Rattle.abstraction_map.specs.Abstraction.{part_in_view}
use Rattle.abstraction_map.proofs.Fates.{fate_by, remote_fate_in, awaited_fate_in, remote_fate-is}
use Rattle.abstraction_map.proofs.Fates.{awaited_fate-is}

-- ---- a process that waits by a guard that is there

module _ (body : Body) (vars : List Value) (g : GuardId) (partner : ℕ) (rule : Rule)
    (there : guard_by body g ≡ Some rule) where
  -- Where its request was granted, it stands behind the guard.
  pub waiting_part-granted : waiting_part body vars g partner Granted
      ≡ after_guard body vars rule rule.next partner value.Unit
  waiting_part-granted =
      ap (λ (o : Option Part). unwrap_or o (part g.state vars))
      (after_ack-is body vars g partner rule there)

  -- Where the reply is under way, it stands behind the guard and the only guard of the next state.
  pub waiting_part-replied : (next : Rule) (v : Value)
      → only_of (guards_of body rule.next) ≡ Some next
      → waiting_part body vars g partner (Replied v)
      ≡ after_guard body (after_guard body vars rule rule.next partner value.Unit).vars next
      next.next partner v
  waiting_part-replied next v only =
      ap (λ (o : Option Part). unwrap_or o (part g.state vars))
      (after_reply-is body vars g partner rule there next v only)

-- ---- a process that hears the answer to its request

-- Where a process stands that waits by this guard and hears this packet; none where an ack or a
-- reply finds no such guards.
abbrev pub part_heard : Body → List Value → GuardId → ℕ → Packet → Option Part
part_heard body vars g partner (packet.Request m v) = Some (part g.state vars)
part_heard body vars g partner packet.Ack = after_ack body vars g partner
part_heard body vars g partner packet.Nack = Some (part g.state vars)
part_heard body vars g partner (packet.Reply p v) = after_reply body vars g partner v

-- It stood there before it heard it.
pub waiting_part-heard : (body : Body) (vars : List Value) (g : GuardId) (partner : ℕ)
    (answer : Packet) (now : Part) → part_heard body vars g partner answer ≡ Some now
    → waiting_part body vars g partner (fate_by answer) ≡ now
waiting_part-heard body vars g partner (packet.Request m v) now heard =
    same_Some (part g.state vars) now heard
waiting_part-heard body vars g partner packet.Ack now heard =
    ap (λ (o : Option Part). unwrap_or o (part g.state vars)) heard
waiting_part-heard body vars g partner packet.Nack now heard =
    same_Some (part g.state vars) now heard
waiting_part-heard body vars g partner (packet.Reply p v) now heard =
    ap (λ (o : Option Part). unwrap_or o (part g.state vars)) heard

-- A home that hears it is idle there.
pub home_answered-heard : (body : Body) (home : HomeState) (waiting : Waiting) (answer : Packet)
    (now : Part) → part_heard body home.vars waiting.by waiting.on answer ≡ Some now
    → home_answered body home waiting answer ≡ home_at home now
home_answered-heard body home waiting (packet.Request m v) now heard =
    ap (home_at home) (same_Some (part waiting.by.state home.vars) now heard)
home_answered-heard body home waiting packet.Ack now heard =
    ap (λ (o : Option Part). option_map_or (home_at home) o home) heard
home_answered-heard body home waiting packet.Nack now heard =
    ap (home_at home) (same_Some (part waiting.by.state home.vars) now heard)
home_answered-heard body home waiting (packet.Reply p v) now heard =
    ap (λ (o : Option Part). option_map_or (home_at home) o home) heard

-- A remote that hears an answer is idle there.
pub down_waiting-heard : (body : Body) (remote : RemoteState) (g : GuardId) (answer : Packet)
    (now : Part) → is_request answer ≡ false → part_heard body remote.vars g 0 answer ≡ Some now
    → down_waiting body remote g answer ≡ remote_at remote now
down_waiting-heard body remote g (packet.Request m v) now none heard = absurd (cc)
down_waiting-heard body remote g packet.Ack now none heard =
    ap (λ (o : Option Part). option_map_or (remote_at remote) o remote) heard
down_waiting-heard body remote g packet.Nack now none heard =
    ap (remote_at remote) (same_Some (part g.state remote.vars) now heard)
down_waiting-heard body remote g (packet.Reply p v) now none heard =
    ap (λ (o : Option Part). option_map_or (remote_at remote) o remote) heard

-- ---- a remote, by its view

module _ (body : Body) (v : View) where
  -- An idle remote stands as it is.
  pub part-idle : (state : ℕ) → v.remote.place ≡ Comm state
      → part_in_view body v ≡ part state v.remote.vars
  part-idle state idle = ap (remote_part body v.remote.vars (remote_fate v)) idle

  -- A due remote stands in its active state.
  pub part-due : (g : GuardId) → v.remote.place ≡ Due g
      → part_in_view body v ≡ part g.state v.remote.vars
  part-due g due = ap (remote_part body v.remote.vars (remote_fate v)) due

  -- A remote that waits stands by what became of its request.
  pub part-waiting : (g : GuardId) (fate : Fate) → v.remote.place ≡ Trans g → remote_fate v ≡ fate
      → part_in_view body v ≡ waiting_part body v.remote.vars g 0 fate
  part-waiting g fate waits became =
      ap (remote_part body v.remote.vars (remote_fate v)) waits
      ∙ ap (waiting_part body v.remote.vars g 0) became

-- A remote that waits stands by its phase: as `remote_fate_in` says of its request.
pub part-in_phase : (setting : Setting) (v : View) (phase : Phase) (g : GuardId)
    → IsIn setting v phase → v.remote.place ≡ Trans g
    → part_in_view setting.protocol.remote v
    ≡ waiting_part setting.protocol.remote v.remote.vars g 0 (remote_fate_in phase)
part-in_phase setting v phase g is waits =
    part-waiting setting.protocol.remote v g (remote_fate_in phase) waits
    (remote_fate-is setting v phase is)

-- ---- the home and the remotes of a configuration

module _ (protocol : NumberedProtocol) (c : Config) where
  -- where the home would stand in the abstraction, if this were its place
  abbrev home_in : HomePlace → Part
  home_in place =
      home_part protocol.home c.home.vars (home_fate (view_at protocol c) place) place

  -- where the home stands in the abstraction
  abbrev pub home_stands : Part
  home_stands = home_in c.home.place

  -- where remote j stands in the abstraction
  abbrev pub remote_stands : ℕ → Part
  remote_stands j = part_in_view protocol.remote (view_at protocol c j)

  -- An idle home stands as it is.
  pub home-idle : (state : ℕ) → c.home.place ≡ Idle state
      → home_stands ≡ part state c.home.vars
  home-idle state idle = ap home_in idle

  -- A home that waits on j stands by what became of its request.
  pub home-waiting : (j : ℕ) (waiting : Waiting) (fate : Fate) → c.home.place ≡ Waits waiting
      → waiting.on ≡ j → awaited_fate (view_at protocol c j) ≡ fate
      → home_stands ≡ waiting_part protocol.home c.home.vars waiting.by j fate
  home-waiting j waiting fate waits on became =
      ap home_in waits
      ∙ ap
      (λ (q : ℕ).
      waiting_part protocol.home c.home.vars waiting.by q (awaited_fate (view_at protocol c q))) on
      ∙ ap (waiting_part protocol.home c.home.vars waiting.by j) became

  -- A home that waits on j by this guard, which is there
  module _ (j : ℕ) (waiting : Waiting) (rule : Rule) (waits : c.home.place ≡ Waits waiting)
      (on : waiting.on ≡ j) (there : guard_by protocol.home waiting.by ≡ Some rule) where
    -- Where its request was granted, it stands behind the guard.
    pub home-granted : awaited_fate (view_at protocol c j) ≡ Granted
        → home_stands ≡ after_guard protocol.home c.home.vars rule rule.next j value.Unit
    home-granted granted =
        home-waiting j waiting Granted waits on granted
        ∙ waiting_part-granted protocol.home c.home.vars waiting.by j rule there

    -- Where the reply is under way, it stands behind the only guard of the next state too.
    pub home-replied : (next : Rule) (v : Value)
        → only_of (guards_of protocol.home rule.next) ≡ Some next
        → awaited_fate (view_at protocol c j) ≡ Replied v
        → home_stands
        ≡ after_guard protocol.home
        (after_guard protocol.home c.home.vars rule rule.next j value.Unit).vars next next.next j v
    home-replied next v only replied =
        home-waiting j waiting (Replied v) waits on replied
        ∙ waiting_part-replied protocol.home c.home.vars waiting.by j rule there next v only

-- A home that waits on j stands by the phase of j: as `awaited_fate_in` says of its request.
pub home-in_phase : (setting : Setting) (c : Config) (j : ℕ) (waiting : Waiting) (phase : Phase)
    → c.home.place ≡ Waits waiting → waiting.on ≡ j
    → IsIn setting (view_at setting.protocol c j) phase
    → home_stands setting.protocol c
    ≡ waiting_part setting.protocol.home c.home.vars waiting.by j (awaited_fate_in phase)
home-in_phase setting c j waiting phase waits on is =
    home-waiting setting.protocol c j waiting (awaited_fate_in phase) waits on
    (awaited_fate-is setting (view_at setting.protocol c j) phase is)

-- ---- a home that waits

-- The home waits for remote j to answer r: by an output that is open, of which j is a target, and
-- that gives r.
pub record WaitsFor (setting : Setting) (c : Config) (j : ℕ) (r : Request) : Type 0 where
  pub waiting : Waiting
  pub waits : c.home.place ≡ Waits waiting
  pub on : waiting.on ≡ j
  pub rule : Rule
  pub there : guard_by setting.protocol.home waiting.by ≡ Some rule
  pub passes : is_open c.home.vars rule ≡ true
  pub target : may_meet c.home.vars rule.kind j ≡ true
  pub gives : given setting.protocol.messages c.home.vars rule.kind ≡ Some (r.message, r.value)

-- Where the home waits for an answer of j, its place says so.
pub awaited_at-some : (protocol : NumberedProtocol) (home : HomeState) (place : HomePlace) (j : ℕ)
    (r : Request) → awaited_at protocol home place j ≡ Some r
    → (waiting : Waiting) × (place ≡ Waits waiting) × (waiting.on ≡ j)
    × (request_by protocol.messages protocol.home home.vars waiting.by ≡ Some r)
awaited_at-some protocol home (Idle state) j r awaits = absurd (cc)
awaited_at-some protocol home (Waits waiting) j r awaits =
    let by =
    when_some (waiting.on == j)
    (request_by protocol.messages protocol.home home.vars waiting.by) r awaits in
    (waiting, refl, eqb-true waiting.on j by.0, by.1)

-- a home that awaits an answer waits by an output that gives what it sent
pub waits-for : (setting : Setting) (c : Config) (j : ℕ) (r : Request) → IsWhole setting c
    → (view_at setting.protocol c j).awaited ≡ Some r → WaitsFor setting c j r
waits-for setting c j r whole awaits =
    let protocol = setting.protocol in
    let by = awaited_at-some protocol c.home c.home.place j r awaits in
    let waiting = by.0 in
    let is : IsWaitingHome protocol setting.slots (count_of c) c.home c.held waiting =
    subst (IsHomePlace protocol setting.slots (count_of c) c.home c.held) by.1 whole.home in
    let of =
    request_by-some protocol.messages protocol.home c.home.vars waiting.by r by.3 in
    let same : of.rule ≡ is.rule = same_Some of.rule is.rule (sym of.there ∙ is.there) in
    record {
      waiting = waiting;
      waits = by.1;
      on = by.2;
      rule = is.rule;
      there = is.there;
      passes = is.passes;
      target = subst (λ (q : ℕ). may_meet c.home.vars is.rule.kind q ≡ true) by.2 is.target;
      gives =
          sym (ap (λ (rule : Rule). given protocol.messages c.home.vars rule.kind) same)
          ∙ of.gives
          ∙ sym (ap (λ (q : Request). Some (q.message, q.value)) of.request);
    }

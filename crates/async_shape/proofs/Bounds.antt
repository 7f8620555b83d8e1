-- A shaped configuration is bounded: few requests are held, few packets are on each link, and what
-- arrives next is expected where it arrives.
use Rattle.std.proofs.Common.{◌≡◌, ◌≢◌, inl, inr, ℕ, ◌+◌, ◌<◌, ◌≤◌, ◌==◌, Bool, true, ◌&&◌}
use Rattle.std.proofs.Common.{List, [], length, drop, Option, Some, None, is_some, is_none, refl}
use Rattle.std.proofs.Common.{ap, ◌∙◌, if◌then◌else◌}
use Rattle.std.specs.Option.{option_map_or}
use Rattle.std.proofs.lemmas.Bool.{eq-eqb, ne_eqb}
use Rattle.proto_model.specs.Numbered.{NumberedProtocol}
use Rattle.proto_model.specs.Proper.{IsProper}
use Rattle.proto_model.specs.declared.numbered.Body.{Body}
use Rattle.proto_model.specs.declared.rendezvous.Part.{Part}
use Rattle.controller_table.specs.declared.rows.GuardId.{GuardId}
use Rattle.controller_table.specs.declared.rows.Place.{Place}
use Rattle.controller_table.specs.declared.rows.Place.TheVariants.{Trans}
use Rattle.slot_reserve.specs.declared.held.Held.{Held}
use Rattle.ordered_links.specs.Lists.{first_packet}
use Rattle.ordered_links.specs.declared.packet.Packet.{Packet}
use Rattle.ordered_links.specs.declared.packet.Packet.TheVariants as packet
use Rattle.async_shape.specs.Setting.{Setting}
use Rattle.async_shape.specs.Config.{Config, count_of}
use Rattle.async_shape.specs.Requests.{is_waiting}
use Rattle.async_shape.specs.View.{View, view_at}
use Rattle.async_shape.specs.Phase.{is_idle_place, Case}
use Rattle.async_shape.specs.Shape.{IsHomePlace, IsWhole, IsShaped}
use Rattle.ordered_links.specs.Packets.{is_request}
use Rattle.async_shape.specs.Bounded.{goes_on, home_expects, remote_expects}
use Rattle.async_shape.specs.Bounded.{AreBoundedLinks, IsBounded}
use Rattle.async_shape.specs.declared.config.HomeState.{HomeState}
use Rattle.async_shape.specs.declared.config.HomePlace.{HomePlace}
use Rattle.async_shape.specs.declared.config.HomePlace.TheVariants.{Idle, Waits}
use Rattle.async_shape.specs.declared.config.Request.{Request}
use Rattle.async_shape.specs.declared.config.Waiting.{Waiting}
use Rattle.async_shape.proofs.ArrivalInversion.{IsNotOn-awaited, up-by}
use Rattle.async_shape.proofs.RemoteInversion.{ReachesIdle, down-by}
use Rattle.async_shape.proofs.Phases.{due-phase, down_idle-phase, up_free-phase}
use Rattle.async_shape.proofs.AnswerAtHomeKeeps.{acked_home, replied_home}
use Rattle.async_shape.proofs.Phases.{first-rest}
use Rattle.async_shape.proofs.ArrivalAtRemoteKeep.{acked_remote, replied_remote}
use Rattle.async_shape.proofs.LinkLengths.{length-up, length-down}
use Rattle.async_shape.proofs.ShapeParts.{IsShaped-whole, IsShaped-case}

-- what passes where there is something passes in any case
passes-all : (test : Packet → Bool) (o : Option Packet)
    → ((arrived : Packet) → o ≡ Some arrived → test arrived ≡ true)
    → option_map_or test o true ≡ true
passes-all test None each = refl
passes-all test (Some arrived) each = each arrived refl

-- a home that waits holds one request fewer than there are slots
pub few-waiting : (protocol : NumberedProtocol) (k n : ℕ) (home : HomeState) (held : List Held)
    (place : HomePlace) → IsHomePlace protocol k n home held place → is_waiting place ≡ true
    → length held + 1 ≤ k
few-waiting protocol k n home held (Idle state) is waits = absurd (cc)
few-waiting protocol k n home held (Waits waiting) is waits = is.few_held

-- ---- what the home expects

-- of a remote on which it waits
home_expects-on : (body : Body) (home : HomeState) (j : ℕ) (arrived : Packet) (waiting : Waiting)
    → home.place ≡ Waits waiting → waiting.on ≡ j
    → goes_on body home.vars waiting.by waiting.on arrived ≡ true
    → home_expects body home j home.place arrived ≡ true
home_expects-on body home j arrived waiting waits on goes =
    let same : (waiting.on == j) ≡ true = eq-eqb waiting.on j on in
    let expects : (if waiting.on == j
    then goes_on body home.vars waiting.by waiting.on arrived else is_request arrived) ≡ true =
    rw same goes in
    ap (λ (place : HomePlace). home_expects body home j place arrived) waits ∙ expects

-- of any other remote
home_expects-request : (body : Body) (home : HomeState) (j : ℕ) (arrived : Packet)
    (place : HomePlace) → ((waiting : Waiting) → place ≡ Waits waiting → waiting.on ≢ j)
    → is_request arrived ≡ true → home_expects body home j place arrived ≡ true
home_expects-request body home j arrived (Idle state) apart is = is
home_expects-request body home j arrived (Waits waiting) apart is =
    let other = ne_eqb waiting.on j (apart waiting refl) in rw other is

module _ (setting : Setting) (proper : IsProper setting.protocol) (c : Config) (j : ℕ)
    (right : IsWhole setting c) (within : j < count_of c)
    (case : Case setting (view_at setting.protocol c j)) where
  -- the view of j
  abbrev now : View
  now = view_at setting.protocol c j

  -- a home that waits on j goes on
  home_goes_on : (waiting : Waiting) → c.home.place ≡ Waits waiting → waiting.on ≡ j
      → (arrived : Packet) → first_packet now.up ≡ Some arrived
      → goes_on setting.protocol.home c.home.vars waiting.by waiting.on arrived ≡ true
  home_goes_on waiting waits on (packet.Request m v) first = refl
  home_goes_on waiting waits on packet.Ack first =
      let acked = acked_home setting proper c j right within case waiting waits on in
      ap (λ (o : Option Part). is_some o) acked.acked
  home_goes_on waiting waits on packet.Nack first = refl
  home_goes_on waiting waits on (packet.Reply p v) first =
      let replied = replied_home setting proper c j right within case waiting waits on p v first in
      ap (λ (o : Option Part). is_some o) replied.replied

  -- what is first on the up link of j is expected
  home_expects-first : (arrived : Packet) → first_packet now.up ≡ Some arrived
      → home_expects setting.protocol.home c.home j c.home.place arrived ≡ true
  home_expects-first arrived first =
      elim (up-by setting (count_of c) c.home c.held j arrived) [
        | inl answered ↦
            let on = answered.on in
            home_expects-on setting.protocol.home c.home j arrived on.waiting on.waits on.on
            (home_goes_on on.waiting on.waits on.on arrived first)
        | inr reached ↦
            let sends =
            up_free-phase setting now arrived (drop 1 now.up) case.in_phase
            (IsNotOn-awaited setting.protocol c.home j reached.not_on)
            (first-rest now.up arrived first) in
            home_expects-request setting.protocol.home c.home j arrived c.home.place
            reached.not_on.apart (ap is_request sends.1)
      ]

-- ---- what a remote expects

module _ (setting : Setting) (proper : IsProper setting.protocol) (j : ℕ) (v : View)
    (case : Case setting v) (arrived : Packet) (first : first_packet v.down ≡ Some arrived) where
  -- this remote expects it, in this place
  abbrev Expects : Place → Type 0
  Expects place = remote_expects setting.protocol.remote v.remote place arrived ≡ true

  -- an idle one
  remote_expects-idle : ReachesIdle setting v.remote arrived → Expects v.remote.place
  remote_expects-idle is =
      let gets =
      down_idle-phase setting v arrived (drop 1 v.down) case.in_phase (ap is_idle_place is.idle)
      (first-rest v.down arrived first) in
      ap (λ (place : Place). remote_expects setting.protocol.remote v.remote place arrived) is.idle
      ∙ ap (λ (p : Packet). is_request p && is_none v.remote.slot) gets.1
      ∙ ap (λ (slot : Option Request). true && is_none slot) gets.3.has.slot

-- one that waits goes on
remote_goes_on : (setting : Setting) → IsProper setting.protocol → (j : ℕ) (v : View)
    → Case setting v → (g : GuardId) → v.remote.place ≡ Trans g → (arrived : Packet)
    → first_packet v.down ≡ Some arrived
    → goes_on setting.protocol.remote v.remote.vars g 0 arrived ≡ true
remote_goes_on setting proper j v case g waits (packet.Request m w) first = refl
remote_goes_on setting proper j v case g waits packet.Ack first =
    let acked = acked_remote setting proper j v case g waits first in
    ap (λ (o : Option Part). is_some o) acked.acked
remote_goes_on setting proper j v case g waits packet.Nack first = refl
remote_goes_on setting proper j v case g waits (packet.Reply p w) first =
    let replied = replied_remote setting proper j v case g waits p w first in
    ap (λ (o : Option Part). is_some o) replied.replied

-- what is first on the down link is expected
remote_expects-first : (setting : Setting) → IsProper setting.protocol → (j : ℕ) (v : View)
    → Case setting v → (arrived : Packet) → first_packet v.down ≡ Some arrived
    → remote_expects setting.protocol.remote v.remote v.remote.place arrived ≡ true
remote_expects-first setting proper j v case arrived first =
    let body = setting.protocol.remote in
    elim (down-by setting v.remote arrived) [
      | inl idle ↦ remote_expects-idle setting proper j v case arrived first idle
      | inr others ↦ elim others [
        | inl waiting ↦
            ap (λ (place : Place). remote_expects body v.remote place arrived) waiting.waits
            ∙ remote_goes_on setting proper j v case waiting.guard waiting.waits arrived first
        | inr due ↦
            let phase = due-phase setting v due.guard case.in_phase due.due in
            let down_is = first-rest v.down arrived first in
            let empty : v.down ≡ [] = phase.1.has.down in
            absurd (cc)
      ]
    ]

-- ---- all bounds

-- the bounds of the links of remote j
links-bounded : (setting : Setting) → IsProper setting.protocol → (c : Config)
    → IsShaped setting c → (j : ℕ) → j < count_of c
    → AreBoundedLinks setting c j (view_at setting.protocol c j).remote
links-bounded setting proper c shaped j within =
    let v = view_at setting.protocol c j in
    let right = IsShaped-whole setting c shaped in
    let case = IsShaped-case setting c shaped j within in
    record {
      up = length-up setting v case.in_phase;
      down = length-down setting v case.in_phase;
      to_home =
          passes-all (home_expects setting.protocol.home c.home j c.home.place)
          (first_packet v.up) (home_expects-first setting proper c j right within case);
      to_remote =
          passes-all (remote_expects setting.protocol.remote v.remote v.remote.place)
          (first_packet v.down) (remote_expects-first setting proper j v case);
    }

-- what has the shape is bounded
pub shaped-bounded : (setting : Setting) → IsProper setting.protocol → (c : Config)
    → IsShaped setting c → IsBounded setting c
shaped-bounded setting proper c shaped =
    let right = IsShaped-whole setting c shaped in
    record {
      held = right.held.few;
      held_waiting =
          few-waiting setting.protocol setting.slots (count_of c) c.home c.held c.home.place
          right.home;
      links = links-bounded setting proper c shaped;
    }

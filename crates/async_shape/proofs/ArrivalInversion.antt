-- A packet that arrives at the home answers the home or reaches it, and a request that reaches it
-- is kept, displaces another one, or is refused.
use Rattle.std.proofs.Common.{◌≡◌, ◌≢◌, ◌⊎◌, inl, inr, ℕ, ◌<◌, ◌≤◌, Bool, true, false, not, ◌&&◌}
use Rattle.std.proofs.Common.{◌==◌, List, [], ◌∷◌, ◌++◌, length, Option, Some, None, refl, ap, ◌∙◌}
use Rattle.std.proofs.Common.{arith, if◌then◌else◌, ◌-◌, get_or}
use Rattle.std.specs.Option.{option_map_or}
use Rattle.std.proofs.lemmas.Bool.{and_parts, eqb-true, eqb-false, ne_eqb}
use Rattle.std.proofs.lemmas.Option.{slice_get-get_or}
use Rattle.rv_base.proofs.Lists.{is_false}
use Rattle.proto_model.specs.Numbered.{NumberedProtocol}
use Rattle.slot_reserve.specs.Requests.{last_of}
use Rattle.slot_reserve.specs.declared.held.Held.{Held}
use Rattle.ordered_links.specs.Link.{Down}
use Rattle.ordered_links.specs.declared.packet.Packet.{Packet}
use Rattle.ordered_links.specs.declared.packet.Packet.TheVariants as packet
use Rattle.async_shape.specs.Setting.{Setting}
use Rattle.async_shape.specs.Requests.{is_waiting, completes, some_completes, is_admitted}
use Rattle.async_shape.specs.Requests.{displaces}
use Rattle.async_shape.specs.Outcome.{HomeOutcome, at_home, put_on}
use Rattle.async_shape.specs.HomeSteps.{up_answer, made_room, up_request, up_other, up_at, up}
use Rattle.async_shape.specs.View.{awaited_at}
use Rattle.async_shape.specs.declared.config.HomeState.{HomeState}
use Rattle.async_shape.specs.declared.config.HomePlace.{HomePlace}
use Rattle.async_shape.specs.declared.config.HomePlace.TheVariants.{Idle, Waits}
use Rattle.async_shape.specs.declared.config.Waiting.{Waiting}

-- The home waits on j.
pub record WaitsOn (home : HomeState) (j : ℕ) : Type 0 where
  pub waiting : Waiting
  pub waits : home.place ≡ Waits waiting
  pub on : waiting.on ≡ j

-- The home doesn't wait on j.
pub record IsNotOn (home : HomeState) (j : ℕ) : Type 0 where
  pub apart : (waiting : Waiting) → home.place ≡ Waits waiting → waiting.on ≢ j

-- The home waits on j, and this packet of j arrives.
pub record IsAnswered (setting : Setting) (n : ℕ) (home : HomeState) (held : List Held) (j : ℕ)
    (arrived : Packet) : Type 0 where
  pub on : WaitsOn home j
  pub outcome :
      up setting n home held j arrived
      ≡ up_answer setting.protocol.home home held j on.waiting arrived

-- The home doesn't wait on j, and this packet of j arrives.
pub record IsReached (setting : Setting) (n : ℕ) (home : HomeState) (held : List Held) (j : ℕ)
    (arrived : Packet) : Type 0 where
  pub not_on : IsNotOn home j
  pub outcome : up setting n home held j arrived ≡ up_other setting n home held j arrived

-- an idle home waits on nobody
idle-not_on : (home : HomeState) (state j : ℕ) → home.place ≡ Idle state → IsNotOn home j
idle-not_on home state j idle = record { apart = λ waiting waits. absurd (cc) }

-- a home that waits on another remote doesn't wait on this one
other-not_on : (home : HomeState) (waiting : Waiting) (j : ℕ) → home.place ≡ Waits waiting
    → waiting.on ≢ j → IsNotOn home j
other-not_on home waiting j waits apart = record {
  apart = λ other waits_too same.
      let one : waiting ≡ other = cc in apart (ap (λ (w : Waiting). w.on) one ∙ same);
}

-- a packet is an answer or reaches the home, where it is known whether the home waits on the sender
up_at-on : (setting : Setting) (n : ℕ) (home : HomeState) (held : List Held) (j : ℕ)
    (arrived : Packet) (waiting : Waiting) (same : Bool) → (waiting.on == j) ≡ same
    → home.place ≡ Waits waiting
    → up setting n home held j arrived ≡ up_at setting n home held j (Waits waiting) arrived
    → IsAnswered setting n home held j arrived ⊎ IsReached setting n home held j arrived
up_at-on setting n home held j arrived waiting true same waits did =
    inl (record {
      on = record { waiting = waiting; waits = waits; on = eqb-true waiting.on j same };
      outcome = rw same at did;
    })
up_at-on setting n home held j arrived waiting false same waits did =
    inr (record {
      not_on = other-not_on home waiting j waits (eqb-false waiting.on j same);
      outcome = rw same at did;
    })

-- so it is where the place of the home is known
up_at-by : (setting : Setting) (n : ℕ) (home : HomeState) (held : List Held) (j : ℕ)
    (arrived : Packet) (place : HomePlace) → home.place ≡ place
    → up setting n home held j arrived ≡ up_at setting n home held j place arrived
    → IsAnswered setting n home held j arrived ⊎ IsReached setting n home held j arrived
up_at-by setting n home held j arrived (Idle state) idle did =
    inr (record { not_on = idle-not_on home state j idle; outcome = did })
up_at-by setting n home held j arrived (Waits waiting) waits did =
    up_at-on setting n home held j arrived waiting (waiting.on == j) refl waits did

-- a packet that comes up is an answer, or reaches a home that doesn't wait on its sender
pub up-by : (setting : Setting) (n : ℕ) (home : HomeState) (held : List Held) (j : ℕ)
    (arrived : Packet)
    → IsAnswered setting n home held j arrived ⊎ IsReached setting n home held j arrived
unfolding up
up-by setting n home held j arrived =
    up_at-by setting n home held j arrived home.place refl refl

-- On whom the home doesn't wait, of that remote it awaits no answer.
not_on-awaited : (protocol : NumberedProtocol) (home : HomeState) (j : ℕ) (place : HomePlace)
    → ((waiting : Waiting) → place ≡ Waits waiting → waiting.on ≢ j)
    → awaited_at protocol home place j ≡ None
not_on-awaited protocol home j (Idle state) apart = refl
not_on-awaited protocol home j (Waits waiting) apart =
    let other : (waiting.on == j) ≡ false = ne_eqb waiting.on j (apart waiting refl) in
    rw other refl

-- of a remote on which it doesn't wait the home awaits nothing
pub IsNotOn-awaited : (protocol : NumberedProtocol) (home : HomeState) (j : ℕ) → IsNotOn home j
    → awaited_at protocol home home.place j ≡ None
IsNotOn-awaited protocol home j not_on = not_on-awaited protocol home j home.place not_on.apart

-- ---- a request arrives, and the home doesn't wait on its sender

-- It is kept.
pub record IsKept (setting : Setting) (n : ℕ) (home : HomeState) (held : List Held) (request : Held)
    : Type 0 where
  pub admitted :
      is_admitted n setting.protocol.home home setting.slots held request ≡ true
  pub outcome :
      up_request setting n home held request ≡ at_home home (held ++ request ∷ []) None

-- It displaces the last held request: the home is idle and full, and the request that arrives
-- completes a guard where no held one does.
pub record IsDisplacing (setting : Setting) (n : ℕ) (home : HomeState) (held : List Held)
    (request : Held) : Type 0 where
  pub idle : is_waiting home.place ≡ false
  pub full : length held ≡ setting.slots
  pub does : completes n setting.protocol.home home request ≡ true
  pub none_completes : some_completes n setting.protocol.home home held ≡ false
  pub last : Held
  pub there : last_of held ≡ Some last
  pub outcome : up_request setting n home held request ≡ made_room home held request last

-- It is nacked.
pub record IsRefused (setting : Setting) (n : ℕ) (home : HomeState) (held : List Held)
    (request : Held) : Type 0 where
  pub not_admitted :
      is_admitted n setting.protocol.home home setting.slots held request ≡ false
  pub no_displacement :
      displaces n setting.protocol.home home setting.slots held request ≡ false
  pub outcome :
      up_request setting n home held request
      ≡ at_home home held (put_on (Down request.from) packet.Nack)

-- a list that isn't empty has a last item
last_there : (held : List Held) → 1 ≤ length held → (last : Held) × (last_of held ≡ Some last)
last_there [] some = absurd (omega arith)
last_there (request ∷ held) some =
    let within : length (request ∷ held) - 1 < length (request ∷ held) = omega arith in (
      get_or (request ∷ held) (length (request ∷ held) - 1) request,
      slice_get-get_or (request ∷ held) (length (request ∷ held) - 1) request within,
    )

module _ (setting : Setting) (n : ℕ) (home : HomeState) (held : List Held) (request : Held) where
  -- what becomes of the request
  abbrev pub Fate : Type 0
  Fate =
      IsKept setting n home held request
      ⊎ IsDisplacing setting n home held request
      ⊎ IsRefused setting n home held request

  -- a request displaces another where the home is idle, the slots are full, and it alone completes
  -- a guard
  displaces-parts : displaces n setting.protocol.home home setting.slots held request ≡ true
      → (is_waiting home.place ≡ false) × (length held ≡ setting.slots)
      × (completes n setting.protocol.home home request ≡ true)
      × (some_completes n setting.protocol.home home held ≡ false)
  displaces-parts e =
      let waits = is_waiting home.place in
      let full = length held == setting.slots in
      let does = completes n setting.protocol.home home request in
      let some = some_completes n setting.protocol.home home held in
      let first = and_parts (not waits) (full && (does && not some)) e in
      let second = and_parts full (does && not some) first.1 in
      let third = and_parts does (not some) second.1 in (
        is_false waits first.0,
        eqb-true (length held) setting.slots second.0,
        third.0,
        is_false some third.1,
      )

  -- what the home leaves, by whether the request is admitted or displaces another
  abbrev outcome_by : Bool → Bool → HomeOutcome
  outcome_by admitted displacing =
      if admitted
      then at_home home (held ++ request ∷ []) None
      else (if displacing
      then option_map_or (made_room home held request) (last_of held) (at_home home held None)
      else at_home home held (put_on (Down request.from) packet.Nack))

  -- so it is kept, displaces another, or is refused
  fate_by : (admitted displacing : Bool)
      → is_admitted n setting.protocol.home home setting.slots held request ≡ admitted
      → displaces n setting.protocol.home home setting.slots held request ≡ displacing
      → up_request setting n home held request ≡ outcome_by admitted displacing
      → 1 ≤ setting.slots → Fate
  fate_by true displacing a d did some = inl (record { admitted = a; outcome = did })
  fate_by false false a d did some =
      inr (inr (record { not_admitted = a; no_displacement = d; outcome = did }))
  fate_by false true a d did some =
      let parts = displaces-parts d in
      let last = last_there held (omega (arith, parts.1)) in
      inr (inl (record {
        idle = parts.0;
        full = parts.1;
        does = parts.2;
        none_completes = parts.3;
        last = last.0;
        there = last.1;
        outcome = did
            ∙ ap (λ (o : Option Held). option_map_or (made_room home held request) o
            (at_home home held None)) last.1;
      }))

  -- a request that reaches the home is kept, displaces another, or is refused
  pub up_request-by : 1 ≤ setting.slots → Fate
  up_request-by some =
      fate_by (is_admitted n setting.protocol.home home setting.slots held request)
      (displaces n setting.protocol.home home setting.slots held request) refl refl refl some

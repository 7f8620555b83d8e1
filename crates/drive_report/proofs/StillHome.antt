-- Where no step is enabled, the home is idle, no held request completes a guard, and each target of
-- an open output is owed a message.
use Rattle.std.proofs.Common.{◌≡◌, ◌≢◌, ℕ, ◌+◌, ◌<◌, ◌≤◌, Bool, true, false, ◌||◌, List, [], ◌∷◌}
use Rattle.std.proofs.Common.{length, Option, Some, None, nat_le, refl, sym, ap, arith, ◌∙◌}
use Rattle.std.proofs.Common.{if◌then◌else◌}
use Rattle.std.specs.Option.{option_map}
use Rattle.std.specs.List.{list_any, range_with_len}
use Rattle.std.proofs.lemmas.Bool.{eq-eqb, lt-ltb, le-leb, leb-false, or_left, or_right}
use Rattle.std.proofs.lemmas.Option.{none-some}
use Rattle.std.proofs.lemmas.Map.Keys.{any_passes_from_place}
use Rattle.rv_base.proofs.Lists.{some_map}
use Rattle.proto_model.specs.Proper.{IsProper, is_output_kind}
use Rattle.proto_model.specs.Guards.{guards_of, guard_at}
use Rattle.proto_model.specs.Values.{is_open, may_meet}
use Rattle.proto_model.specs.RendezvousNext.{given}
use Rattle.proto_model.specs.declared.numbered.Side.TheVariants as side
use Rattle.proto_model.specs.declared.numbered.Value.{Value}
use Rattle.proto_model.specs.declared.numbered.Rule.{Rule}
use Rattle.proto_model.proofs.ProperFacts.{message_out-output}
use Rattle.slot_reserve.specs.Admission.{room_to_send}
use Rattle.slot_reserve.specs.Requests.{first_of, OneOfEach}
use Rattle.slot_reserve.specs.declared.held.Held.{Held}
use Rattle.slot_reserve.proofs.HeldAfter.{first_of-sender}
use Rattle.slot_reserve.proofs.HeldItems.{AllByRecursion-first_of}
use Rattle.slot_reserve.proofs.HeldOfRemote.{is_sent_by-another}
use Rattle.async_shape.specs.Setting.{Setting}
use Rattle.async_shape.specs.Config.{Config, count_of, owed_to}
use Rattle.async_shape.specs.Guards.{request_of, request_by}
use Rattle.async_shape.specs.Requests.{is_target_of, completes, some_completes}
use Rattle.async_shape.specs.HomeSteps.{may_request, may_drop, is_open_output, has_target}
use Rattle.async_shape.specs.Next.{is_enabled}
use Rattle.async_shape.specs.View.{View, awaited_at, held_request, view_at}
use Rattle.async_shape.specs.Phase.{Resting, RequestIsHeld, ReplyIsOwed}
use Rattle.async_shape.specs.Shape.{IsHomePlace, IsShaped}
use Rattle.async_shape.specs.declared.config.HomePlace.{HomePlace}
use Rattle.async_shape.specs.declared.config.HomePlace.TheVariants.{Idle, Waits}
use Rattle.async_shape.specs.declared.config.Request.{Request}
use Rattle.async_shape.specs.declared.step.Step.TheVariants as step
use Rattle.async_shape.proofs.Completed.{request_by-is}
use Rattle.async_shape.proofs.GuardsFound.{guards_of-at}
use Rattle.async_shape.proofs.Phases.{IsIn}
use Rattle.async_shape.proofs.ShapeParts.{IsShaped-whole}
use Rattle.async_shape.proofs.WaitedMessages.{given-out}
use Rattle.proto_model.specs.Proper.{most_guards}
use Rattle.drive_report.proofs.NoneReady.{NoneEnabled, range-at, guard-few}
use Rattle.drive_report.proofs.EnabledByKind.{HomeTake-enabled, HomeSend-enabled, HomeDrop-enabled}
use Rattle.drive_report.proofs.Doing.{home_take-does, home_send-pays, home_send-asks}
use Rattle.drive_report.proofs.Doing.{home_drop-does}
use Rattle.drive_report.proofs.StillRemotes.{StillPhase, StillRests, StillHeld, StillOwed}
use Rattle.drive_report.proofs.StillRemotes.{still-phase}

-- ---- held requests

-- Where some held request passes a test and at most one is held of each remote, some first request
-- of a remote passes it.
some-first : (test : Held → Bool) (held : List Held) → OneOfEach held → list_any test held ≡ true
    → (request : Held) × (first_of request.from held ≡ Some request) × (test request ≡ true)
some-first test [] each some = absurd (cc)
some-first test (first ∷ held) each some = by (test first) refl (some-first test held each.1)
  where
    by : (passes : Bool) → test first ≡ passes
        → (list_any test held ≡ true
        → (request : Held) × (first_of request.from held ≡ Some request) × (test request ≡ true))
        → (request : Held) × (first_of request.from (first ∷ held) ≡ Some request)
        × (test request ≡ true)
    by true is rest = (first, rw (eq-eqb first.from first.from refl) refl, is)
    by false is rest =
        let later = rest (rw is at some) in
        let apart : later.0.from ≢ first.from =
        AllByRecursion-first_of (λ (r : Held). r.from ≢ first.from) later.0.from held later.0 each.0
        later.1 in (
          later.0,
          rw (is_sent_by-another later.0.from first (λ same. apart (sym same))) later.1,
          later.2,
        )

-- where some request is held, it is the first of its remote
some-held : (held : List Held) → 1 ≤ length held
    → (request : Held) × (first_of request.from held ≡ Some request)
some-held [] some = absurd (omega arith)
some-held (first ∷ held) some = (first, rw (eq-eqb first.from first.from refl) refl)

-- a view without a held request is of a remote of which none is held
none-held : (first : Option Held) → option_map held_request first ≡ None → first ≡ None
none-held None none = refl
none-held (Some request) none = absurd (cc)

-- ---- the home

still-unawaited : (setting : Setting) (v : View) → StillPhase setting v → v.awaited ≡ None
still-unawaited setting v (StillRests is) = is.has.awaited
still-unawaited setting v (StillHeld q is) = is.has.awaited
still-unawaited setting v (StillOwed q p is) = is.has.awaited

module _ (setting : Setting) (proper : IsProper setting.protocol) (c : Config)
    (shaped : IsShaped setting c) (none : NoneEnabled setting c) where
  idle-by : (place : HomePlace) → c.home.place ≡ place
      → IsHomePlace setting.protocol setting.slots (count_of c) c.home c.held place
      → (state : ℕ) × (c.home.place ≡ Idle state)
  idle-by (Idle state) is stands = (state, is)
  idle-by (Waits waiting) is stands =
      let protocol = setting.protocol in
      let j = waiting.on in
      let phase = still-phase setting proper c none j stands.remote shaped in
      let unawaited : awaited_at protocol c.home (Waits waiting) j ≡ None =
      ap (λ (place : HomePlace). awaited_at protocol c.home place j) (sym is)
      ∙ still-unawaited setting (view_at protocol c j) phase in
      let request = request_by protocol.messages protocol.home c.home.vars waiting.by in
      let awaited : awaited_at protocol c.home (Waits waiting) j
      ≡ Some (request_of (stands.message, waiting.sent)) =
      ap (λ (b : Bool). if b then request else None) (eq-eqb j j refl)
      ∙ request_by-is protocol.messages protocol.home c.home.vars waiting.by stands.rule
      (stands.message, waiting.sent) stands.there stands.sends in
      absurd (none-some (request_of (stands.message, waiting.sent)) (sym unawaited ∙ awaited))

  -- The home is idle.
  pub still-idle : (state : ℕ) × (c.home.place ≡ Idle state)
  still-idle = idle-by c.home.place refl (IsShaped-whole setting c shaped).home

  module _ (state : ℕ) (idle : c.home.place ≡ Idle state) where
    -- No held request completes a guard.
    pub none-completes : some_completes (count_of c) setting.protocol.home c.home c.held ≡ false
    none-completes =
        by (some_completes (count_of c) setting.protocol.home c.home c.held) refl
      where
        by : (some : Bool)
            → some_completes (count_of c) setting.protocol.home c.home c.held ≡ some
            → some_completes (count_of c) setting.protocol.home c.home c.held ≡ false
        by false is = is
        by true is =
            let n = count_of c in
            let held = (IsShaped-whole setting c shaped).held in
            let one =
            some-first (completes n setting.protocol.home c.home) c.held held.one_of_each is in
            let from = one.0.from in
            let within : from < n =
            AllByRecursion-first_of (λ (r : Held). r.from < n) from c.held one.0 held.senders
            one.1 in
            let enabled : is_enabled setting c (step.HomeTake from) ≡ true =
            HomeTake-enabled setting c from within
            ∙ home_take-does setting n c.home c.held state idle from one.0 one.1 one.2 in
            let not = none.none (step.HomeTake from) within in
            absurd (cc)

    -- of an open output of which j is a target
    module _ (h j : ℕ) (rule : Rule) (message : ℕ × Value) (within : j < count_of c)
        (there : guard_at setting.protocol.home state h ≡ Some rule)
        (gives : given setting.protocol.messages c.home.vars rule.kind ≡ Some message)
        (passes : is_open c.home.vars rule ≡ true)
        (target : may_meet c.home.vars rule.kind j ≡ true) where
      output : is_output_kind rule.kind ≡ true
      output =
          message_out-output rule.kind message.0
          (given-out setting.protocol.messages c.home.vars rule.kind message gives)

      aims : is_target_of (count_of c) c.home.vars rule j ≡ true
      aims = rw (lt-ltb j (count_of c) within, target) refl

      -- the output passes a test, and so some open output does
      some-output : (test : Rule → Bool) → test rule ≡ true
          → list_any (is_open_output c.home.vars test) (guards_of setting.protocol.home state)
          ≡ true
      some-output test is =
          any_passes_from_place (is_open_output c.home.vars test)
          (guards_of setting.protocol.home state) h rule
          (guards_of-at setting.protocol.home state h ∙ there) (rw (output, passes, is) refl)

      has-target : has_target (count_of c) c.home.vars rule ≡ true
      has-target =
          any_passes_from_place (may_meet c.home.vars rule.kind) (range_with_len 0 (count_of c)) j j
          (range-at (count_of c) j within) target

      -- no held request is dropped
      not-dropped : (request : Held) → first_of request.from c.held ≡ Some request
          → (nat_le setting.slots (length c.held + 1)
          || list_any
          (is_open_output c.home.vars
          (λ r. is_target_of (count_of c) c.home.vars r request.from))
          (guards_of setting.protocol.home state)) ≡ true
          → ⊥
      not-dropped request first reason =
          let n = count_of c in
          let from = request.from in
          let held = (IsShaped-whole setting c shaped).held in
          let there_is : from < n =
          AllByRecursion-first_of (λ (r : Held). r.from < n) from c.held request held.senders
          first in
          let may : may_drop setting n c.home c.held from (guards_of setting.protocol.home state)
          ≡ true =
          rw (some-output (has_target n c.home.vars) has-target, reason) refl in
          let enabled : is_enabled setting c (step.HomeDrop from) ≡ true =
          HomeDrop-enabled setting c from there_is
          ∙ home_drop-does setting n c.home c.held state idle from request first none-completes
          may in
          let not = none.none (step.HomeDrop from) there_is in
          cc

      -- nothing is sent
      few : h < most_guards
      few =
          guard-few side.Home setting.protocol.messages setting.protocol.home state h rule
          proper.home
          there

      -- The home doesn't owe j this message.
      pub not-owed : owed_to c.home j ≡ Some message.0 → ⊥
      not-owed owed =
          let enabled : is_enabled setting c (step.HomeSend h j) ≡ true =
          HomeSend-enabled setting c h j within
          ∙ home_send-pays setting (count_of c) c.home c.held state idle h j rule there passes aims
          message gives owed in
          let not = none.none (step.HomeSend h j) (few, within) in
          cc

      not-asked : owed_to c.home j ≡ None → first_of j c.held ≡ None
          → room_to_send setting.slots (length c.held) ≡ true → ⊥
      not-asked owed free room =
          let may : may_request setting (count_of c) c.home c.held j ≡ true =
          rw (none-completes, room, free) refl in
          let enabled : is_enabled setting c (step.HomeSend h j) ≡ true =
          HomeSend-enabled setting c h j within
          ∙ home_send-asks setting (count_of c) c.home c.held state idle h j rule there passes aims
          message gives owed may in
          let not = none.none (step.HomeSend h j) (few, within) in
          cc

      not-resting : IsIn setting (view_at setting.protocol c j) Resting → ⊥
      not-resting is = by (room_to_send setting.slots (length c.held)) refl
        where
          by : (room : Bool) → room_to_send setting.slots (length c.held) ≡ room → ⊥
          by true room = not-asked is.has.owed (none-held (first_of j c.held) is.has.held) room
          by false room =
              let whole = IsShaped-whole setting c shaped in
              let least : 2 ≤ setting.slots = whole.some_slots in
              let full : setting.slots < length c.held + 2 =
              leb-false (length c.held + 2) setting.slots room in
              let some : 1 ≤ length c.held = omega arith in
              let most : setting.slots ≤ length c.held + 1 = omega arith in
              let one = some-held c.held some in
              not-dropped one.0 one.1
              (or_left (nat_le setting.slots (length c.held + 1))
              (list_any
              (is_open_output c.home.vars
              (λ r. is_target_of (count_of c) c.home.vars r one.0.from))
              (guards_of setting.protocol.home state))
              (le-leb setting.slots (length c.held + 1) most))

      not-held : (q : Request) → IsIn setting (view_at setting.protocol c j) (RequestIsHeld q None)
          → ⊥
      not-held q is =
          let by = some_map held_request (first_of j c.held) q is.has.held in
          let request = by.0 in
          let sender : request.from ≡ j = first_of-sender j c.held request by.1 in
          let test : Rule → Bool = λ r. is_target_of (count_of c) c.home.vars r request.from in
          let his : test rule ≡ true =
          ap (λ (i : ℕ). is_target_of (count_of c) c.home.vars rule i) sender ∙ aims in
          not-dropped request (ap (λ (i : ℕ). first_of i c.held) sender ∙ by.1)
          (or_right (nat_le setting.slots (length c.held + 1))
          (list_any (is_open_output c.home.vars test) (guards_of setting.protocol.home state))
          (some-output test his))

      -- The home owes j a message, the reply to the request by which j waits.
      pub target-owed : (q : Request) × (p : ℕ)
          × IsIn setting (view_at setting.protocol c j) (ReplyIsOwed q None p)
      target-owed = by (still-phase setting proper c none j within shaped)
        where
          by : StillPhase setting (view_at setting.protocol c j)
              → (q : Request) × (p : ℕ)
              × IsIn setting (view_at setting.protocol c j) (ReplyIsOwed q None p)
          by (StillRests is) = absurd (not-resting is)
          by (StillHeld q is) = absurd (not-held q is)
          by (StillOwed q p is) = (q, p, is)

-- A step of the home keeps the shape: a local step, a request taken, a reply or a request sent, and
-- a request dropped.
use Rattle.std.proofs.Common.{◌≡◌, ◌≢◌, inl, inr, ℕ, ◌<◌, ◌==◌, Bool, true, List}
use Rattle.std.proofs.Common.{[], ◌∷◌, ◌++◌, length, Option, Some, None, refl, sym, ap, subst, ◌∙◌}
use Rattle.std.proofs.Common.{arith, length-set, slice_get, if◌then◌else◌}
use Rattle.std.specs.Option.{option_map, option_and_then}
use Rattle.std.proofs.lemmas.Bool.{eq-eqb}
use Rattle.rv_base.proofs.Lists.{AllByRecursion-push}
use Rattle.proto_model.specs.Numbered.{NumberedProtocol}
use Rattle.proto_model.specs.Proper.{IsProper}
use Rattle.proto_model.specs.Guards.{guard_at, after_guard}
use Rattle.proto_model.specs.RendezvousNext.{given}
use Rattle.proto_model.specs.Values.{is_open, may_meet}
use Rattle.proto_model.specs.ValueTypes.{AreOfKinds}
use Rattle.proto_model.specs.declared.numbered.Value.{Value}
use Rattle.proto_model.specs.declared.numbered.Value.TheVariants as value
use Rattle.proto_model.specs.declared.numbered.Rule.{Rule}
use Rattle.proto_model.specs.declared.rendezvous.Part.{Part}
use Rattle.proto_model.proofs.ProperFacts.{home_guard-gives, input-received, output-received}
use Rattle.proto_model.proofs.ProperFacts.{message_out-output}
use Rattle.controller_table.specs.Rows.{guard_id}
use Rattle.slot_reserve.specs.Requests.{first_of, without_first, OneOfEach}
use Rattle.slot_reserve.specs.declared.held.Held.{Held}
use Rattle.slot_reserve.proofs.HeldOfRemote.{first_of-none}
use Rattle.slot_reserve.proofs.HeldAfter.{first_of-without_other}
use Rattle.slot_reserve.proofs.OneOfEach.{OneOfEach-without, without_first-has_none}
use Rattle.slot_reserve.proofs.HeldItems.{AllByRecursion-first_of, AllByRecursion-without}
use Rattle.slot_reserve.proofs.HeldItems.{length-without_first}
use Rattle.ordered_links.specs.Link.{Down}
use Rattle.ordered_links.specs.Lists.{links_at}
use Rattle.ordered_links.specs.declared.packet.Packet.{Packet}
use Rattle.ordered_links.specs.declared.packet.Packet.TheVariants as packet
use Rattle.async_shape.specs.Setting.{Setting, reply_to}
use Rattle.async_shape.specs.Config.{Config, count_of, owed_to}
use Rattle.async_shape.specs.Guards.{request_of, request_by}
use Rattle.async_shape.specs.Outcome.{HomeOutcome, at_home, put_on, home_at, owing}
use Rattle.async_shape.specs.HomeSteps.{request_taken, home_waiting}
use Rattle.async_shape.specs.Next.{StepOutcome, config_after, home_moved, outcome}
use Rattle.async_shape.specs.View.{View, awaited_at, held_request, view_at}
use Rattle.async_shape.specs.Phase.{RequestComes, RequestsCross, RequestIsHeld, AnswerComes}
use Rattle.async_shape.specs.Phase.{ReplyIsOwed, as_packet, packets_of, down_list, IsInPhase}
use Rattle.async_shape.specs.Phase.{is_answer, IsAnswerTo, IsTypedMessage, IsTypedPacket, Case}
use Rattle.async_shape.specs.Shape.{AreHeld, IsIdleHome, IsHomePlace, IsWhole, IsShaped}
use Rattle.async_shape.specs.declared.config.HomeState.{HomeState}
use Rattle.async_shape.specs.declared.config.HomePlace.{HomePlace}
use Rattle.async_shape.specs.declared.config.HomePlace.TheVariants.{Idle}
use Rattle.async_shape.specs.declared.config.Request.{Request}
use Rattle.async_shape.specs.declared.step.Step.TheVariants as step
use Rattle.async_shape.proofs.HomeInversion.{TakesHeld, Pays, Asks, SendsTo, DropsHeld}
use Rattle.async_shape.proofs.StepInversion.{HomeMoves, HomeTau-outcome, HomeTake-outcome}
use Rattle.async_shape.proofs.StepInversion.{HomeSend-outcome, HomeDrop-outcome}
use Rattle.async_shape.proofs.Completed.{IsPart, home_guard-part, request_by-is}
use Rattle.async_shape.proofs.Places.{home_step-part, IsTypedMessage-given, IsWaitingHome-asked}
use Rattle.async_shape.proofs.Phases.{IsIn, held-phase, owed-phase, free-phase, FreePhase}
use Rattle.async_shape.proofs.Phases.{FreeRests, FreeGoes, FreeComes}
use Rattle.async_shape.proofs.LinksAfter.{IsPutAt, pair_after}
use Rattle.async_shape.proofs.Frame.{owing-own, owing-other, awaited-none}
use Rattle.async_shape.proofs.HomeMoves.{view_left, IsHomeWhole, LeavesAlone}
use Rattle.async_shape.proofs.HomeMoves.{IsShaped-home_moved, IsShaped-home_alone}
use Rattle.async_shape.proofs.ShapeParts.{IsShaped-whole, IsShaped-case}

-- ---- what is held after a request is gone

-- what is held is right without one request
pub AreHeld-without : (protocol : NumberedProtocol) (k n j : ℕ) (held : List Held) (request : Held)
    → first_of j held ≡ Some request → AreHeld protocol k n held
    → AreHeld protocol k n (without_first j held)
AreHeld-without protocol k n j held request first are =
    let one_less = length-without_first j held request first in
    let few = are.few in
    record {
      few = omega arith;
      senders = AllByRecursion-without (λ (r : Held). r.from < n) j held are.senders;
      one_of_each = OneOfEach-without j held are.one_of_each;
      typed =
          AllByRecursion-without (λ (r : Held). IsTypedMessage protocol r.message r.value) j held
          are.typed;
    }

-- without the one request of a remote nothing is held of it
gone : (j : ℕ) (held : List Held) → OneOfEach held
    → option_map held_request (first_of j (without_first j held)) ≡ None
gone j held one =
    ap (option_map held_request)
    (first_of-none j (without_first j held) (without_first-has_none j held one))

-- ---- what comes down

-- behind an old request an answer
pub then_answer : (old : Option Request) (answer : Packet)
    → packets_of old ++ answer ∷ [] ≡ down_list old answer None
then_answer None answer = refl
then_answer (Some r) answer = refl

-- behind an answer a request
then_request : (old : Option Request) (answer : Packet) (r : Request)
    → down_list old answer None ++ as_packet r ∷ [] ≡ down_list old answer (Some r)
then_request None answer r = refl
then_request (Some o) answer r = refl

module _ (setting : Setting) (proper : IsProper setting.protocol) (c : Config) (j : ℕ)
    (right : IsWhole setting c) (within : j < count_of c)
    (case : Case setting (view_at setting.protocol c j)) where
  -- the protocol
  abbrev protocol : NumberedProtocol
  protocol = setting.protocol

  -- the view of j
  abbrev now : View
  now = view_at setting.protocol c j

  -- the view of j where the home leaves this
  abbrev left_view : HomeOutcome → View
  left_view o =
      view_left setting.protocol c o.home o.held j (pair_after o.put None (links_at c.links j))

  -- What a step of an idle home leaves that deals with j: it puts on the down link of j, the part
  -- for the whole holds, j is in a case again, and of the others all is as it was.
  pub record Keeps (o : HomeOutcome) : Type 0 where
    pub put : IsPutAt j o.put
    pub whole : IsHomeWhole setting (count_of c) o.home o.held
    pub alone : (q : ℕ) → q ≢ j → LeavesAlone setting.protocol c o.home o.held q
    pub again : Case setting (left_view o)

  -- a remote that is there is one of 64
  below : j < 64
  below = let few = right.few_remotes in omega arith

  -- the home has a debt for each remote, or none
  owed_there : j < length c.home.owed
  owed_there = subst (λ (n : ℕ). j < n) (sym right.debts) within

  -- an idle home awaits nothing of a remote
  idle_awaits : (q state : ℕ) → c.home.place ≡ Idle state
      → awaited_at protocol c.home c.home.place q ≡ None
  idle_awaits q state idle =
      ap (λ (place : HomePlace). awaited_at protocol c.home place q) idle

  -- ---- a request is taken or dropped

  -- the phase behind an answer to the held request
  answered_phase : (q : Request) (old : Option Request) (home : HomeState) (answer : Packet)
      → IsIn setting now (RequestIsHeld q old) → awaited_at protocol home home.place j ≡ None
      → owed_to home j ≡ owed_to c.home j → IsAnswerTo setting q answer
      → IsInPhase setting
      (left_view (at_home home (without_first j c.held) (put_on (Down j) answer)))
  answered_phase q old home answer is free same answers = record {
    phase = AnswerComes q old answer None;
    has = record {
      awaited = free;
      up = is.has.up;
      down = ap (λ (ps : List Packet). ps ++ answer ∷ []) is.has.down ∙ then_answer old answer;
      slot = is.has.slot;
      held = gone j c.held right.held.one_of_each;
      owed = same ∙ is.has.owed;
    };
    fits = (is.fits.0, is.fits.1, answers);
  }

  -- the case behind an answer to the held request
  answered_case : (q : Request) (old : Option Request) (home : HomeState) (answer : Packet)
      → IsIn setting now (RequestIsHeld q old) → awaited_at protocol home home.place j ≡ None
      → owed_to home j ≡ owed_to c.home j → IsAnswerTo setting q answer
      → IsTypedPacket protocol answer
      → Case setting
      (left_view (at_home home (without_first j c.held) (put_on (Down j) answer)))
  answered_case q old home answer is free same answers typed = record {
    in_phase = answered_phase q old home answer is free same answers;
    typed = record {
      place = case.typed.place;
      vars = case.typed.vars;
      slot = case.typed.slot;
      up = case.typed.up;
      down = AllByRecursion-push (IsTypedPacket protocol) now.down answer case.typed.down typed;
    };
  }

  -- what an idle home is and holds
  idle_whole : (home : HomeState) (state : ℕ) (held : List Held) → length home.owed ≡ count_of c
      → home.place ≡ Idle state → state < length protocol.home.states
      → AreOfKinds protocol.home.vars home.vars
      → AreHeld protocol setting.slots (count_of c) held
      → IsHomeWhole setting (count_of c) home held
  idle_whole home state held debts idle there kinds are = record {
    debts = debts;
    place = subst
        (λ (place : HomePlace). IsHomePlace protocol setting.slots (count_of c) home held place)
        (sym idle) (record { there = there });
    vars = kinds;
    held_right = are;
  }

  -- the state in which an idle home stands is there
  idle_there : (state : ℕ) → c.home.place ≡ Idle state → state < length protocol.home.states
  idle_there state idle =
      let is : IsIdleHome protocol state =
      subst
      (λ (place : HomePlace). IsHomePlace protocol setting.slots (count_of c) c.home c.held place)
      idle right.home in
      is.there

  -- the other remotes are left alone, where nothing is owed to them that wasn't
  others_alone : (state : ℕ) (home : HomeState) → c.home.place ≡ Idle state
      → ((q : ℕ) → awaited_at protocol home home.place q ≡ None)
      → ((q : ℕ) → q ≢ j → owed_to home q ≡ owed_to c.home q) → (q : ℕ) → q ≢ j
      → LeavesAlone protocol c home (without_first j c.held) q
  others_alone state home idle free owes q apart = record {
    awaited = free q ∙ sym (idle_awaits q state idle);
    first = first_of-without_other q j c.held apart;
    owed = owes q apart;
  }

  -- a request that is taken keeps the shape, with an ack or a debt
  taken_keeps : (state : ℕ) (request : Held) (old : Option Request) (p : Part) (reply : Option ℕ)
      → c.home.place ≡ Idle state → first_of j c.held ≡ Some request
      → IsIn setting now (RequestIsHeld (held_request request) old) → IsPart protocol.home p
      → reply_to setting request.message ≡ reply
      → Keeps (request_taken c.held j (home_at c.home p) reply)
  taken_keeps state request old p None idle first is part no_reply =
      let home = home_at c.home p in
      let are = AreHeld-without protocol setting.slots (count_of c) j c.held request first
      right.held in
      record {
        put = refl;
        whole = idle_whole home p.state (without_first j c.held) right.debts refl part.within
            part.kinds are;
        alone = others_alone state home idle (λ q. refl) (λ q apart. refl);
        again = answered_case (held_request request) old home packet.Ack is refl refl
            (ap (λ (r : Option ℕ). is_answer r packet.Ack) no_reply) tt;
      }
  taken_keeps state request old p (Some m) idle first is part reply =
      let home = owing j (Some m) (home_at c.home p) in
      let are = AreHeld-without protocol setting.slots (count_of c) j c.held request first
      right.held in
      let debts = length-set c.home.owed j (Some m) ∙ right.debts in
      record {
        put = tt;
        whole = idle_whole home p.state (without_first j c.held) debts refl part.within part.kinds
            are;
        alone =
            others_alone state home idle (λ q. refl)
            (λ q apart. owing-other (home_at c.home p) j q (Some m) apart);
        again = record {
          in_phase = record {
            phase = ReplyIsOwed (held_request request) old m;
            has = record {
              awaited = refl;
              up = is.has.up;
              down = is.has.down;
              slot = is.has.slot;
              held = gone j c.held right.held.one_of_each;
              owed = owing-own (home_at c.home p) j (Some m) owed_there;
            };
            fits = (is.fits.0, is.fits.1, reply);
          };
          typed = record {
            place = case.typed.place;
            vars = case.typed.vars;
            slot = case.typed.slot;
            up = case.typed.up;
            down = case.typed.down;
          };
        };
      }

  -- a request that the home takes keeps the shape
  pub HomeTake-keeps : (o : HomeOutcome) → TakesHeld setting (count_of c) c.home c.held j o
      → Keeps o
  HomeTake-keeps o is =
      let request = is.request in
      let held = held-phase setting now (held_request request) case.in_phase
      (ap (option_map held_request) is.first) in
      let typed =
      AllByRecursion-first_of (λ (r : Held). IsTypedMessage protocol r.message r.value) j c.held
      request right.held.typed is.first in
      let part =
      home_guard-part protocol proper is.state is.guard.number is.guard.rule c.home.vars j
      request.value is.there right.home_vars below
      (input-received protocol.messages is.guard.rule.kind request.message request.value is.input
      typed.value) in
      let after =
      after_guard protocol.home c.home.vars is.guard.rule is.guard.rule.next j request.value in
      subst Keeps (sym is.outcome)
      (taken_keeps is.state request held.0 after (reply_to setting request.message) is.idle is.first
      held.1 part refl)

  -- a request that the home drops keeps the shape
  pub HomeDrop-keeps : (o : HomeOutcome) → DropsHeld setting (count_of c) c.home c.held j o
      → Keeps o
  HomeDrop-keeps o is =
      let request = is.request in
      let held = held-phase setting now (held_request request) case.in_phase
      (ap (option_map held_request) is.first) in
      let are =
      AreHeld-without protocol setting.slots (count_of c) j c.held request is.first right.held in
      subst Keeps (sym is.outcome) (record {
        put = refl;
        whole =
            idle_whole c.home is.state (without_first j c.held) right.debts is.idle
            (idle_there is.state is.idle) right.home_vars are;
        alone =
            others_alone is.state c.home is.idle (λ q. idle_awaits q is.state is.idle)
            (λ q apart. refl);
        again = answered_case (held_request request) held.0 c.home packet.Nack held.1
            (idle_awaits j is.state is.idle) refl refl tt;
      })

  -- ---- a reply is sent

  -- a reply that pays a debt keeps the shape
  pays_keeps : (state g : ℕ) (rule : Rule) (message : ℕ × Value) (o : HomeOutcome)
      → c.home.place ≡ Idle state → guard_at protocol.home state g ≡ Some rule
      → given protocol.messages c.home.vars rule.kind ≡ Some message
      → Pays setting c.home c.held j rule message o → Keeps o
  pays_keeps state g rule message o idle there gives is =
      let owed = owed-phase setting now message.0 case.in_phase is.owed in
      let q = owed.0 in
      let old = owed.1 in
      let phase = owed.2 in
      let sent = home_guard-gives protocol state g rule c.home.vars proper message there
      right.home_vars gives in
      let output = message_out-output rule.kind message.0 sent.out in
      let part =
      home_guard-part protocol proper state g rule c.home.vars j value.Unit there
      right.home_vars below
      (output-received protocol.messages rule.kind value.Unit output) in
      let after = after_guard protocol.home c.home.vars rule rule.next j value.Unit in
      let home = owing j None (home_at c.home after) in
      let answer = packet.Reply message.0 message.1 in
      let answers : IsAnswerTo setting q answer =
      ap (λ (r : Option ℕ). is_answer r answer) phase.fits.2
      ∙ eq-eqb message.0 message.0 refl in
      subst Keeps (sym is.outcome) (record {
        put = refl;
        whole =
            idle_whole home after.state c.held (length-set c.home.owed j None ∙ right.debts) refl
            part.within part.kinds right.held;
        alone = λ other apart. record {
          awaited = sym (idle_awaits other state idle);
          first = refl;
          owed = owing-other (home_at c.home after) j other None apart;
        };
        again = record {
          in_phase = record {
            phase = AnswerComes q old answer None;
            has = record {
              awaited = refl;
              up = phase.has.up;
              down = ap (λ (ps : List Packet). ps ++ answer ∷ []) phase.has.down
                  ∙ then_answer old answer;
              slot = phase.has.slot;
              held = phase.has.held;
              owed = owing-own (home_at c.home after) j None owed_there;
            };
            fits = (phase.fits.0, phase.fits.1, answers);
          };
          typed = record {
            place = case.typed.place;
            vars = case.typed.vars;
            slot = case.typed.slot;
            up = case.typed.up;
            down = AllByRecursion-push (IsTypedPacket protocol) now.down answer case.typed.down
                (IsTypedMessage-given protocol rule.kind message sent);
          };
        };
      })

  -- ---- a request is sent

  -- what is owed to j stays where all debts stay
  owed_same : (home : HomeState) → home.owed ≡ c.home.owed → owed_to home j ≡ owed_to c.home j
  owed_same home owes =
      ap
      (λ (owed : List (Option ℕ)).
      option_and_then (λ (debt : Option ℕ). debt) (slice_get owed j)) owes

  -- the phase behind a request of the home
  asked_phase : (home : HomeState) (r : Request) → awaited_at protocol home home.place j ≡ Some r
      → home.owed ≡ c.home.owed → FreePhase setting now
      → IsInPhase setting (left_view (at_home home c.held (put_on (Down j) (as_packet r))))
  asked_phase home r awaits owes (FreeRests is) = record {
    phase = RequestComes r;
    has = record {
      awaited = awaits;
      up = is.has.up;
      down = ap (λ (ps : List Packet). ps ++ as_packet r ∷ []) is.has.down;
      slot = is.has.slot;
      held = is.has.held;
      owed = owed_same home owes ∙ is.has.owed;
    };
    fits = is.fits;
  }
  asked_phase home r awaits owes (FreeGoes q is) = record {
    phase = RequestsCross q r;
    has = record {
      awaited = awaits;
      up = is.has.up;
      down = ap (λ (ps : List Packet). ps ++ as_packet r ∷ []) is.has.down;
      slot = is.has.slot;
      held = is.has.held;
      owed = owed_same home owes ∙ is.has.owed;
    };
    fits = is.fits;
  }
  asked_phase home r awaits owes (FreeComes q old answer is) = record {
    phase = AnswerComes q old answer (Some r);
    has = record {
      awaited = awaits;
      up = is.has.up;
      down = ap (λ (ps : List Packet). ps ++ as_packet r ∷ []) is.has.down
          ∙ then_request old answer r;
      slot = is.has.slot;
      held = is.has.held;
      owed = owed_same home owes ∙ is.has.owed;
    };
    fits = is.fits;
  }

  -- a request of the home keeps the shape
  asks_keeps : (state g : ℕ) (rule : Rule) (message : ℕ × Value) (o : HomeOutcome)
      → c.home.place ≡ Idle state → guard_at protocol.home state g ≡ Some rule
      → is_open c.home.vars rule ≡ true → may_meet c.home.vars rule.kind j ≡ true
      → given protocol.messages c.home.vars rule.kind ≡ Some message
      → Asks setting (count_of c) c.home c.held j (guard_id state g) message o → Keeps o
  asks_keeps state g rule message o idle there passes target gives is =
      let by = guard_id state g in
      let home = home_waiting c.home by j message.1 in
      let r = request_of message in
      let asks =
      request_by-is protocol.messages protocol.home c.home.vars by rule message there gives in
      let on : (j == j) ≡ true = eq-eqb j j refl in
      let awaits : awaited_at protocol home home.place j ≡ Some r =
      ap
      (λ (b : Bool). if b then request_by protocol.messages protocol.home c.home.vars by else None)
      on ∙ asks in
      let sent = home_guard-gives protocol state g rule c.home.vars proper message there
      right.home_vars gives in
      let free =
      free-phase setting now case.in_phase (idle_awaits j state idle)
      (ap (option_map held_request) is.none_held) is.owed in
      let waiting =
      IsWaitingHome-asked setting (count_of c) c.home c.held g j state rule message there passes
      within target gives is.room in
      subst Keeps (sym is.outcome) (record {
        put = refl;
        whole = record {
          debts = right.debts;
          place = waiting;
          vars = right.home_vars;
          held_right = right.held;
        };
        alone = λ other apart. record {
          awaited = awaited-none protocol home home.place other apart
              ∙ sym (idle_awaits other state idle);
          first = refl;
          owed = refl;
        };
        again = record {
          in_phase = asked_phase home r awaits refl free;
          typed = record {
            place = case.typed.place;
            vars = case.typed.vars;
            slot = case.typed.slot;
            up = case.typed.up;
            down = AllByRecursion-push (IsTypedPacket protocol) now.down (as_packet r)
                case.typed.down (IsTypedMessage-given protocol rule.kind message sent);
          };
        };
      })

  -- an output of the home keeps the shape
  pub HomeSend-keeps : (g : ℕ) (o : HomeOutcome)
      → SendsTo setting (count_of c) c.home c.held g j o → Keeps o
  HomeSend-keeps g o is = elim is.how [
    | inl pays ↦ pays_keeps is.state g is.rule is.message o is.idle is.there is.gives pays
    | inr asks ↦ asks_keeps is.state g is.rule is.message o is.idle is.there is.passes is.target
        is.gives asks
  ]

-- ---- the four kinds of step

module _ (setting : Setting) (proper : IsProper setting.protocol) (c : Config) (o : StepOutcome)
    (shaped : IsShaped setting c) where
  -- the part for the whole
  whole_of : IsWhole setting c
  whole_of = IsShaped-whole setting c shaped

  -- the case of a remote
  case_of : (j : ℕ) → j < count_of c → Case setting (view_at setting.protocol c j)
  case_of = IsShaped-case setting c shaped

  -- a step of an idle home keeps the shape where it keeps what is said of j
  kept_with : (j : ℕ) (within : j < count_of c) (P : HomeOutcome → Type 0) → HomeMoves c None P o
      → ((left : HomeOutcome) → P left
      → Keeps setting proper c j whole_of within (case_of j within) left)
      → IsShaped setting (config_after c o)
  kept_with j within P moves keeps =
      let kept = keeps moves.left moves.is in
      subst (λ (so : StepOutcome). IsShaped setting (config_after c so)) (sym moves.outcome)
      (IsShaped-home_moved setting c None moves.left j within kept.put tt shaped kept.whole
      kept.alone kept.again)

  -- A request that is taken keeps the shape.
  pub IsShaped-HomeTake : (j : ℕ) → outcome setting c (step.HomeTake j) ≡ Some o
      → IsShaped setting (config_after c o)
  IsShaped-HomeTake j did =
      let at = HomeTake-outcome setting c j o did in
      kept_with j at.0 (TakesHeld setting (count_of c) c.home c.held j) at.1
      (HomeTake-keeps setting proper c j whole_of at.0 (case_of j at.0))

  -- A request that is dropped keeps the shape.
  pub IsShaped-HomeDrop : (j : ℕ) → outcome setting c (step.HomeDrop j) ≡ Some o
      → IsShaped setting (config_after c o)
  IsShaped-HomeDrop j did =
      let at = HomeDrop-outcome setting c j o did in
      kept_with j at.0 (DropsHeld setting (count_of c) c.home c.held j) at.1
      (HomeDrop-keeps setting proper c j whole_of at.0 (case_of j at.0))

  -- An output of the home keeps the shape.
  pub IsShaped-HomeSend : (g j : ℕ) → outcome setting c (step.HomeSend g j) ≡ Some o
      → IsShaped setting (config_after c o)
  IsShaped-HomeSend g j did =
      let at = HomeSend-outcome setting c g j o did in
      kept_with j at.0 (SendsTo setting (count_of c) c.home c.held g j) at.1
      (HomeSend-keeps setting proper c j whole_of at.0 (case_of j at.0) g)

  -- A local step of the home keeps the shape.
  pub IsShaped-HomeTau : (g : ℕ) → outcome setting c (step.HomeTau g) ≡ Some o
      → IsShaped setting (config_after c o)
  IsShaped-HomeTau g did =
      let moves = HomeTau-outcome setting c g o did in
      let is = moves.is in
      let right = whole_of in
      let part =
      home_step-part setting.protocol is.state g c.home.vars is.after proper is.step
      right.home_vars in
      let home = home_at c.home is.after in
      let left : HomeOutcome = at_home home c.held None in
      let kept =
      IsShaped-home_alone setting c home c.held shaped
      (record {
        debts = right.debts;
        place = record { there = part.within };
        vars = part.kinds;
        held_right = right.held;
      })
      (λ q. record {
        awaited =
            sym (ap (λ (place : HomePlace). awaited_at setting.protocol c.home place q) is.idle);
        first = refl;
        owed = refl;
      }) in
      subst (λ (so : StepOutcome). IsShaped setting (config_after c so)) (sym moves.outcome)
      (subst (λ (so : HomeOutcome). IsShaped setting (config_after c (home_moved c None so)))
      (sym is.outcome) kept)

-- What comes up from the remote on which the home waits keeps the shape: an answer, or a request
-- that crosses the home's own.
use Rattle.std.proofs.Common.{◌≡◌, ◌≢◌, ℕ, ◌<◌, true, false, List, [], ◌∷◌, ◌++◌, drop, Option}
use Rattle.std.proofs.Common.{Some, None, refl, sym, ap, subst, ◌∙◌}
use Rattle.std.specs.Option.{option_map, option_map_or}
use Rattle.proto_model.specs.Numbered.{NumberedProtocol}
use Rattle.proto_model.specs.Proper.{IsProper}
use Rattle.proto_model.specs.Guards.{part}
use Rattle.proto_model.specs.Pairs.{goes_down}
use Rattle.proto_model.specs.declared.numbered.Value.{Value}
use Rattle.proto_model.specs.declared.rendezvous.Part.{Part}
use Rattle.proto_model.proofs.ProperFacts.{IsGiven, home_guard, home_guard-gives}
use Rattle.proto_model.proofs.ProperFacts.{home_output-down, message_out-output}
use Rattle.slot_reserve.specs.Requests.{first_of}
use Rattle.slot_reserve.specs.declared.held.Held.{Held}
use Rattle.slot_reserve.proofs.HeldAfter.{first_of-push_own, first_of-push_other}
use Rattle.ordered_links.specs.Lists.{first_packet}
use Rattle.ordered_links.specs.declared.packet.Packet.{Packet}
use Rattle.ordered_links.specs.declared.packet.Packet.TheVariants as packet
use Rattle.async_shape.specs.Setting.{Setting, reply_to}
use Rattle.async_shape.specs.Config.{Config, count_of}
use Rattle.async_shape.specs.Guards.{request_of}
use Rattle.async_shape.specs.Outcome.{at_home, home_at}
use Rattle.async_shape.specs.HomeSteps.{request_from, up_answer, up}
use Rattle.async_shape.specs.View.{View, awaited_at, held_request, view_at}
use Rattle.async_shape.specs.Phase.{Resting, RequestGoes, RequestIsHeld, IsInPhase, IsAnswerTo}
use Rattle.async_shape.specs.Phase.{Case}
use Rattle.async_shape.specs.Shape.{AreHeld, IsWaitingHome, IsHomePlace, IsWhole}
use Rattle.ordered_links.specs.Packets.{is_request}
use Rattle.async_shape.specs.declared.config.HomePlace.{HomePlace}
use Rattle.async_shape.specs.declared.config.HomePlace.TheVariants.{Waits}
use Rattle.async_shape.specs.declared.config.Waiting.{Waiting}
use Rattle.async_shape.specs.declared.config.Request.{Request}
use Rattle.async_shape.proofs.Completed.{IsPart, IsAcked, IsReplied, awaits-request}
use Rattle.async_shape.proofs.Completed.{is_answer-reply, home-acked, home-replied}
use Rattle.async_shape.proofs.Phases.{CrossingPhase, Crosses, Crossed, AnsweringPhase, AnswerAlone}
use Rattle.async_shape.proofs.Phases.{AnswerFirst, up_request-phase, up_answer-phase}
use Rattle.async_shape.proofs.Frame.{awaited-none}
use Rattle.async_shape.proofs.HomeMoves.{IsHomeWhole, LeavesAlone}
use Rattle.async_shape.proofs.ArrivedAtHome.{AreHeld-push, Keeps, again_by, below_64}
use Rattle.async_shape.proofs.ArrivedAtHome.{comes_up, left_view, none_held, typed_up}

module _ (setting : Setting) (proper : IsProper setting.protocol) (c : Config) (j : ℕ)
    (right : IsWhole setting c) (within : j < count_of c)
    (case : Case setting (view_at setting.protocol c j)) (waiting : Waiting)
    (waits : c.home.place ≡ Waits waiting) (on : waiting.on ≡ j) where
  -- the protocol
  abbrev protocol : NumberedProtocol
  protocol = setting.protocol

  -- the view of j
  abbrev now : View
  now = view_at setting.protocol c j

  -- the home waits as the shape says
  is_waiting_home : IsWaitingHome protocol setting.slots (count_of c) c.home c.held waiting
  is_waiting_home =
      subst
      (λ (place : HomePlace). IsHomePlace protocol setting.slots (count_of c) c.home c.held place)
      waits right.home

  -- what the home has sent
  abbrev message : ℕ × Value
  message = (is_waiting_home.message, waiting.sent)

  -- the request that the home waits for j to answer
  abbrev asked : Request
  asked = request_of message

  -- the home waits for j to answer it
  awaits : now.awaited ≡ Some asked
  awaits = awaits-request setting c j waiting waits on is_waiting_home

  -- the other remotes are left alone, where the same is held of them
  others_alone : (p : Part) (held : List Held)
      → ((q : ℕ) → q ≢ j → first_of q held ≡ first_of q c.held) → (q : ℕ) → q ≢ j
      → LeavesAlone protocol c (home_at c.home p) held q
  others_alone p held firsts q apart = record {
    awaited = sym
        (ap (λ (place : HomePlace). awaited_at protocol c.home place q) waits
        ∙ awaited-none protocol c.home (Waits waiting) q (λ same. apart (same ∙ on)));
    first = firsts q apart;
    owed = refl;
  }

  -- what the home has sent is given by its guard
  sent : IsGiven protocol.messages is_waiting_home.rule.kind message
  sent =
      home_guard-gives protocol waiting.by.state waiting.by.guard is_waiting_home.rule c.home.vars
      proper message is_waiting_home.there right.home_vars is_waiting_home.sends

  -- the home idle where this part stands
  back_whole : (p : Part) (held : List Held) → IsPart protocol.home p
      → AreHeld protocol setting.slots (count_of c) held
      → IsHomeWhole setting (count_of c) (home_at c.home p) held
  back_whole p held is are = record {
    debts = right.debts;
    place = record { there = is.within };
    vars = is.kinds;
    held_right = are;
  }

  -- the state that the home has left is there
  left_part : IsPart protocol.home (part waiting.by.state c.home.vars)
  left_part =
      let guard =
      home_guard protocol waiting.by.state waiting.by.guard is_waiting_home.rule proper
      is_waiting_home.there in
      record { within = guard.within; kinds = right.home_vars }

  -- a request crosses the home's own
  crossing_phase : (q : Request) (p : Part) → drop 1 now.up ≡ []
      → goes_down protocol asked.message ≡ true → CrossingPhase setting now q asked
      → first_of j (c.held ++ request_from j q.message q.value ∷ [])
      ≡ Some (request_from j q.message q.value)
      → IsInPhase setting
      (left_view setting c j
      (at_home (home_at c.home p) (c.held ++ request_from j q.message q.value ∷ []) None))
  crossing_phase q p up down (Crosses is) held = record {
    phase = RequestIsHeld q (Some asked);
    has = record {
      awaited = refl;
      up = up;
      down = is.has.down;
      slot = is.has.slot;
      held = ap (option_map held_request) held;
      owed = is.has.owed;
    };
    fits = (is.fits, down);
  }
  crossing_phase q p up down (Crossed is) held = record {
    phase = RequestIsHeld q None;
    has = record {
      awaited = refl;
      up = up;
      down = is.has.down;
      slot = is.has.slot;
      held = ap (option_map held_request) held;
      owed = is.has.owed;
    };
    fits = (is.fits, tt);
  }

  -- nothing is held of j where requests cross
  crossing_alone : (q : Request) → CrossingPhase setting now q asked → now.held ≡ None
  crossing_alone q (Crosses is) = is.has.held
  crossing_alone q (Crossed is) = is.has.held

  -- the phase where an answer has arrived
  heard_phase : (answer : Packet) (p : Part)
      → AnsweringPhase setting now asked answer (drop 1 now.up)
      → IsInPhase setting (left_view setting c j (at_home (home_at c.home p) c.held None))
  heard_phase answer p (AnswerAlone none is) = record {
    phase = Resting;
    has = record {
      awaited = refl;
      up = none;
      down = is.has.down;
      slot = is.has.slot;
      held = is.has.held;
      owed = is.has.owed;
    };
    fits = is.fits.0;
  }
  heard_phase answer p (AnswerFirst q behind is) = record {
    phase = RequestGoes q;
    has = record {
      awaited = refl;
      up = behind;
      down = is.has.down;
      slot = is.has.slot;
      held = is.has.held;
      owed = is.has.owed;
    };
    fits = is.fits.0;
  }

  -- in either phase of an answer the packet answers the request
  answers : (answer : Packet) → AnsweringPhase setting now asked answer (drop 1 now.up)
      → IsAnswerTo setting asked answer
  answers answer (AnswerAlone none is) = is.fits.1
  answers answer (AnswerFirst q behind is) = is.fits.1

  -- an answer has arrived, and the home is where this part stands
  heard_keeps : (answer : Packet) (p : Part)
      → first_packet now.up ≡ Some answer
      → AnsweringPhase setting now asked answer (drop 1 now.up) → IsPart protocol.home p
      → Keeps setting c j (at_home (home_at c.home p) c.held None)
  heard_keeps answer p first phase is = record {
    put = tt;
    whole = back_whole p c.held is right.held;
    alone = others_alone p c.held (λ q apart. refl);
    again =
        again_by setting c j (home_at c.home p) c.held case
        (typed_up setting c j case answer first).1 (heard_phase answer p phase);
  }

  -- where no request comes up first, j is in a phase of an answer
  answer_phase : (answer : Packet) → first_packet now.up ≡ Some answer → is_request answer ≡ false
      → AnsweringPhase setting now asked answer (drop 1 now.up)
  answer_phase answer first none =
      up_answer-phase setting now asked answer (drop 1 now.up) case.in_phase awaits none
      (comes_up setting c j case answer first)

  -- the remote on which the home waits is one of 64
  partner_below : waiting.on < 64
  partner_below =
      let below = below_64 setting c j right within in
      subst (λ (i : ℕ). i < 64) (sym on) below

  -- the home after an ack
  pub acked_home : IsAcked protocol.home c.home.vars waiting.by waiting.on
  acked_home =
      let output = message_out-output is_waiting_home.rule.kind is_waiting_home.message sent.out in
      home-acked protocol proper waiting.by is_waiting_home.rule c.home.vars waiting.on
      is_waiting_home.there output right.home_vars partner_below

  -- the home after a reply that arrives
  pub replied_home : (p : ℕ) (w : Value) → first_packet now.up ≡ Some (packet.Reply p w)
      → IsReplied protocol.home c.home.vars waiting.by waiting.on w
  replied_home p w first =
      let arrived = packet.Reply p w in
      let reply =
      is_answer-reply (reply_to setting is_waiting_home.message) p w
      (answers arrived (answer_phase arrived first refl)) in
      let typed = (typed_up setting c j case arrived first).0 in
      home-replied setting proper waiting.by is_waiting_home.rule is_waiting_home.message p reply w
      typed.value c.home.vars waiting.on is_waiting_home.there sent.out right.home_vars
      partner_below

  -- what comes up from the remote on which the home waits keeps the shape
  pub answered_keeps : (arrived : Packet) → first_packet now.up ≡ Some arrived
      → Keeps setting c j (up_answer protocol.home c.home c.held j waiting arrived)
  answered_keeps (packet.Request m w) first =
      let q = request_of (m, w) in
      let request = request_from j m w in
      let crosses =
      up_request-phase setting now asked q (drop 1 now.up) case.in_phase awaits
      (comes_up setting c j case (packet.Request m w) first) in
      let none = none_held setting c j (crossing_alone q crosses.1) in
      let typed = typed_up setting c j case (packet.Request m w) first in
      let down =
      home_output-down protocol waiting.by.state waiting.by.guard is_waiting_home.rule proper
      is_waiting_home.message is_waiting_home.there sent.out in
      let p = part waiting.by.state c.home.vars in
      let held = c.held ++ request ∷ [] in
      let are =
      AreHeld-push protocol setting.slots (count_of c) c.held request is_waiting_home.few_held
      within none typed.0 right.held in
      record {
        put = tt;
        whole = back_whole p held left_part are;
        alone = others_alone p held
            (λ other apart. first_of-push_other other c.held request (λ same. apart (sym same)));
        again =
            again_by setting c j (home_at c.home p) held case typed.1
            (crossing_phase q p crosses.0 down crosses.1 (first_of-push_own c.held request none));
      }
  answered_keeps packet.Ack first =
      let acked = acked_home in
      let back =
      ap (λ (o : Option Part). at_home (option_map_or (home_at c.home) o c.home) c.held None)
      acked.acked in
      subst (Keeps setting c j) (sym back)
      (heard_keeps packet.Ack acked.after first (answer_phase packet.Ack first refl) acked.part)
  answered_keeps packet.Nack first =
      heard_keeps packet.Nack (part waiting.by.state c.home.vars) first
      (answer_phase packet.Nack first refl) left_part
  answered_keeps (packet.Reply p w) first =
      let replied = replied_home p w first in
      let back =
      ap (λ (o : Option Part). at_home (option_map_or (home_at c.home) o c.home) c.held None)
      replied.replied in
      subst (Keeps setting c j) (sym back)
      (heard_keeps (packet.Reply p w) replied.after first
      (answer_phase (packet.Reply p w) first refl) replied.part)

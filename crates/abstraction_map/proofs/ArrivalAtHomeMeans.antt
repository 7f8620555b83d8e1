-- A packet that arrives at the home is a stutter: a home that waits on its sender does what the
-- abstraction did when the answer was put, and any other one keeps a request, or nacks one.
use Rattle.std.proofs.Common.{◌≡◌, ℕ, ◌<◌, ◌≤◌, false, drop, List, ◌∷◌, ◌++◌, [], length, Option}
use Rattle.std.proofs.Common.{Some, None, is_some, refl, sym, ap, subst, inl, inr, ◌∙◌, arith}
use Rattle.proto_model.specs.Proper.{IsProper}
use Rattle.proto_model.specs.Guards.{part}
use Rattle.slot_reserve.specs.Requests.{displaced}
use Rattle.slot_reserve.specs.declared.held.Held.{Held}
use Rattle.ordered_links.specs.Link.{Up, Down}
use Rattle.ordered_links.specs.Lists.{links_at, first_packet}
use Rattle.ordered_links.specs.declared.packet.Packet.{Packet}
use Rattle.ordered_links.specs.declared.packet.Packet.TheVariants as packet
use Rattle.async_shape.specs.Setting.{Setting}
use Rattle.async_shape.specs.Config.{Config, count_of}
use Rattle.async_shape.specs.Guards.{request_of}
use Rattle.async_shape.specs.Outcome.{Put, HomeOutcome, put_on, home_at}
use Rattle.async_shape.specs.HomeSteps.{request_from, held_crossing, up_answer, up_request}
use Rattle.async_shape.specs.HomeSteps.{up_other, up}
use Rattle.async_shape.specs.Next.{StepOutcome, links_put, config_after, home_moved, outcome}
use Rattle.async_shape.specs.View.{View, view_at}
use Rattle.async_shape.specs.Phase.{RequestsCross, RequestCrossed, AnswerGoes, AnswerThenRequestGo}
use Rattle.async_shape.specs.Phase.{as_packet, IsAnswerTo, Case}
use Rattle.async_shape.specs.Shape.{IsWaitingHome, IsHomePlace, IsWhole, IsShaped}
use Rattle.ordered_links.specs.Packets.{is_request}
use Rattle.async_shape.specs.declared.config.HomeState.{HomeState}
use Rattle.async_shape.specs.declared.config.HomePlace.TheVariants.{Waits}
use Rattle.async_shape.specs.declared.config.Request.{Request}
use Rattle.async_shape.specs.declared.config.Waiting.{Waiting}
use Rattle.async_shape.specs.declared.step.Step.TheVariants as step
use Rattle.proto_model.proofs.ProperFacts.{home_guard-gives}
use Rattle.async_shape.proofs.ShapeParts.{IsShaped-whole, IsShaped-case}
use Rattle.slot_reserve.proofs.HeldItems.{AllByRecursion-first_of}
use Rattle.slot_reserve.proofs.DisplacedOwn.{first_of-last}
use Rattle.async_shape.proofs.Completed.{awaits-request}
use Rattle.async_shape.proofs.ArrivalInversion.{IsReached, IsNotOn-awaited, up-by, up_request-by}
use Rattle.async_shape.proofs.StepInversion.{ArrivesUp, Up-outcome}
use Rattle.async_shape.proofs.Phases.{CrossingPhase, Crosses, Crossed, AnsweringPhase, AnswerAlone}
use Rattle.async_shape.proofs.Phases.{AnswerFirst, up_free-phase, up_request-phase, up_answer-phase}
use Rattle.async_shape.proofs.LinksAfter.{links_after-count}
use Rattle.async_shape.proofs.Phases.{first-rest}
use Rattle.abstraction_map.specs.Abstraction.{Fate, NotGranted, fate_in, is_due, remote_part}
use Rattle.abstraction_map.specs.Abstraction.{awaited_fate, abstraction}
use Rattle.abstraction_map.proofs.Fates.{fate_by, awaited_fate-is}
use Rattle.abstraction_map.proofs.ByCase.{part_heard, waiting_part-heard, home_answered-heard}
use Rattle.abstraction_map.proofs.ByCase.{home_stands, home-idle, home-waiting}
use Rattle.async_shape.proofs.ShapeParts.{links-there}
use Rattle.abstraction_map.proofs.Frames.{abstraction-same, abstraction-kept, LooksSame}
use Rattle.abstraction_map.proofs.Behind.{IsBehind}
use Rattle.abstraction_map.proofs.Heard.{Hears, home-hears}
use Rattle.abstraction_map.proofs.TakesAndNacks.{take_up-down, take_up-fate, PutsNoAnswer}
use Rattle.abstraction_map.proofs.TakesAndNacks.{put_nothing, put_nack}

module _ (setting : Setting) (proper : IsProper setting.protocol) (c : Config)
    (shaped : IsShaped setting c) (j : ℕ) (within : j < count_of c) where
  -- what is under way between the home and j
  abbrev now : View
  now = view_at setting.protocol c j

  -- the case of j
  case : Case setting now
  case = IsShaped-case setting c shaped j within

  -- the part for the whole
  whole : IsWhole setting c
  whole = IsShaped-whole setting c shaped

  -- j has links
  linked : j < length c.links
  linked = links-there setting c shaped j within

  -- the configuration where the packet is gone, and the home leaves this
  abbrev after : HomeOutcome → Config
  after left = config_after c (home_moved c (Some (Up j)) left)

  -- It is a stutter where the home leaves this.
  abbrev Stutters : HomeOutcome → Type 0
  Stutters left = abstraction setting.protocol (after left) ≡ abstraction setting.protocol c

  -- ---- the home waits on j

  module _ (waiting : Waiting) (waits : c.home.place ≡ Waits waiting) (on : waiting.on ≡ j) where
    -- the home waits as the shape says
    is_waiting_home : IsWaitingHome setting.protocol setting.slots (count_of c) c.home c.held
        waiting
    is_waiting_home =
        subst (IsHomePlace setting.protocol setting.slots (count_of c) c.home c.held) waits
        whole.home

    -- what the home waits for j to answer
    abbrev asked : Request
    asked = request_of (is_waiting_home.message, waiting.sent)

    -- what is known where this packet comes up first
    record IsHeard (arrived : Packet) : Type 0 where
      became : awaited_fate now ≡ fate_by arrived
      hears : Hears setting.protocol.home c.home.vars waiting.by j arrived

    -- Where the requests cross, the home's was not granted.
    crossing-became : (q : Request) → CrossingPhase setting now q asked
        → awaited_fate now ≡ NotGranted
    crossing-became q (Crosses is) = awaited_fate-is setting now (RequestsCross q asked) is
    crossing-became q (Crossed is) = awaited_fate-is setting now (RequestCrossed q asked) is

    -- Where an answer comes up first, it decides, and it answers what was asked.
    answer-became : (answer : Packet) (rest : List Packet)
        → AnsweringPhase setting now asked answer rest
        → (awaited_fate now ≡ fate_by answer) × IsAnswerTo setting asked answer
    answer-became answer rest (AnswerAlone none is) =
        (awaited_fate-is setting now (AnswerGoes asked answer) is, is.fits.1)
    answer-became answer rest (AnswerFirst q behind is) =
        (awaited_fate-is setting now (AnswerThenRequestGo q asked answer) is, is.fits.1)

    -- The home waits for j to answer it.
    awaits : now.awaited ≡ Some asked
    awaits = awaits-request setting c j waiting waits on is_waiting_home

    -- An answer decides, and the home hears it.
    heard-answer : (answer : Packet) → is_request answer ≡ false
        → first_packet now.up ≡ Some answer → IsHeard answer
    heard-answer answer none first =
        let by = waiting.by in
        let rest = drop 1 now.up in
        let is =
        answer-became answer rest
        (up_answer-phase setting now asked answer rest case.in_phase awaits none
        (first-rest now.up answer first)) in
        let gives =
        home_guard-gives setting.protocol by.state by.guard is_waiting_home.rule c.home.vars proper
        (is_waiting_home.message, waiting.sent) is_waiting_home.there whole.home_vars
        is_waiting_home.sends in
        record {
          became = is.0;
          hears =
              home-hears setting proper by is_waiting_home.rule is_waiting_home.message gives.out
              c.home.vars j answer is.1 is_waiting_home.there;
        }

    -- So does whatever comes up first; a request is an implicit nack.
    heard : (arrived : Packet) → first_packet now.up ≡ Some arrived → IsHeard arrived
    heard (packet.Request m v) first =
        let q = request_of (m, v) in
        let crosses =
        up_request-phase setting now asked q (drop 1 now.up) case.in_phase awaits
        (first-rest now.up (packet.Request m v) first) in
        record {
          became = crossing-became q crosses.1;
          hears = (part waiting.by.state c.home.vars, refl);
        }
    heard packet.Ack first = heard-answer packet.Ack refl first
    heard packet.Nack first = heard-answer packet.Nack refl first
    heard (packet.Reply p v) first = heard-answer (packet.Reply p v) refl first

    -- The home goes where it stood in the abstraction, and the remotes stand where they stood.
    answered-stutters : (arrived : Packet) → first_packet now.up ≡ Some arrived
        → Stutters (up_answer setting.protocol.home c.home c.held j waiting arrived)
    answered-stutters arrived first =
        let protocol = setting.protocol in
        let body = protocol.home in
        let is = heard arrived first in
        let stands = is.hears.0 in
        let held = held_crossing c.held j arrived in
        let left : HomeState → HomeOutcome =
        λ home. record { home = home; held = held; put = None; displaced_from = None } in
        let d = after (left (home_at c.home stands)) in
        let there : home_stands protocol c ≡ stands =
        home-waiting protocol c j waiting (fate_by arrived) waits on is.became
        ∙ waiting_part-heard body c.home.vars waiting.by j arrived stands is.hears.1 in
        let hears : part_heard body c.home.vars waiting.by waiting.on arrived ≡ Some stands =
        subst (λ (i : ℕ). part_heard body c.home.vars waiting.by i arrived ≡ Some stands) (sym on)
        is.hears.1 in
        subst (λ (home : HomeState). Stutters (left home))
        (sym (home_answered-heard body c.home waiting arrived stands hears))
        (abstraction-same protocol c d refl
        (home-idle protocol d stands.state refl ∙ sym there)
        (λ q.
        let v = view_at protocol c q in
        ap
        (λ (down : List Packet).
        remote_part protocol.remote v.remote.vars (fate_in down (is_some v.owed)) v.remote.place)
        (take_up-down c.links j q linked)))

  -- ---- the home doesn't wait on j, whose request arrives

  module _ (r : Request) (comes : now.up ≡ as_packet r ∷ drop 1 now.up) where
    -- The home stays, and puts no answer.
    stays-stutters : (held : List Held) (put : Option Put) (displaced : Option ℕ)
        → ((q : ℕ) → PutsNoAnswer c.links put q)
        → Stutters
        (record { home = c.home; held = held; put = put; displaced_from = displaced })
    stays-stutters held put displaced puts =
        let protocol = setting.protocol in
        let d =
        after (record { home = c.home; held = held; put = put; displaced_from = displaced }) in
        let links = links_put put c.links in
        let there : j < length links =
        subst (λ (n : ℕ). j < n) (sym (links_after-count put None c.links)) linked in
        let still : (links_at links j).up ≡ as_packet r ∷ drop 1 now.up = (puts j).up ∙ comes in
        abstraction-kept protocol c d refl refl refl
        (λ q.
        let v = view_at protocol c q in
        let looks : LooksSame protocol c d q = record {
          part =
              ap
              (λ (down : List Packet).
              remote_part protocol.remote v.remote.vars (fate_in down (is_some v.owed))
              v.remote.place) (take_up-down links j q there)
              ∙ ap
              (λ (f : Fate). remote_part protocol.remote v.remote.vars f v.remote.place)
              ((puts q).down (is_some v.owed));
          awaited =
              take_up-fate links j q r (drop 1 now.up) (is_due v.remote.place) there still
              ∙ ap (λ (up : List Packet). fate_in up (is_due v.remote.place)) (puts q).up;
        } in
        looks)

    -- The request is kept, with or without displacing another one, or it is nacked.
    request-stutters : Stutters
        (up_request setting (count_of c) c.home c.held (request_from j r.message r.value))
    request-stutters =
        let request = request_from j r.message r.value in
        let some : 1 ≤ setting.slots = let two = whole.some_slots in omega arith in
        elim (up_request-by setting (count_of c) c.home c.held request some) [
          | inl kept ↦
              subst Stutters (sym kept.outcome)
              (stays-stutters (c.held ++ request ∷ []) None None (put_nothing c.links))
          | inr others ↦ elim others [
            | inl displacing ↦
                let last = displacing.last in
                let found = first_of-last c.held last displacing.there whole.held.one_of_each in
                let from : last.from < count_of c =
                AllByRecursion-first_of (λ (h : Held). h.from < count_of c) last.from c.held last
                whole.held.senders found in
                let joined : last.from < length c.links =
                subst (λ (n : ℕ). last.from < n) (sym whole.links) from in
                subst Stutters (sym displacing.outcome)
                (stays-stutters (displaced c.held request) (put_on (Down last.from) packet.Nack)
                (Some last.from) (λ q. put_nack c.links last.from q joined))
            | inr refused ↦
                subst Stutters (sym refused.outcome)
                (stays-stutters c.held (put_on (Down j) packet.Nack) None
                (λ q. put_nack c.links j q linked))
          ]
        ]

  -- ---- whom the packet reaches

  -- Where the home doesn't wait on j, what comes up is a request.
  reached-stutters : (arrived : Packet) → first_packet now.up ≡ Some arrived
      → IsReached setting (count_of c) c.home c.held j arrived
      → Stutters (up setting (count_of c) c.home c.held j arrived)
  reached-stutters arrived first reached =
      let comes = first-rest now.up arrived first in
      let sends =
      up_free-phase setting now arrived (drop 1 now.up) case.in_phase
      (IsNotOn-awaited setting.protocol c.home j reached.not_on) comes in
      let r = sends.0 in
      subst Stutters
      (sym (reached.outcome
      ∙ ap (up_other setting (count_of c) c.home c.held j) sends.1))
      (request-stutters r (comes ∙ ap (λ (p : Packet). p ∷ drop 1 now.up) sends.1))

  -- what is behind the arrival
  Up-by : (left : HomeOutcome) → ArrivesUp setting c j left
      → IsBehind setting c (step.Up j) (home_moved c (Some (Up j)) left)
  Up-by left is =
      subst Stutters (sym is.outcome)
      (elim (up-by setting (count_of c) c.home c.held j is.arrived) [
        | inl answered ↦
            subst Stutters (sym answered.outcome)
            (answered-stutters answered.on.waiting answered.on.waits answered.on.on is.arrived
            is.first)
        | inr reached ↦ reached-stutters is.arrived is.first reached
      ])

-- A packet that arrives at the home is a stutter.
pub Up-means : (setting : Setting) → IsProper setting.protocol → (c : Config)
    → IsShaped setting c → (j : ℕ) (o : StepOutcome) → outcome setting c (step.Up j) ≡ Some o
    → IsBehind setting c (step.Up j) o
Up-means setting proper c shaped j o did =
    let at = Up-outcome setting c j o did in
    subst (IsBehind setting c (step.Up j)) (sym at.1.outcome)
    (Up-by setting proper c shaped j at.0 at.1.left at.1.is)

-- A step puts a packet only on a link that is there and has room for it: an up link has room for 2
-- packets, and a down link for 3. The put comes before the take, so this is said of the links
-- before the step.
use Rattle.std.proofs.Common.{◌≡◌, inl, inr, ℕ, ◌<◌, List, length, Option, Some, None}
use Rattle.std.proofs.Common.{refl, sym, ap, subst}
use Rattle.std.specs.Option.{option_map}
use Rattle.std.proofs.lemmas.Option.{get_or_from_slice_get}
use Rattle.proto_model.specs.Guards.{after_guard}
use Rattle.proto_model.specs.declared.rendezvous.Part.{Part}
use Rattle.controller_table.specs.declared.rows.Place.TheVariants.{Comm}
use Rattle.slot_reserve.specs.Requests.{first_of}
use Rattle.slot_reserve.specs.declared.held.Held.{Held}
use Rattle.ordered_links.specs.Link.{Link, Up, Down}
use Rattle.ordered_links.specs.Lists.{LinkPair, packets_on}
use Rattle.async_shape.specs.Setting.{Setting, reply_to}
use Rattle.async_shape.specs.Config.{Config, count_of}
use Rattle.async_shape.specs.Outcome.{Put, HomeOutcome, RemoteOutcome, home_at}
use Rattle.async_shape.specs.HomeSteps.{request_from, request_taken, up_request}
use Rattle.async_shape.specs.RemoteSteps.{answered}
use Rattle.async_shape.specs.Next.{StepOutcome, outcome}
use Rattle.async_shape.specs.View.{awaited_at, held_request, nobody, view_at}
use Rattle.async_shape.specs.Phase.{is_idle_place, Case}
use Rattle.async_shape.specs.Shape.{IsWhole, IsShaped}
use Rattle.async_shape.specs.declared.config.HomeState.{HomeState}
use Rattle.async_shape.specs.declared.config.HomePlace.{HomePlace}
use Rattle.async_shape.specs.declared.config.RemoteState.{RemoteState}
use Rattle.async_shape.specs.declared.step.Step.{Step}
use Rattle.async_shape.specs.declared.step.Step.TheVariants as step
use Rattle.slot_reserve.proofs.DisplacedOwn.{first_of-last}
use Rattle.slot_reserve.proofs.HeldItems.{AllByRecursion-first_of}
use Rattle.async_shape.proofs.HomeInversion.{TakesTau, TakesHeld, SendsTo, DropsHeld}
use Rattle.async_shape.proofs.ArrivalInversion.{Fate}
use Rattle.async_shape.proofs.RemoteInversion.{RemoteTakesTau, SendsRequest, AnswersRequest}
use Rattle.async_shape.proofs.RemoteInversion.{SendsReply, down-by}
use Rattle.async_shape.proofs.StepInversion.{HomeMoves, RemoteMoves, ArrivesUp, ArrivesDown}
use Rattle.async_shape.proofs.StepInversion.{HomeTau-outcome, HomeTake-outcome, HomeSend-outcome}
use Rattle.async_shape.proofs.StepInversion.{HomeDrop-outcome, RemoteTau-outcome}
use Rattle.async_shape.proofs.StepInversion.{RemoteSend-outcome, RemoteAnswer-outcome}
use Rattle.async_shape.proofs.StepInversion.{RemoteReply-outcome, Up-outcome, Down-outcome}
use Rattle.async_shape.proofs.Phases.{held-phase, owed-phase, due-phase, idle-phase, free-phase}
use Rattle.async_shape.proofs.LinkLengths.{room-idle, room-due, room-held, room-owed, room-goes}
use Rattle.async_shape.proofs.LinkLengths.{room-free}
use Rattle.async_shape.proofs.RequestArrives.{arrives-by}
use Rattle.async_shape.proofs.ShapeParts.{IsShaped-whole, IsShaped-case}

-- the link is there, and has room for one packet more
abbrev pub HasRoomOn : List LinkPair → Link → Type 0
HasRoomOn links (Up j) = (j < length links) × (length (packets_on (Up j) links) < 2)
HasRoomOn links (Down j) = (j < length links) × (length (packets_on (Down j) links) < 3)

-- there is room for what is put, if anything is
abbrev pub HasRoomFor : List LinkPair → Option Put → Type 0
HasRoomFor links None = Unit {0}
HasRoomFor links (Some put) = HasRoomOn links put.on

-- ---- what a step at the home puts

-- the home puts on a link only where there is room
abbrev Fits : Config → HomeOutcome → Type 0
Fits c left = HasRoomFor c.links left.put

-- a remote puts on a link only where there is room
abbrev FitsFrom : Config → RemoteOutcome → Type 0
FitsFrom c left = HasRoomFor c.links left.put

module _ (setting : Setting) (c : Config) (shaped : IsShaped setting c) where
  -- the part for the whole
  whole : IsWhole setting c
  whole = IsShaped-whole setting c shaped

  -- the case of remote j
  case_of : (j : ℕ) → j < count_of c → Case setting (view_at setting.protocol c j)
  case_of = IsShaped-case setting c shaped

  -- its links are there
  linked : (j : ℕ) → j < count_of c → j < length c.links
  linked j within = subst (λ (n : ℕ). j < n) (sym whole.links) within

  -- the down link of a remote whose request is held has room
  held_room : (j : ℕ) (request : Held) → j < count_of c → first_of j c.held ≡ Some request
      → HasRoomOn c.links (Down j)
  held_room j request within first =
      let v = view_at setting.protocol c j in
      let held =
      held-phase setting v (held_request request) (case_of j within).in_phase
      (ap (option_map held_request) first) in
      (linked j within, room-held setting v (held_request request) held.0 held.1)

  -- an ack of a request that was taken has room where the link has
  taken_room : (j : ℕ) (now : HomeState) (reply : Option ℕ) → HasRoomOn c.links (Down j)
      → Fits c (request_taken c.held j now reply)
  taken_room j now None room = room
  taken_room j now (Some p) room = tt

  -- nothing is put in a local step
  HomeTau-room : (g : ℕ) (left : HomeOutcome) → TakesTau setting c.home c.held g left → Fits c left
  HomeTau-room g left is = subst (Fits c) (sym is.outcome) tt

  -- an ack
  HomeTake-room : (j : ℕ) (left : HomeOutcome) → j < count_of c
      → TakesHeld setting (count_of c) c.home c.held j left → Fits c left
  HomeTake-room j left within is =
      let rule = is.guard.rule in
      let now =
      home_at c.home
      (after_guard setting.protocol.home c.home.vars rule rule.next j is.request.value) in
      subst (Fits c) (sym is.outcome)
      (taken_room j now (reply_to setting is.request.message)
      (held_room j is.request within is.first))

  -- a reply or a request
  HomeSend-room : (g j : ℕ) (left : HomeOutcome) → j < count_of c
      → SendsTo setting (count_of c) c.home c.held g j left → Fits c left
  HomeSend-room g j left within is =
      let v = view_at setting.protocol c j in
      let in_phase = (case_of j within).in_phase in
      elim is.how [
        | inl pays ↦
            let owed = owed-phase setting v is.message.0 in_phase pays.owed in
            let room : HasRoomOn c.links (Down j) =
            (linked j within, room-owed setting v owed.0 owed.1 is.message.0 owed.2) in
            subst (Fits c) (sym pays.outcome) room
        | inr asks ↦
            let awaits =
            ap (λ (place : HomePlace). awaited_at setting.protocol c.home place j) is.idle in
            let free =
            free-phase setting v in_phase awaits (ap (option_map held_request) asks.none_held)
            asks.owed in
            let room : HasRoomOn c.links (Down j) = (linked j within, room-free setting v free) in
            subst (Fits c) (sym asks.outcome) room
      ]

  -- a nack
  HomeDrop-room : (j : ℕ) (left : HomeOutcome) → j < count_of c
      → DropsHeld setting (count_of c) c.home c.held j left → Fits c left
  HomeDrop-room j left within is =
      subst (Fits c) (sym is.outcome) (held_room j is.request within is.first)

  -- ---- what the home puts where a packet arrives

  -- of a request of j that arrives, by what becomes of it
  request_room : (j : ℕ) (request : Held) → HasRoomOn c.links (Down j) → request.from ≡ j
      → Fate setting (count_of c) c.home c.held request
      → Fits c (up_request setting (count_of c) c.home c.held request)
  request_room j request room sender (inl kept) = subst (Fits c) (sym kept.outcome) tt
  request_room j request room sender (inr (inl displacing)) =
      let last = displacing.last in
      let first = first_of-last c.held last displacing.there whole.held.one_of_each in
      let there =
      AllByRecursion-first_of (λ (r : Held). r.from < count_of c) last.from c.held last
      whole.held.senders first in
      subst (Fits c) (sym displacing.outcome) (held_room last.from last there first)
  request_room j request room sender (inr (inr refused)) =
      subst (Fits c) (sym refused.outcome)
      (subst (λ (i : ℕ). HasRoomOn c.links (Down i)) (sym sender) room)

  -- nothing, or a nack
  Up-room : (j : ℕ) (left : HomeOutcome) → j < count_of c → ArrivesUp setting c j left → Fits c left
  Up-room j left within is = elim (arrives-by setting c shaped j within left is) [
    | inl answers ↦ subst (Fits c) (sym answers.outcome) tt
    | inr requests ↦
        let q = requests.q in
        let v = view_at setting.protocol c j in
        let room : HasRoomOn c.links (Down j) =
        (linked j within, room-goes setting v q requests.goes) in
        subst (Fits c) (sym requests.outcome)
        (request_room j (request_from j q.message q.value) room refl requests.fate)
  ]

  -- ---- what a step at a remote puts

  -- the up link of an idle remote has room
  idle_room : (j state : ℕ) → j < count_of c
      → (view_at setting.protocol c j).remote.place ≡ Comm state → HasRoomOn c.links (Up j)
  idle_room j state within idle =
      let v = view_at setting.protocol c j in
      let phase = idle-phase setting v (case_of j within).in_phase (ap is_idle_place idle) in
      (linked j within, room-idle setting v phase)

  -- an ack has room where the link has
  answered_room : (j : ℕ) (p : Part) (reply : Option ℕ) → HasRoomOn c.links (Up j)
      → FitsFrom c (answered j p reply)
  answered_room j p None room = room
  answered_room j p (Some q) room = tt

  -- the remote of the view of j
  abbrev remote_of : ℕ → RemoteState
  remote_of j = (view_at setting.protocol c j).remote

  -- nothing is put in a local step
  RemoteTau-room : (j g : ℕ) (left : RemoteOutcome)
      → RemoteTakesTau setting (remote_of j) g left → FitsFrom c left
  RemoteTau-room j g left is = subst (FitsFrom c) (sym is.outcome) tt

  -- a request
  RemoteSend-room : (j : ℕ) (left : RemoteOutcome) → j < count_of c
      → SendsRequest setting j (remote_of j) left → FitsFrom c left
  RemoteSend-room j left within is =
      subst (FitsFrom c) (sym is.outcome) (idle_room j is.state within is.idle)

  -- an ack or a nack
  RemoteAnswer-room : (j : ℕ) (left : RemoteOutcome) → j < count_of c
      → AnswersRequest setting j (remote_of j) left → FitsFrom c left
  RemoteAnswer-room j left within is =
      let room = idle_room j is.state within is.idle in
      elim is.how [
        | inl nacks ↦ subst (FitsFrom c) (sym nacks.outcome) room
        | inr answers ↦
            let rule = answers.guard.rule in
            let now =
            after_guard setting.protocol.remote (remote_of j).vars rule rule.next 0
            is.request.value in
            subst (FitsFrom c) (sym answers.outcome)
            (answered_room j now (reply_to setting is.request.message) room)
      ]

  -- a reply
  RemoteReply-room : (j : ℕ) (left : RemoteOutcome) → j < count_of c
      → SendsReply setting j (remote_of j) left → FitsFrom c left
  RemoteReply-room j left within is =
      let v = view_at setting.protocol c j in
      let due = due-phase setting v is.guard (case_of j within).in_phase is.due in
      let room : HasRoomOn c.links (Up j) = (linked j within, room-due setting v due.0 due.1) in
      subst (FitsFrom c) (sym is.outcome) room

  -- nothing is put where a packet arrives at a remote
  Down-room : (j : ℕ) (left : RemoteOutcome) → ArrivesDown setting c j (remote_of j) left
      → FitsFrom c left
  Down-room j left is =
      subst (FitsFrom c) (sym is.outcome)
      (elim (down-by setting (remote_of j) is.arrived) [
        | inl idle ↦ subst (FitsFrom c) (sym idle.outcome) tt
        | inr others ↦ elim others [
          | inl waiting ↦ subst (FitsFrom c) (sym waiting.outcome) tt
          | inr due ↦ subst (FitsFrom c) (sym due.outcome) tt
        ]
      ])

  -- ---- all steps

  -- what the step does puts only where there is room
  abbrev FitsIn : StepOutcome → Type 0
  FitsIn o = HasRoomFor c.links o.put

  -- of a step at the home, by what it leaves there
  home_fits : (link : Option Link) (P : HomeOutcome → Type 0) (o : StepOutcome)
      → HomeMoves c link P o → ((left : HomeOutcome) → P left → Fits c left) → FitsIn o
  home_fits link P o moves fits =
      subst FitsIn (sym moves.outcome) (fits moves.left moves.is)

  -- of a step at a remote, by what it leaves there
  remote_fits : (link : Option Link) (j : ℕ) (P : RemoteState → RemoteOutcome → Type 0)
      (o : StepOutcome) → RemoteMoves c link j P o
      → ((left : RemoteOutcome) → j < count_of c → P (remote_of j) left → FitsFrom c left)
      → FitsIn o
  remote_fits link j P o moves fits =
      let same = get_or_from_slice_get c.remotes j moves.remote nobody moves.there in
      let is : P (remote_of j) moves.left =
      subst (λ (r : RemoteState). P r moves.left) (sym same) moves.is in
      subst FitsIn (sym moves.outcome) (fits moves.left moves.within is)

  -- Where a step puts a packet, there is room for it.
  pub put-room : (s : Step) (o : StepOutcome) → outcome setting c s ≡ Some o
      → HasRoomFor c.links o.put
  put-room (step.HomeTau g) o did =
      home_fits None (TakesTau setting c.home c.held g) o (HomeTau-outcome setting c g o did)
      (HomeTau-room g)
  put-room (step.HomeTake j) o did =
      let at = HomeTake-outcome setting c j o did in
      home_fits None (TakesHeld setting (count_of c) c.home c.held j) o at.1
      (λ left is. HomeTake-room j left at.0 is)
  put-room (step.HomeSend g j) o did =
      let at = HomeSend-outcome setting c g j o did in
      home_fits None (SendsTo setting (count_of c) c.home c.held g j) o at.1
      (λ left is. HomeSend-room g j left at.0 is)
  put-room (step.HomeDrop j) o did =
      let at = HomeDrop-outcome setting c j o did in
      home_fits None (DropsHeld setting (count_of c) c.home c.held j) o at.1
      (λ left is. HomeDrop-room j left at.0 is)
  put-room (step.RemoteTau j g) o did =
      remote_fits None j (λ remote left. RemoteTakesTau setting remote g left) o
      (RemoteTau-outcome setting c j g o did) (λ left within is. RemoteTau-room j g left is)
  put-room (step.RemoteSend j) o did =
      remote_fits None j (SendsRequest setting j) o (RemoteSend-outcome setting c j o did)
      (RemoteSend-room j)
  put-room (step.RemoteAnswer j) o did =
      remote_fits None j (AnswersRequest setting j) o (RemoteAnswer-outcome setting c j o did)
      (RemoteAnswer-room j)
  put-room (step.RemoteReply j) o did =
      remote_fits None j (SendsReply setting j) o (RemoteReply-outcome setting c j o did)
      (RemoteReply-room j)
  put-room (step.Up j) o did =
      let at = Up-outcome setting c j o did in
      home_fits (Some (Up j)) (ArrivesUp setting c j) o at.1 (λ left is. Up-room j left at.0 is)
  put-room (step.Down j) o did =
      remote_fits (Some (Down j)) j (ArrivesDown setting c j) o (Down-outcome setting c j o did)
      (λ left within is. Down-room j left is)

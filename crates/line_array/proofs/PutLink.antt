-- A step puts a packet only on the one link on which it may, and this isn't the link from which it
-- takes one.
use Rattle.std.proofs.Common.{◌≡◌, inl, inr, ℕ, ◌<◌, false, List, Option, Some, None}
use Rattle.std.proofs.Common.{refl, sym, ap, subst, unwrap_or}
use Rattle.std.specs.Option.{option_and_then}
use Rattle.ordered_links.specs.Link.{Link, Up, Down}
use Rattle.slot_reserve.specs.declared.held.Held.{Held}
use Rattle.async_shape.specs.Setting.{Setting}
use Rattle.async_shape.specs.Config.{Config, count_of}
use Rattle.async_shape.specs.Site.{site, arrival_link}
use Rattle.async_shape.specs.Outcome.{Put, HomeOutcome, RemoteOutcome}
use Rattle.async_shape.specs.HomeSteps.{request_from, request_taken, up_request}
use Rattle.async_shape.specs.RemoteSteps.{answered}
use Rattle.async_shape.specs.Next.{StepOutcome, outcome}
use Rattle.async_shape.specs.Shape.{IsShaped}
use Rattle.async_shape.specs.declared.config.HomeState.{HomeState}
use Rattle.async_shape.specs.declared.config.RemoteState.{RemoteState}
use Rattle.async_shape.specs.declared.step.Step.{Step}
use Rattle.async_shape.specs.declared.step.Step.TheVariants as step
use Rattle.proto_model.specs.declared.rendezvous.Part.{Part}
use Rattle.async_shape.proofs.HomeInversion.{TakesTau, TakesHeld, SendsTo, DropsHeld}
use Rattle.async_shape.proofs.ArrivalInversion.{Fate}
use Rattle.async_shape.proofs.RemoteInversion.{RemoteTakesTau, SendsRequest, AnswersRequest}
use Rattle.async_shape.proofs.RemoteInversion.{SendsReply, down-by}
use Rattle.async_shape.proofs.StepInversion.{HomeMoves, RemoteMoves, ArrivesUp, ArrivesDown}
use Rattle.async_shape.proofs.StepInversion.{HomeTau-outcome, HomeTake-outcome, HomeSend-outcome}
use Rattle.async_shape.proofs.StepInversion.{HomeDrop-outcome, RemoteTau-outcome}
use Rattle.async_shape.proofs.StepInversion.{RemoteSend-outcome, RemoteAnswer-outcome}
use Rattle.async_shape.proofs.StepInversion.{RemoteReply-outcome, Up-outcome, Down-outcome}
use Rattle.async_shape.proofs.RequestArrives.{arrives-by}
use Rattle.line_array.specs.Carried.{is_link}
use Rattle.line_array.specs.Noted.{may_put, may_put_in}

-- what is put, if anything, is put on this link
abbrev pub IsPutThere : Option Link → Option Put → Type 0
IsPutThere link None = Unit {0}
IsPutThere link (Some put) = link ≡ Some put.on

-- what a step at the home puts is put on this link
abbrev PutsFrom : Option Link → HomeOutcome → Type 0
PutsFrom link left = IsPutThere link left.put

-- what a step at a remote puts is put on this link
abbrev PutsUp : Option Link → RemoteOutcome → Type 0
PutsUp link left = IsPutThere link left.put

-- where a packet of j arrives, a nack goes to the sender of the request that is displaced, or to j
abbrev PutsBack : ℕ → HomeOutcome → Type 0
PutsBack j left = IsPutThere (Some (Down (unwrap_or left.displaced_from j))) left.put

-- an ack of a request that was taken
taken-there : (held : List Held) (j : ℕ) (now : HomeState) (reply : Option ℕ)
    → PutsFrom (Some (Down j)) (request_taken held j now reply)
taken-there held j now None = refl
taken-there held j now (Some p) = tt

-- an ack of a request that a remote answered
answered-there : (j : ℕ) (p : Part) (reply : Option ℕ) → PutsUp (Some (Up j)) (answered j p reply)
answered-there j p None = refl
answered-there j p (Some q) = tt

module _ (setting : Setting) (c : Config) where
  -- ---- what the home puts

  HomeTau-there : (g : ℕ) (left : HomeOutcome) → TakesTau setting c.home c.held g left
      → PutsFrom None left
  HomeTau-there g left is = subst (PutsFrom None) (sym is.outcome) tt

  HomeTake-there : (j : ℕ) (left : HomeOutcome)
      → TakesHeld setting (count_of c) c.home c.held j left → PutsFrom (Some (Down j)) left
  HomeTake-there j left is =
      subst (PutsFrom (Some (Down j))) (sym is.outcome) (taken-there c.held j _ _)

  HomeSend-there : (g j : ℕ) (left : HomeOutcome)
      → SendsTo setting (count_of c) c.home c.held g j left → PutsFrom (Some (Down j)) left
  HomeSend-there g j left is = elim is.how [
    | inl pays ↦ subst (PutsFrom (Some (Down j))) (sym pays.outcome) refl
    | inr asks ↦ subst (PutsFrom (Some (Down j))) (sym asks.outcome) refl
  ]

  HomeDrop-there : (j : ℕ) (left : HomeOutcome)
      → DropsHeld setting (count_of c) c.home c.held j left → PutsFrom (Some (Down j)) left
  HomeDrop-there j left is = subst (PutsFrom (Some (Down j))) (sym is.outcome) refl

  -- by what becomes of the request of j that arrives
  request-there : (j : ℕ) (request : Held) → request.from ≡ j
      → Fate setting (count_of c) c.home c.held request
      → PutsBack j (up_request setting (count_of c) c.home c.held request)
  request-there j request sender (inl kept) = subst (PutsBack j) (sym kept.outcome) tt
  request-there j request sender (inr (inl displacing)) =
      subst (PutsBack j) (sym displacing.outcome) refl
  request-there j request sender (inr (inr refused)) =
      subst (PutsBack j) (sym refused.outcome) (ap (λ (i : ℕ). Some (Down i)) (sym sender))

  Up-there : IsShaped setting c → (j : ℕ) (left : HomeOutcome) → j < count_of c
      → ArrivesUp setting c j left → PutsBack j left
  Up-there shaped j left within is = elim (arrives-by setting c shaped j within left is) [
    | inl answers ↦ subst (PutsBack j) (sym answers.outcome) tt
    | inr requests ↦
        let q = requests.q in
        subst (PutsBack j) (sym requests.outcome)
        (request-there j (request_from j q.message q.value) refl requests.fate)
  ]

  -- ---- what a remote puts

  RemoteTau-there : (j g : ℕ) (remote : RemoteState) (left : RemoteOutcome)
      → RemoteTakesTau setting remote g left → PutsUp None left
  RemoteTau-there j g remote left is = subst (PutsUp None) (sym is.outcome) tt

  RemoteSend-there : (j : ℕ) (remote : RemoteState) (left : RemoteOutcome)
      → SendsRequest setting j remote left → PutsUp (Some (Up j)) left
  RemoteSend-there j remote left is = subst (PutsUp (Some (Up j))) (sym is.outcome) refl

  RemoteAnswer-there : (j : ℕ) (remote : RemoteState) (left : RemoteOutcome)
      → AnswersRequest setting j remote left → PutsUp (Some (Up j)) left
  RemoteAnswer-there j remote left is = elim is.how [
    | inl nacks ↦ subst (PutsUp (Some (Up j))) (sym nacks.outcome) refl
    | inr answers ↦
        subst (PutsUp (Some (Up j))) (sym answers.outcome) (answered-there j _ _)
  ]

  RemoteReply-there : (j : ℕ) (remote : RemoteState) (left : RemoteOutcome)
      → SendsReply setting j remote left → PutsUp (Some (Up j)) left
  RemoteReply-there j remote left is = subst (PutsUp (Some (Up j))) (sym is.outcome) refl

  Down-there : (j : ℕ) (remote : RemoteState) (left : RemoteOutcome)
      → ArrivesDown setting c j remote left → PutsUp None left
  Down-there j remote left is =
      subst (PutsUp None) (sym is.outcome)
      (elim (down-by setting remote is.arrived) [
        | inl idle ↦ subst (PutsUp None) (sym idle.outcome) tt
        | inr others ↦ elim others [
          | inl waiting ↦ subst (PutsUp None) (sym waiting.outcome) tt
          | inr due ↦ subst (PutsUp None) (sym due.outcome) tt
        ]
      ])

  -- ---- all steps

  -- what the step does puts only there
  abbrev PutsThere : Option Link → StepOutcome → Type 0
  PutsThere link o = IsPutThere link o.put

  -- of a step at the home, by what it leaves there
  home-there : (from : Option Link) (link : Option Link) (P : HomeOutcome → Type 0)
      (o : StepOutcome) → HomeMoves c from P o
      → ((left : HomeOutcome) → P left → PutsFrom link left) → PutsThere link o
  home-there from link P o moves there =
      subst (PutsThere link) (sym moves.outcome) (there moves.left moves.is)

  -- of a step at a remote, by what it leaves there
  remote-there : (from : Option Link) (j : ℕ) (link : Option Link)
      (P : RemoteState → RemoteOutcome → Type 0) (o : StepOutcome) → RemoteMoves c from j P o
      → ((remote : RemoteState) (left : RemoteOutcome) → P remote left → PutsUp link left)
      → PutsThere link o
  remote-there from j link P o moves there =
      subst (PutsThere link) (sym moves.outcome) (there moves.remote moves.left moves.is)

  -- of an arrival at the home
  arrival-there : (j : ℕ) (o : StepOutcome)
      → HomeMoves c (Some (Up j)) (ArrivesUp setting c j) o
      → ((left : HomeOutcome) → ArrivesUp setting c j left → PutsBack j left)
      → PutsThere (may_put o.displaced_from (step.Up j)) o
  arrival-there j o moves there =
      subst (λ (o : StepOutcome). PutsThere (may_put o.displaced_from (step.Up j)) o)
      (sym moves.outcome) (there moves.left moves.is)

  -- A step puts a packet only on the link on which it may.
  pub put-there : IsShaped setting c → (s : Step) (o : StepOutcome)
      → outcome setting c s ≡ Some o → PutsThere (may_put o.displaced_from s) o
  put-there shaped (step.HomeTau g) o did =
      home-there None None _ o (HomeTau-outcome setting c g o did) (HomeTau-there g)
  put-there shaped (step.HomeTake j) o did =
      home-there None (Some (Down j)) _ o (HomeTake-outcome setting c j o did).1 (HomeTake-there j)
  put-there shaped (step.HomeSend g j) o did =
      home-there None (Some (Down j)) _ o (HomeSend-outcome setting c g j o did).1
      (HomeSend-there g j)
  put-there shaped (step.HomeDrop j) o did =
      home-there None (Some (Down j)) _ o (HomeDrop-outcome setting c j o did).1 (HomeDrop-there j)
  put-there shaped (step.RemoteTau j g) o did =
      remote-there None j None _ o (RemoteTau-outcome setting c j g o did) (RemoteTau-there j g)
  put-there shaped (step.RemoteSend j) o did =
      remote-there None j (Some (Up j)) _ o (RemoteSend-outcome setting c j o did)
      (RemoteSend-there j)
  put-there shaped (step.RemoteAnswer j) o did =
      remote-there None j (Some (Up j)) _ o (RemoteAnswer-outcome setting c j o did)
      (RemoteAnswer-there j)
  put-there shaped (step.RemoteReply j) o did =
      remote-there None j (Some (Up j)) _ o (RemoteReply-outcome setting c j o did)
      (RemoteReply-there j)
  put-there shaped (step.Up j) o did =
      let at = Up-outcome setting c j o did in
      arrival-there j o at.1 (λ left is. Up-there shaped j left at.0 is)
  put-there shaped (step.Down j) o did =
      remote-there _ j None _ o (Down-outcome setting c j o did) (Down-there j)

  -- So it is in the configuration.
  pub put-may : IsShaped setting c → (s : Step) (o : StepOutcome)
      → outcome setting c s ≡ Some o → IsPutThere (may_put_in setting c s) o.put
  put-may shaped s o did =
      subst (λ (d : Option ℕ). IsPutThere (may_put d s) o.put)
      (sym (ap (λ (o : Option StepOutcome). option_and_then (λ o. o.displaced_from) o) did))
      (put-there shaped s o did)

-- A step takes nothing from the link on which it may put a packet.
pub may_put-apart : (displaced : Option ℕ) (s : Step) (on from : Link)
    → may_put displaced s ≡ Some on → arrival_link (site s) ≡ Some from → is_link on from ≡ false
may_put-apart displaced (step.HomeTau g) on from may takes = absurd (cc)
may_put-apart displaced (step.HomeTake j) on from may takes = absurd (cc)
may_put-apart displaced (step.HomeSend g j) on from may takes = absurd (cc)
may_put-apart displaced (step.HomeDrop j) on from may takes = absurd (cc)
may_put-apart displaced (step.RemoteTau j g) on from may takes = absurd (cc)
may_put-apart displaced (step.RemoteSend j) on from may takes = absurd (cc)
may_put-apart displaced (step.RemoteAnswer j) on from may takes = absurd (cc)
may_put-apart displaced (step.RemoteReply j) on from may takes = absurd (cc)
may_put-apart displaced (step.Up j) on from may takes =
    let is_down : Down (unwrap_or displaced j) ≡ on = cc in
    let is_up : Up j ≡ from = cc in
    rw (← is_down, ← is_up) refl
may_put-apart displaced (step.Down j) on from may takes = absurd (cc)

module _ (setting : Setting) (c : Config) where
  -- a step at the home takes from this link
  home-takes : (from : Option Link) (P : HomeOutcome → Type 0) (o : StepOutcome)
      → HomeMoves c from P o → o.takes_from ≡ from
  home-takes from P o moves = ap (λ (o : StepOutcome). o.takes_from) moves.outcome

  -- a step at a remote takes from this link
  remote-takes : (from : Option Link) (j : ℕ) (P : RemoteState → RemoteOutcome → Type 0)
      (o : StepOutcome) → RemoteMoves c from j P o → o.takes_from ≡ from
  remote-takes from j P o moves = ap (λ (o : StepOutcome). o.takes_from) moves.outcome

  -- A step takes a packet from the link of its site, if that is one.
  pub takes-there : (s : Step) (o : StepOutcome) → outcome setting c s ≡ Some o
      → o.takes_from ≡ arrival_link (site s)
  takes-there (step.HomeTau g) o did = home-takes None _ o (HomeTau-outcome setting c g o did)
  takes-there (step.HomeTake j) o did = home-takes None _ o (HomeTake-outcome setting c j o did).1
  takes-there (step.HomeSend g j) o did =
      home-takes None _ o (HomeSend-outcome setting c g j o did).1
  takes-there (step.HomeDrop j) o did = home-takes None _ o (HomeDrop-outcome setting c j o did).1
  takes-there (step.RemoteTau j g) o did =
      remote-takes None j _ o (RemoteTau-outcome setting c j g o did)
  takes-there (step.RemoteSend j) o did =
      remote-takes None j _ o (RemoteSend-outcome setting c j o did)
  takes-there (step.RemoteAnswer j) o did =
      remote-takes None j _ o (RemoteAnswer-outcome setting c j o did)
  takes-there (step.RemoteReply j) o did =
      remote-takes None j _ o (RemoteReply-outcome setting c j o did)
  takes-there (step.Up j) o did = home-takes _ _ o (Up-outcome setting c j o did).1
  takes-there (step.Down j) o did = remote-takes _ j _ o (Down-outcome setting c j o did)

-- What is known of an enabled step, kind by kind: what the process did that made it, and what the
-- step did to the whole.
use Rattle.std.proofs.Common.{◌≡◌, ℕ, ◌<◌, Option, Some, None, slice_get, nat_lt}
use Rattle.std.proofs.Common.{refl, sym, if◌then◌else◌}
use Rattle.std.specs.Option.{option_map}
use Rattle.std.proofs.lemmas.Bool.{ltb-true}
use Rattle.rv_base.proofs.Lists.{some_map, some_and_then}
use Rattle.ordered_links.specs.Link.{Link, Up, Down}
use Rattle.ordered_links.specs.Lists.{packets_on, first_packet}
use Rattle.ordered_links.specs.declared.packet.Packet.{Packet}
use Rattle.async_shape.specs.Setting.{Setting}
use Rattle.async_shape.specs.Config.{Config, count_of}
use Rattle.async_shape.specs.Outcome.{HomeOutcome, RemoteOutcome}
use Rattle.async_shape.specs.HomeSteps.{home_tau, home_take, home_send, home_drop, up}
use Rattle.async_shape.specs.RemoteSteps.{remote_tau, remote_send, remote_answer, remote_reply}
use Rattle.async_shape.specs.RemoteSteps.{down}
use Rattle.async_shape.specs.Next.{StepOutcome, arrival, config_after, home_moved, remote_moved}
use Rattle.async_shape.specs.Next.{remote_moves, outcome, next}
use Rattle.async_shape.specs.declared.config.RemoteState.{RemoteState}
use Rattle.async_shape.specs.declared.step.Step.{Step}
use Rattle.async_shape.specs.declared.step.Step.TheVariants as step
use Rattle.async_shape.proofs.GuardsFound.{when_some}
use Rattle.async_shape.proofs.HomeInversion.{TakesTau, home_tau-some, TakesHeld, home_take-some}
use Rattle.async_shape.proofs.HomeInversion.{SendsTo, home_send-some, DropsHeld, home_drop-some}
use Rattle.async_shape.proofs.RemoteInversion.{RemoteTakesTau, remote_tau-some, SendsRequest}
use Rattle.async_shape.proofs.RemoteInversion.{remote_send-some, AnswersRequest, remote_answer-some}
use Rattle.async_shape.proofs.RemoteInversion.{SendsReply, remote_reply-some}

-- A step at the home, which takes a packet from this link, if from any: of what it leaves there P
-- holds.
pub record HomeMoves (c : Config) (link : Option Link) (P : HomeOutcome → Type 0) (o : StepOutcome)
    : Type 0 where
  pub left : HomeOutcome
  pub is : P left
  pub outcome : o ≡ home_moved c link left

-- A step at remote j, which takes a packet from this link, if from any: of the remote, and of what
-- the step leaves there, P holds.
pub record RemoteMoves (c : Config) (link : Option Link) (j : ℕ)
    (P : RemoteState → RemoteOutcome → Type 0) (o : StepOutcome) : Type 0 where
  pub within : j < count_of c
  pub remote : RemoteState
  pub there : slice_get c.remotes j ≡ Some remote
  pub left : RemoteOutcome
  pub is : P remote left
  pub outcome : o ≡ remote_moved c link j left

-- The first packet on the up link of j arrives at the home; `up-by` says what the home does.
pub record ArrivesUp (setting : Setting) (c : Config) (j : ℕ) (left : HomeOutcome) : Type 0 where
  pub arrived : Packet
  pub first : first_packet (packets_on (Up j) c.links) ≡ Some arrived
  pub outcome : left ≡ up setting (count_of c) c.home c.held j arrived

-- The first packet on the down link of j arrives at the remote; `down-by` says what it does.
pub record ArrivesDown (setting : Setting) (c : Config) (j : ℕ) (remote : RemoteState)
    (left : RemoteOutcome) : Type 0 where
  pub arrived : Packet
  pub first : first_packet (packets_on (Down j) c.links) ≡ Some arrived
  pub outcome : left ≡ down setting remote arrived

module _ (c : Config) (link : Option Link) where
  -- a step at the home leaves what the home does
  home_moves : (P : HomeOutcome → Type 0) (does : Option HomeOutcome) (o : StepOutcome)
      → ((left : HomeOutcome) → does ≡ Some left → P left)
      → option_map (home_moved c link) does ≡ Some o → HomeMoves c link P o
  home_moves P does o says did =
      let by = some_map (home_moved c link) does o did in
      record { left = by.0; is = says by.0 by.1; outcome = sym by.2 }

  -- a step at a remote leaves what the remote does, which is there
  remote_moves-some : (j : ℕ) (P : RemoteState → RemoteOutcome → Type 0)
      (does : RemoteState → Option RemoteOutcome) (o : StepOutcome) → j < count_of c
      → ((remote : RemoteState) (left : RemoteOutcome) → does remote ≡ Some left → P remote left)
      → remote_moves c link j does ≡ Some o → RemoteMoves c link j P o
  remote_moves-some j P does o within says did =
      let of =
      some_and_then (λ remote. option_map (remote_moved c link j) (does remote))
      (slice_get c.remotes j) o did in
      let by = some_map (remote_moved c link j) (does of.0) o of.2 in
      record {
        within = within;
        remote = of.0;
        there = of.1;
        left = by.0;
        is = says of.0 by.0 by.1;
        outcome = sym by.2;
      }

-- A step that names remote j is enabled only where j is there.
named : (c : Config) (j : ℕ) (does : Option StepOutcome) (o : StepOutcome)
    → (if nat_lt j (count_of c) then does else None) ≡ Some o
    → (j < count_of c) × (does ≡ Some o)
named c j does o did =
    let by = when_some (nat_lt j (count_of c)) does o did in
    (ltb-true j (count_of c) by.0, by.1)

-- the next configuration is the one that the outcome leaves
pub next-outcome : (setting : Setting) (c d : Config) (s : Step) → next setting c s ≡ Some d
    → (o : StepOutcome) × (outcome setting c s ≡ Some o) × (d ≡ config_after c o)
next-outcome setting c d s did =
    let by = some_map (config_after c) (outcome setting c s) d did in (by.0, by.1, sym by.2)

module _ (setting : Setting) (c : Config) where
  -- ---- at the home

  -- a local step of the home
  pub HomeTau-outcome : (g : ℕ) (o : StepOutcome) → outcome setting c (step.HomeTau g) ≡ Some o
      → HomeMoves c None (TakesTau setting c.home c.held g) o
  HomeTau-outcome g o did =
      home_moves c None (TakesTau setting c.home c.held g) (home_tau setting c.home c.held g) o
      (home_tau-some setting c.home c.held g) did

  -- a request that is taken
  pub HomeTake-outcome : (j : ℕ) (o : StepOutcome) → outcome setting c (step.HomeTake j) ≡ Some o
      → (j < count_of c) × HomeMoves c None (TakesHeld setting (count_of c) c.home c.held j) o
  HomeTake-outcome j o did =
      let n = count_of c in
      let does = home_take setting n c.home c.held j in
      let at = named c j (option_map (home_moved c None) does) o did in (
        at.0,
        home_moves c None (TakesHeld setting n c.home c.held j) does o
            (home_take-some setting n c.home c.held j) at.1,
      )

  -- an output of the home
  pub HomeSend-outcome : (g j : ℕ) (o : StepOutcome)
      → outcome setting c (step.HomeSend g j) ≡ Some o
      → (j < count_of c) × HomeMoves c None (SendsTo setting (count_of c) c.home c.held g j) o
  HomeSend-outcome g j o did =
      let n = count_of c in
      let does = home_send setting n c.home c.held g j in
      let at = named c j (option_map (home_moved c None) does) o did in (
        at.0,
        home_moves c None (SendsTo setting n c.home c.held g j) does o
            (home_send-some setting n c.home c.held g j) at.1,
      )

  -- a request that is dropped
  pub HomeDrop-outcome : (j : ℕ) (o : StepOutcome) → outcome setting c (step.HomeDrop j) ≡ Some o
      → (j < count_of c) × HomeMoves c None (DropsHeld setting (count_of c) c.home c.held j) o
  HomeDrop-outcome j o did =
      let n = count_of c in
      let does = home_drop setting n c.home c.held j in
      let at = named c j (option_map (home_moved c None) does) o did in (
        at.0,
        home_moves c None (DropsHeld setting n c.home c.held j) does o
            (home_drop-some setting n c.home c.held j) at.1,
      )

  -- ---- at a remote

  -- a local step of a remote
  pub RemoteTau-outcome : (j g : ℕ) (o : StepOutcome)
      → outcome setting c (step.RemoteTau j g) ≡ Some o
      → RemoteMoves c None j (λ remote left. RemoteTakesTau setting remote g left) o
  RemoteTau-outcome j g o did =
      let does : RemoteState → Option RemoteOutcome = λ remote. remote_tau setting remote g in
      let at = named c j (remote_moves c None j does) o did in
      remote_moves-some c None j (λ remote left. RemoteTakesTau setting remote g left) does o at.0
      (λ remote left. remote_tau-some setting remote g left) at.1

  -- a request of a remote
  pub RemoteSend-outcome : (j : ℕ) (o : StepOutcome)
      → outcome setting c (step.RemoteSend j) ≡ Some o
      → RemoteMoves c None j (SendsRequest setting j) o
  RemoteSend-outcome j o did =
      let at = named c j (remote_moves c None j (remote_send setting j)) o did in
      remote_moves-some c None j (SendsRequest setting j) (remote_send setting j) o at.0
      (remote_send-some setting j) at.1

  -- an answer of a remote
  pub RemoteAnswer-outcome : (j : ℕ) (o : StepOutcome)
      → outcome setting c (step.RemoteAnswer j) ≡ Some o
      → RemoteMoves c None j (AnswersRequest setting j) o
  RemoteAnswer-outcome j o did =
      let at = named c j (remote_moves c None j (remote_answer setting j)) o did in
      remote_moves-some c None j (AnswersRequest setting j) (remote_answer setting j) o at.0
      (remote_answer-some setting j) at.1

  -- a reply of a remote
  pub RemoteReply-outcome : (j : ℕ) (o : StepOutcome)
      → outcome setting c (step.RemoteReply j) ≡ Some o
      → RemoteMoves c None j (SendsReply setting j) o
  RemoteReply-outcome j o did =
      let at = named c j (remote_moves c None j (remote_reply setting j)) o did in
      remote_moves-some c None j (SendsReply setting j) (remote_reply setting j) o at.0
      (remote_reply-some setting j) at.1

  -- ---- where a packet arrives

  -- a packet that arrives at the home
  pub Up-outcome : (j : ℕ) (o : StepOutcome) → outcome setting c (step.Up j) ≡ Some o
      → (j < count_of c) × HomeMoves c (Some (Up j)) (ArrivesUp setting c j) o
  Up-outcome j o did =
      let link = Up j in
      let moved : Packet → StepOutcome =
      λ arrived. home_moved c (Some link) (up setting (count_of c) c.home c.held j arrived) in
      let at = named c j (option_map moved (arrival c (Some link))) o did in
      let by = some_map moved (arrival c (Some link)) o at.1 in (
        at.0,
        record {
          left = up setting (count_of c) c.home c.held j by.0;
          is = record { arrived = by.0; first = by.1; outcome = refl };
          outcome = sym by.2;
        },
      )

  -- a packet that arrives at a remote
  pub Down-outcome : (j : ℕ) (o : StepOutcome) → outcome setting c (step.Down j) ≡ Some o
      → RemoteMoves c (Some (Down j)) j (ArrivesDown setting c j) o
  Down-outcome j o did =
      let link = Down j in
      let does : RemoteState → Option RemoteOutcome =
      λ remote. option_map (down setting remote) (arrival c (Some link)) in
      let at = named c j (remote_moves c (Some link) j does) o did in
      remote_moves-some c (Some link) j (ArrivesDown setting c j) does o at.0
      (λ remote left answered.
      let by = some_map (down setting remote) (arrival c (Some link)) left answered in
      record { arrived = by.0; first = by.1; outcome = sym by.2 })
      at.1

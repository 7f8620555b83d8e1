-- What each step leaves alone: it puts a packet on a link of the remote that it names, if on any,
-- and takes one from the link from which it arrives.
use Rattle.std.proofs.Common.{◌≡◌, ◌≢◌, ℕ, zero, suc, Bool, true, false, List, [], ◌∷◌, Option}
use Rattle.std.proofs.Common.{Some, None, slice_get, get_or, set, nat_lt, length-set, unwrap_or}
use Rattle.std.proofs.Common.{refl, ap, if◌then◌else◌, ◌∙◌, ◌++◌, drop, ◌&&◌, ◌==◌, not}
use Rattle.std.specs.Option.{option_map, option_map_or, option_and_then}
use Rattle.rv_base.proofs.Lists.{slice_get-set_other}
use Rattle.proto_model.specs.Guards.{part, guards_of, guard_at}
use Rattle.proto_model.specs.Values.{is_open}
use Rattle.proto_model.specs.RendezvousNext.{tau_part, given}
use Rattle.proto_model.specs.declared.numbered.Value.{Value}
use Rattle.proto_model.specs.declared.numbered.Rule.{Rule}
use Rattle.proto_model.specs.declared.rendezvous.Part.{Part}
use Rattle.controller_table.specs.Rows.{guard_id}
use Rattle.controller_table.specs.declared.rows.GuardId.{GuardId}
use Rattle.controller_table.specs.declared.rows.Place.{Place}
use Rattle.controller_table.specs.declared.rows.Place.TheVariants.{Comm, Trans, Due}
use Rattle.slot_reserve.specs.Requests.{first_of, last_of, without_first}
use Rattle.slot_reserve.specs.declared.held.Held.{Held}
use Rattle.ordered_links.specs.Link.{Link, Up, Down}
use Rattle.ordered_links.specs.Lists.{LinkPair, links_at, packets_on, no_packets}
use Rattle.ordered_links.specs.declared.packet.Packet.{Packet}
use Rattle.ordered_links.specs.declared.packet.Packet.TheVariants as packet
use Rattle.ordered_links.proofs.PutsAndTakes.{remote_of, with_packets-other}
use Rattle.async_shape.specs.Setting.{Setting, reply_to}
use Rattle.async_shape.specs.Config.{Config, count_of, owed_to}
use Rattle.async_shape.specs.Guards.{Chosen, guard_by, active_guard, answering_guard, idle_state}
use Rattle.async_shape.specs.Outcome.{Put, HomeOutcome, RemoteOutcome, at_home, at_remote, put_on}
use Rattle.async_shape.specs.Outcome.{home_at, remote_at, home_idle_state}
use Rattle.async_shape.specs.Requests.{taking, is_target_of, some_completes, is_admitted}
use Rattle.async_shape.specs.Requests.{displaces}
use Rattle.async_shape.specs.HomeSteps.{home_tau, home_take, home_send, home_drop, up}
use Rattle.async_shape.specs.HomeSteps.{request_taken, request_taken_by, sent_to, sent_by, may_drop}
use Rattle.async_shape.specs.HomeSteps.{may_request, paid, requested, made_room, up_request}
use Rattle.async_shape.specs.HomeSteps.{request_from, up_answer, up_other, up_at}
use Rattle.async_shape.specs.RemoteSteps.{remote_tau, remote_send, remote_answer, remote_reply}
use Rattle.async_shape.specs.RemoteSteps.{down, remote_requested, remote_sent_by, answered}
use Rattle.async_shape.specs.RemoteSteps.{answered_by, answered_in, replied, replied_at}
use Rattle.async_shape.specs.Next.{StepOutcome, arrival, config_after, home_moved, remote_moved}
use Rattle.async_shape.specs.Next.{links_put}
use Rattle.async_shape.specs.Run.{after_step}
use Rattle.async_shape.specs.Site.{Site, AtHome, AtRemote, UpFrom, DownTo, site}
use Rattle.async_shape.specs.declared.config.HomeState.{HomeState}
use Rattle.async_shape.specs.declared.config.HomePlace.{HomePlace}
use Rattle.async_shape.specs.declared.config.HomePlace.TheVariants.{Idle, Waits}
use Rattle.async_shape.specs.declared.config.RemoteState.{RemoteState}
use Rattle.async_shape.specs.declared.config.Request.{Request}
use Rattle.async_shape.specs.declared.step.Step.{Step}
use Rattle.async_shape.specs.declared.step.Step.TheVariants as step
use Rattle.async_shape.proofs.LinksAfter.{IsPutAt, IsTakenAt, put-elsewhere, taken-elsewhere}
use Rattle.async_shape.proofs.LinksAfter.{links_after-other}

-- ---- what holds of an outcome, if there is one

abbrev OfSome : {A : Type 0} → (A → Type 0) → Option A → Type 0
OfSome P None = Unit {0}
OfSome P (Some a) = P a

module _ {A B : Type 0} (P : B → Type 0) where
  some-map : (give : A → B) (o : Option A) → ((a : A) → P (give a)) → OfSome P (option_map give o)
  some-map give None each = tt
  some-map give (Some a) each = each a

  some-and_then : (give : A → Option B) (o : Option A) → ((a : A) → OfSome P (give a))
      → OfSome P (option_and_then give o)
  some-and_then give None each = tt
  some-and_then give (Some a) each = each a

some-if : {B : Type 0} (P : B → Type 0) (b : Bool) (o : Option B) → OfSome P o
    → OfSome P (if b then o else None)
some-if P true o of = of
some-if P false o of = tt

-- ---- what the home puts

-- what is put, if anything, is put on the down link of this remote
abbrev pub IsPutDown : Option ℕ → Option Put → Type 0
IsPutDown partner None = Unit {0}
IsPutDown None (Some put) = ⊥
IsPutDown (Some j) (Some put) = put.on ≡ Down j

-- what is put, if anything, is put on a down link
abbrev IsPutOut : Option Put → Type 0
IsPutOut None = Unit {0}
IsPutOut (Some put) = put.on ≡ Down (remote_of put.on)

-- the home puts only on the down link of the remote that the step names
abbrev PutsFor : Option ℕ → Option HomeOutcome → Type 0
PutsFor partner does = OfSome (λ (o : HomeOutcome). IsPutDown partner o.put) does

module _ (setting : Setting) (n : ℕ) (home : HomeState) (held : List Held) where
  tau-puts : (g : ℕ) → PutsFor None (home_tau setting home held g)
  unfolding home_tau
  tau-puts g =
      let P : HomeOutcome → Type 0 = λ o. IsPutDown None o.put in
      let give : Part → HomeOutcome = λ p. at_home (home_at home p) held None in
      some-and_then P
      (λ (state : ℕ). option_map give (tau_part setting.protocol.home (part state home.vars) g))
      (home_idle_state home.place)
      (λ state. some-map P give (tau_part setting.protocol.home (part state home.vars) g) (λ p. tt))

  module _ (j : ℕ) where
    abbrev P : HomeOutcome → Type 0
    P o = IsPutDown (Some j) o.put

    taken-puts : (now : HomeState) (reply : Option ℕ) → P (request_taken held j now reply)
    taken-puts now None = refl
    taken-puts now (Some p) = tt

    take-puts : PutsFor (Some j) (home_take setting n home held j)
    unfolding home_take
    take-puts =
        let found = taking n setting.protocol.home home held j in
        some-and_then P (λ (state : ℕ). option_map (request_taken_by setting home held j) found)
        (home_idle_state home.place)
        (λ state. some-map P (request_taken_by setting home held j) found
        (λ what. taken-puts _ (reply_to setting what.request.message)))

    sent-puts : (g : GuardId) (rule : Rule) (owed : Option ℕ) (message : ℕ × Value)
        → OfSome P (sent_to setting n home held j g rule owed message)
    sent-puts g rule (Some p) message =
        some-if P (p == message.0) (Some (paid setting home held j rule message)) refl
    sent-puts g rule None message =
        some-if P (may_request setting n home held j) (Some (requested home held j g message)) refl

    send-puts : (g : ℕ) → PutsFor (Some j) (home_send setting n home held g j)
    unfolding home_send
    send-puts g =
        let of : ℕ → Rule → Option HomeOutcome =
        λ state rule. sent_by setting n home held j (guard_id state g) rule in
        some-and_then P
        (λ (state : ℕ). option_and_then (of state) (guard_at setting.protocol.home state g))
        (home_idle_state home.place)
        (λ state. some-and_then P (of state) (guard_at setting.protocol.home state g)
        (λ rule.
        let give = sent_to setting n home held j (guard_id state g) rule (owed_to home j) in
        let message = given setting.protocol.messages home.vars rule.kind in
        some-if P (is_open home.vars rule && is_target_of n home.vars rule j)
        (option_and_then give message)
        (some-and_then P give message (sent-puts (guard_id state g) rule (owed_to home j)))))

    drop-puts : PutsFor (Some j) (home_drop setting n home held j)
    unfolding home_drop
    drop-puts =
        let body = setting.protocol.home in
        let reason : ℕ → Bool =
        λ state.
        not (some_completes n body home held)
        && may_drop setting n home held j (guards_of body state) in
        let left = Some (at_home home (without_first j held) (put_on (Down j) packet.Nack)) in
        let dropped : ℕ → Held → Option HomeOutcome =
        λ state request. if reason state then left else None in
        some-and_then P (λ (state : ℕ). option_and_then (dropped state) (first_of j held))
        (home_idle_state home.place)
        (λ state. some-and_then P (dropped state) (first_of j held)
        (λ request. some-if P (reason state) left refl))

  -- ---- where a packet arrives

  request-puts : (request : Held) → IsPutOut (up_request setting n home held request).put
  request-puts request =
      by (is_admitted n setting.protocol.home home setting.slots held request)
      (displaces n setting.protocol.home home setting.slots held request) (last_of held)
    where
      by : (admitted more : Bool) (last : Option Held)
          → IsPutOut (if admitted
          then at_home home (held ++ request ∷ []) None
          else (if more
          then option_map_or (made_room home held request) last (at_home home held None)
          else at_home home held (put_on (Down request.from) packet.Nack))).put
      by true more last = tt
      by false true None = tt
      by false true (Some last) = refl
      by false false last = refl

  other-puts : (j : ℕ) (arrived : Packet) → IsPutOut (up_other setting n home held j arrived).put
  other-puts j (packet.Request m v) = request-puts (request_from j m v)
  other-puts j packet.Ack = tt
  other-puts j packet.Nack = tt
  other-puts j (packet.Reply p v) = tt

  up-puts : (j : ℕ) (arrived : Packet) → IsPutOut (up setting n home held j arrived).put
  unfolding up
  up-puts j arrived = by home.place
    where
      if-answered : (b : Bool) (one other : HomeOutcome) → IsPutOut one.put → IsPutOut other.put
          → IsPutOut (if b then one else other).put
      if-answered true one other of else_of = of
      if-answered false one other of else_of = else_of

      by : (place : HomePlace) → IsPutOut (up_at setting n home held j place arrived).put
      by (Idle state) = other-puts j arrived
      by (Waits waiting) =
          if-answered (waiting.on == j)
          (up_answer setting.protocol.home home held j waiting arrived)
          (up_other setting n home held j arrived) tt (other-puts j arrived)

-- ---- what a remote puts

-- remote j puts only on a link of its own
abbrev PutsAt : ℕ → Option RemoteOutcome → Type 0
PutsAt j does = OfSome (λ (o : RemoteOutcome). IsPutAt j o.put) does

module _ (setting : Setting) (j : ℕ) (remote : RemoteState) where
  abbrev Q : RemoteOutcome → Type 0
  Q o = IsPutAt j o.put

  remote_tau-puts : (g : ℕ) → PutsAt j (remote_tau setting remote g)
  unfolding remote_tau
  remote_tau-puts g =
      let give : Part → RemoteOutcome = λ p. at_remote (remote_at remote p) None in
      some-and_then Q
      (λ (state : ℕ). option_map give (tau_part setting.protocol.remote (part state remote.vars) g))
      (idle_state remote.place)
      (λ state. some-map Q give (tau_part setting.protocol.remote (part state remote.vars) g)
      (λ p. tt))

  remote_send-puts : PutsAt j (remote_send setting j remote)
  unfolding remote_send
  remote_send-puts =
      let output : ℕ → Option Chosen =
      λ state. active_guard (guards_of setting.protocol.remote state) in
      some-and_then Q
      (λ (state : ℕ). option_and_then (remote_sent_by setting j remote state) (output state))
      (idle_state remote.place)
      (λ state. some-and_then Q (remote_sent_by setting j remote state) (output state)
      (λ chosen. some-map Q (remote_requested j remote (guard_id state chosen.number))
      (given setting.protocol.messages remote.vars chosen.rule.kind) (λ message. refl)))

  answered-puts : (p : Part) (reply : Option ℕ) → Q (answered j p reply)
  answered-puts p None = refl
  answered-puts p (Some reply) = tt

  answered_by-puts : (request : Request) (input : Option Chosen)
      → Q (answered_by setting j remote request input)
  answered_by-puts request (Some input) = answered-puts _ (reply_to setting request.message)
  answered_by-puts request None = refl

  answered_in-puts : (request : Request) (output : Option Chosen)
      → OfSome Q (answered_in setting j remote request output)
  answered_in-puts request None =
      answered_by-puts request (answering_guard setting.protocol.remote remote)
  answered_in-puts request (Some output) = tt

  remote_answer-puts : PutsAt j (remote_answer setting j remote)
  unfolding remote_answer
  remote_answer-puts =
      let give : ℕ → Request → Option RemoteOutcome =
      λ state request.
      answered_in setting j remote request
      (active_guard (guards_of setting.protocol.remote state)) in
      some-and_then Q (λ (state : ℕ). option_and_then (give state) remote.slot)
      (idle_state remote.place)
      (λ state. some-and_then Q (give state) remote.slot
      (λ request.
      answered_in-puts request (active_guard (guards_of setting.protocol.remote state))))

  replied-puts : (place : Place) → OfSome Q (replied_at setting j remote place)
  replied-puts (Comm state) = tt
  replied-puts (Trans g) = tt
  replied-puts (Due g) =
      let give : Rule → Option RemoteOutcome =
      λ rule.
      option_map (replied setting j remote rule)
      (given setting.protocol.messages remote.vars rule.kind) in
      some-and_then Q give (guard_by setting.protocol.remote g)
      (λ rule. some-map Q (replied setting j remote rule)
      (given setting.protocol.messages remote.vars rule.kind) (λ message. refl))

  remote_reply-puts : PutsAt j (remote_reply setting j remote)
  unfolding remote_reply
  remote_reply-puts = replied-puts remote.place

  down-puts : (arrived : Option Packet) → PutsAt j (option_map (down setting remote) arrived)
  unfolding down
  down-puts arrived = some-map Q (down setting remote) arrived (λ packet. tt)

-- ---- what a step leaves alone

-- home and held requests are as they were, and there are as many remotes, all of which but j are as
-- they were, as are their links
pub record KeepsOthers (c d : Config) (j : ℕ) : Type 0 where
  pub home : d.home ≡ c.home
  pub held : d.held ≡ c.held
  pub count : count_of d ≡ count_of c
  pub others : (q : ℕ) → q ≢ j → slice_get d.remotes q ≡ slice_get c.remotes q
  pub links : (q : ℕ) → q ≢ j → links_at d.links q ≡ links_at c.links q

-- this is another remote than that one, if there is one
abbrev pub IsApart : ℕ → Option ℕ → Type 0
IsApart q None = Unit {0}
IsApart q (Some j) = q ≢ j

-- the remotes are as they were, and the up links, and all down links but of this remote
pub record KeepsRemotes (c d : Config) (partner : Option ℕ) : Type 0 where
  pub remotes : d.remotes ≡ c.remotes
  pub ups : (q : ℕ) → (links_at d.links q).up ≡ (links_at c.links q).up
  pub downs : (q : ℕ) → IsApart q partner → (links_at d.links q).down ≡ (links_at c.links q).down

-- the remotes are as they were, and all up links but that of remote j
pub record KeepsUps (c d : Config) (j : ℕ) : Type 0 where
  pub remotes : d.remotes ≡ c.remotes
  pub ups : (q : ℕ) → q ≢ j → (links_at d.links q).up ≡ (links_at c.links q).up

-- what a step at this site leaves alone
abbrev pub Keeps : Config → Config → Site → Type 0
Keeps c d (AtHome partner) = KeepsRemotes c d partner
Keeps c d (AtRemote j) = KeepsOthers c d j
Keeps c d (UpFrom j) = KeepsUps c d j
Keeps c d (DownTo j) = KeepsOthers c d j

-- what a change of an item leaves alone of it stays everywhere
set-same : {X Y : Type 0} (part_of : X → Y) (items : List X) (j q : ℕ) (x other : X)
    → part_of x ≡ part_of (get_or items j other)
    → part_of (get_or (set items j x) q other) ≡ part_of (get_or items q other)
set-same part_of [] j q x other same = refl
set-same part_of (item ∷ items) zero zero x other same = same
set-same part_of (item ∷ items) zero (suc q) x other same = refl
set-same part_of (item ∷ items) (suc j) zero x other same = refl
set-same part_of (item ∷ items) (suc j) (suc q) x other same =
    set-same part_of items j q x other same

-- a put on a down link leaves the up links
down_put-ups : (links : List LinkPair) (put : Option Put) → IsPutOut put → (q : ℕ)
    → (links_at (links_put put links) q).up ≡ (links_at links q).up
down_put-ups links None out q = refl
down_put-ups links (Some put) out q =
    rw out (
    let j = remote_of put.on in
    set-same (λ (pair : LinkPair). pair.up) links j q
    (record (links_at links j) { down = (links_at links j).down ++ put.packet ∷ [] }) no_packets
    refl
    )

put-out : (partner : Option ℕ) (put : Option Put) → IsPutDown partner put → IsPutOut put
put-out partner None is = tt
put-out None (Some put) is = absurd is
put-out (Some j) (Some put) is = rw is refl

down_put-downs : (links : List LinkPair) (partner : Option ℕ) (put : Option Put)
    → IsPutDown partner put → (q : ℕ) → IsApart q partner
    → (links_at (links_put put links) q).down ≡ (links_at links q).down
down_put-downs links partner None is q apart = refl
down_put-downs links None (Some put) is q apart = absurd is
down_put-downs links (Some j) (Some put) is q apart =
    rw is
    (ap (λ (pair : LinkPair). pair.down)
    (with_packets-other (Down j) (packets_on (Down j) links ++ put.packet ∷ []) links q apart))

module _ (c : Config) where
  -- the configuration that this outcome leaves, if there is one
  abbrev left_by : Option StepOutcome → Config
  left_by o = unwrap_or (option_map (config_after c) o) c

  home_left : (partner : Option ℕ) → KeepsRemotes c c partner
  home_left partner = record { remotes = refl; ups = λ q. refl; downs = λ q apart. refl }

  home-keeps : (partner : Option ℕ) (does : Option HomeOutcome) → PutsFor partner does
      → KeepsRemotes c (left_by (option_map (home_moved c None) does)) partner
  home-keeps partner None puts = home_left partner
  home-keeps partner (Some o) puts = record {
    remotes = refl;
    ups = down_put-ups c.links o.put (put-out partner o.put puts);
    downs = down_put-downs c.links partner o.put puts;
  }

  named-home_keeps : (there : Bool) (partner : Option ℕ) (does : Option HomeOutcome)
      → PutsFor partner does
      → KeepsRemotes c (left_by (if there then option_map (home_moved c None) does else None))
      partner
  named-home_keeps true partner does puts = home-keeps partner does puts
  named-home_keeps false partner does puts = home_left partner

  ups_left : (j : ℕ) → KeepsUps c c j
  ups_left j = record { remotes = refl; ups = λ q apart. refl }

  -- a packet that arrives at the home
  up-keeps : (there : Bool) (j : ℕ) (does : Packet → HomeOutcome)
      → ((packet : Packet) → IsPutOut (does packet).put) → (arrived : Option Packet)
      → KeepsUps c
      (left_by
      (if there then option_map (λ packet. home_moved c (Some (Up j)) (does packet)) arrived else
      None)) j
  up-keeps true j does puts None = ups_left j
  up-keeps true j does puts (Some packet) =
      let links = links_put (does packet).put c.links in
      record {
        remotes = refl;
        ups = λ q apart.
            ap (λ (pair : LinkPair). pair.up)
            (with_packets-other (Up j) (drop 1 (packets_on (Up j) links)) links q apart)
            ∙ down_put-ups c.links (does packet).put (puts packet) q;
      }
  up-keeps false j does puts arrived = ups_left j

  remote_left : (j : ℕ) → KeepsOthers c c j
  remote_left j = record {
    home = refl;
    held = refl;
    count = refl;
    others = λ q apart. refl;
    links = λ q apart. refl;
  }

  remote-keeps : (link : Option Link) (j : ℕ) (does : Option RemoteOutcome) → IsTakenAt j link
      → PutsAt j does → KeepsOthers c (left_by (option_map (remote_moved c link j) does)) j
  remote-keeps link j None takes puts = remote_left j
  remote-keeps link j (Some o) takes puts = record {
    home = refl;
    held = refl;
    count = length-set c.remotes j o.remote;
    others = λ q apart. slice_get-set_other c.remotes j q o.remote apart;
    links = λ q apart.
        links_after-other o.put link c.links q (put-elsewhere j q o.put apart puts)
        (taken-elsewhere j q link apart takes);
  }

  remotes-keep : (there : Bool) (link : Option Link) (j : ℕ)
      (does : RemoteState → Option RemoteOutcome) (remote : Option RemoteState) → IsTakenAt j link
      → ((r : RemoteState) → PutsAt j (does r))
      → KeepsOthers c
      (left_by
      (if there
      then option_and_then (λ r. option_map (remote_moved c link j) (does r)) remote else None)) j
  remotes-keep true link j does None takes puts = remote_left j
  remotes-keep true link j does (Some r) takes puts = remote-keeps link j (does r) takes (puts r)
  remotes-keep false link j does remote takes puts = remote_left j

module _ (setting : Setting) (c : Config) where
  -- What each step leaves alone.
  pub step-keeps : (s : Step) → Keeps c (after_step setting c s) (site s)
  step-keeps (step.HomeTau g) =
      home-keeps c None (home_tau setting c.home c.held g)
      (tau-puts setting (count_of c) c.home c.held g)
  step-keeps (step.HomeTake j) =
      let n = count_of c in
      named-home_keeps c (nat_lt j n) (Some j) (home_take setting n c.home c.held j)
      (take-puts setting n c.home c.held j)
  step-keeps (step.HomeSend g j) =
      let n = count_of c in
      named-home_keeps c (nat_lt j n) (Some j) (home_send setting n c.home c.held g j)
      (send-puts setting n c.home c.held j g)
  step-keeps (step.HomeDrop j) =
      let n = count_of c in
      named-home_keeps c (nat_lt j n) (Some j) (home_drop setting n c.home c.held j)
      (drop-puts setting n c.home c.held j)
  step-keeps (step.Up j) =
      let n = count_of c in
      up-keeps c (nat_lt j n) j (up setting n c.home c.held j)
      (up-puts setting n c.home c.held j) (arrival c (Some (Up j)))
  step-keeps (step.RemoteTau j g) =
      remotes-keep c (nat_lt j (count_of c)) None j (λ r. remote_tau setting r g)
      (slice_get c.remotes j) tt (λ r. remote_tau-puts setting j r g)
  step-keeps (step.RemoteSend j) =
      remotes-keep c (nat_lt j (count_of c)) None j (remote_send setting j) (slice_get c.remotes j)
      tt (remote_send-puts setting j)
  step-keeps (step.RemoteAnswer j) =
      remotes-keep c (nat_lt j (count_of c)) None j (remote_answer setting j)
      (slice_get c.remotes j) tt (remote_answer-puts setting j)
  step-keeps (step.RemoteReply j) =
      remotes-keep c (nat_lt j (count_of c)) None j (remote_reply setting j)
      (slice_get c.remotes j) tt (remote_reply-puts setting j)
  step-keeps (step.Down j) =
      remotes-keep c (nat_lt j (count_of c)) (Some (Down j)) j
      (λ r. option_map (down setting r) (arrival c (Some (Down j)))) (slice_get c.remotes j) refl
      (λ r. down-puts setting j r (arrival c (Some (Down j))))

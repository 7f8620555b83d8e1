-- The phase of a remote, read off a sign: what is held of it or owed to it, what its slot has,
-- where it stands, whether the home waits on it, and which packet is the first on a link.
use Rattle.std.proofs.Common.{◌≡◌, ℕ, true, false, List, [], ◌∷◌, Option, Some, None}
use Rattle.std.proofs.Common.{drop, sym, ap, subst, subst₂, ◌∙◌}
use Rattle.std.proofs.lemmas.Option.{same_Some}
use Rattle.proto_model.specs.Numbered.{NumberedProtocol}
use Rattle.proto_model.specs.declared.numbered.Value.{Value}
use Rattle.controller_table.specs.declared.rows.GuardId.{GuardId}
use Rattle.controller_table.specs.declared.rows.Place.{Place}
use Rattle.controller_table.specs.declared.rows.Place.TheVariants.{Comm, Trans, Due}
use Rattle.ordered_links.specs.Lists.{first_packet}
use Rattle.ordered_links.specs.declared.packet.Packet.{Packet}
use Rattle.ordered_links.specs.declared.packet.Packet.TheVariants as packet
use Rattle.async_shape.specs.Setting.{Setting, reply_to}
use Rattle.async_shape.specs.Guards.{request_of}
use Rattle.async_shape.specs.View.{View}
use Rattle.async_shape.specs.Phase.{Phase, Resting, RequestComes, RequestInSlot, AnswerGoes}
use Rattle.async_shape.specs.Phase.{ReplyIsDue, RequestGoes, RequestsCross, RequestCrossed}
use Rattle.async_shape.specs.Phase.{AnswerThenRequestGo, RequestIsHeld, AnswerComes, ReplyIsOwed}
use Rattle.async_shape.specs.Phase.{as_packet, packets_of, down_list, Has, signs_of, Fits}
use Rattle.async_shape.specs.Phase.{IsInPhase, is_idle_place, is_answer, waits_at, due_at, IsIdle}
use Rattle.ordered_links.specs.Packets.{is_request}
use Rattle.async_shape.specs.declared.config.Request.{Request}

-- the view is in this phase
pub record IsIn (setting : Setting) (v : View) (phase : Phase) : Type 0 where
  pub has : Has v (signs_of phase)
  pub fits : Fits setting phase v.remote

-- ---- what can't be at once

-- an idle remote doesn't wait
idle-not_waiting : (place : Place) (g : GuardId) → is_idle_place place ≡ true → place ≡ Trans g → ⊥
idle-not_waiting (Comm state) g idle waits = cc
idle-not_waiting (Trans h) g idle waits = cc
idle-not_waiting (Due h) g idle waits = cc

-- an idle remote is not due
idle-not_due : (place : Place) (g : GuardId) → is_idle_place place ≡ true → place ≡ Due g → ⊥
idle-not_due (Comm state) g idle due = cc
idle-not_due (Trans h) g idle due = cc
idle-not_due (Due h) g idle due = cc

-- a remote that waits is not idle
waiting-not_idle : (protocol : NumberedProtocol) (vars : List Value) (place : Place) (q : Request)
    → waits_at protocol vars place ≡ Some q → is_idle_place place ≡ true → ⊥
waiting-not_idle protocol vars (Comm state) q waits idle = cc
waiting-not_idle protocol vars (Trans h) q waits idle = cc
waiting-not_idle protocol vars (Due h) q waits idle = cc

-- a remote that waits is not due
waiting-not_due : (protocol : NumberedProtocol) (vars : List Value) (place : Place) (q : Request)
    (g : GuardId) → waits_at protocol vars place ≡ Some q → place ≡ Due g → ⊥
waiting-not_due protocol vars (Comm state) q g waits due = cc
waiting-not_due protocol vars (Trans h) q g waits due = cc
waiting-not_due protocol vars (Due h) q g waits due = cc

-- a remote that is due is not idle
due-not_idle : (protocol : NumberedProtocol) (place : Place) (p : ℕ)
    → due_at protocol place ≡ Some p → is_idle_place place ≡ true → ⊥
due-not_idle protocol (Comm state) p due idle = cc
due-not_idle protocol (Trans h) p due idle = cc
due-not_idle protocol (Due h) p due idle = cc

-- an empty link has no first packet
empty-not_first : (packets rest : List Packet) (first : Packet)
    → packets ≡ [] → packets ≡ first ∷ rest → ⊥
empty-not_first packets rest first empty begins = cc

-- no answer is a request
request-no_answer : (reply : Option ℕ) (answer : Packet) (q : Request)
    → is_answer reply answer ≡ true → answer ≡ as_packet q → ⊥
request-no_answer reply (packet.Request m v) q answers is = cc
request-no_answer reply packet.Ack q answers is = cc
request-no_answer reply packet.Nack q answers is = cc
request-no_answer reply (packet.Reply p v) q answers is = cc

-- what is no request is not the packet of one
request-is_request : (first : Packet) (q : Request)
    → is_request first ≡ false → first ≡ as_packet q → ⊥
request-is_request (packet.Request m v) q none is = cc
request-is_request packet.Ack q none is = cc
request-is_request packet.Nack q none is = cc
request-is_request (packet.Reply p v) q none is = cc

-- a list of packets that has a first one is that one and the rest
pub first-rest : (packets : List Packet) (first : Packet) → first_packet packets ≡ Some first
    → packets ≡ first ∷ drop 1 packets
first-rest [] first e = absurd (cc)
first-rest (packet ∷ packets) first e =
    ap (λ (p : Packet). p ∷ packets) (same_Some packet first e)

-- a request is told by its packet
pub same_request : (a b : Request) → as_packet a ≡ as_packet b → a ≡ b
same_request a b e =
    let messages : a.message ≡ b.message = cc in
    let values : a.value ≡ b.value = cc in
    ap (λ (m : ℕ). request_of (m, a.value)) messages
    ∙ ap (λ (v : Value). request_of (b.message, v)) values

-- ---- the answers that are sums

-- the phases of an idle remote
pub data IdlePhase (setting : Setting) (v : View) : Type 0 where
  Rests : IsIn setting v Resting → IdlePhase setting v
  Comes : (r : Request) → IsIn setting v (RequestComes r) → IdlePhase setting v
  InSlot : (r : Request) → IsIn setting v (RequestInSlot r) → IdlePhase setting v
  Answered : (r : Request) (answer : Packet) → IsIn setting v (AnswerGoes r answer)
      → IdlePhase setting v

-- the phases in which the home may send the remote a request: it waits neither on this one nor on
-- another, and nothing of the remote is held or owed
pub data FreePhase (setting : Setting) (v : View) : Type 0 where
  FreeRests : IsIn setting v Resting → FreePhase setting v
  FreeGoes : (q : Request) → IsIn setting v (RequestGoes q) → FreePhase setting v
  FreeComes : (q : Request) (old : Option Request) (answer : Packet)
      → IsIn setting v (AnswerComes q old answer None) → FreePhase setting v

-- the phases in which a request comes up first, while the home waits on the remote to answer r
pub data CrossingPhase (setting : Setting) (v : View) (q r : Request) : Type 0 where
  Crosses : IsIn setting v (RequestsCross q r) → CrossingPhase setting v q r
  Crossed : IsIn setting v (RequestCrossed q r) → CrossingPhase setting v q r

-- the phases in which an answer comes up first, and then these packets
pub data AnsweringPhase (setting : Setting) (v : View) (r : Request) (answer : Packet)
    (rest : List Packet) : Type 0 where
  AnswerAlone : rest ≡ [] → IsIn setting v (AnswerGoes r answer)
      → AnsweringPhase setting v r answer rest
  AnswerFirst : (q : Request) → rest ≡ as_packet q ∷ []
      → IsIn setting v (AnswerThenRequestGo q r answer) → AnsweringPhase setting v r answer rest

-- the phases in which a request comes down first to a remote that waits, and then these packets
pub data OldPhase (setting : Setting) (v : View) (old : Request) (rest : List Packet) : Type 0 where
  OldCrosses : (q : Request) → rest ≡ [] → IsIn setting v (RequestsCross q old)
      → OldPhase setting v old rest
  OldHeld : (q : Request) → rest ≡ [] → IsIn setting v (RequestIsHeld q (Some old))
      → OldPhase setting v old rest
  OldAnswered : (q : Request) (answer : Packet) (awaited : Option Request)
      → rest ≡ down_list None answer awaited
      → IsIn setting v (AnswerComes q (Some old) answer awaited) → OldPhase setting v old rest
  OldOwed : (q : Request) (p : ℕ) → rest ≡ [] → IsIn setting v (ReplyIsOwed q (Some old) p)
      → OldPhase setting v old rest

-- ---- the phase by its sign

module _ (setting : Setting) (v : View) where
  -- the home holds this request of the remote
  abbrev pub HoldsRequest : Request → Type 0
  HoldsRequest q = (old : Option Request) × IsIn setting v (RequestIsHeld q old)

  -- by the phase
  held-by : (phase : Phase) (q : Request) → Has v (signs_of phase) → Fits setting phase v.remote
      → v.held ≡ Some q → HoldsRequest q
  held-by (RequestIsHeld p old) q has fits held =
      let same : p ≡ q = same_Some p q (sym has.held ∙ held) in
      subst HoldsRequest same (old, record { has = has; fits = fits })
  held-by phase q has fits held = absurd (cc)

  -- a remote of which a request is held is in that phase
  pub held-phase : (q : Request) → IsInPhase setting v → v.held ≡ Some q → HoldsRequest q
  held-phase q is held = held-by is.phase q is.has is.fits held

  -- the home owes this message to the remote
  abbrev pub OwesReply : ℕ → Type 0
  OwesReply p = (q : Request) × (old : Option Request) × IsIn setting v (ReplyIsOwed q old p)

  -- by the phase
  owed-by : (phase : Phase) (p : ℕ) → Has v (signs_of phase) → Fits setting phase v.remote
      → v.owed ≡ Some p → OwesReply p
  owed-by (ReplyIsOwed q old r) p has fits owed =
      let same : r ≡ p = same_Some r p (sym has.owed ∙ owed) in
      subst OwesReply same (q, old, record { has = has; fits = fits })
  owed-by phase p has fits owed = absurd (cc)

  -- a remote to which a reply is owed is in that phase
  pub owed-phase : (p : ℕ) → IsInPhase setting v → v.owed ≡ Some p → OwesReply p
  owed-phase p is owed = owed-by is.phase p is.has is.fits owed

  -- the slot of the remote has this request
  abbrev pub HasInSlot : Request → Type 0
  HasInSlot r = IsIn setting v (RequestInSlot r)

  -- by the phase
  slot-by : (phase : Phase) (r : Request) → Has v (signs_of phase) → Fits setting phase v.remote
      → v.remote.slot ≡ Some r → HasInSlot r
  slot-by (RequestInSlot s) r has fits slot =
      let same : s ≡ r = same_Some s r (sym has.slot ∙ slot) in
      subst HasInSlot same (record { has = has; fits = fits })
  slot-by phase r has fits slot = absurd (cc)

  -- a remote with a request in its slot is in that phase
  pub slot-phase : (r : Request) → IsInPhase setting v → v.remote.slot ≡ Some r → HasInSlot r
  slot-phase r is slot = slot-by is.phase r is.has is.fits slot

  -- the remote is due to send a reply
  abbrev pub IsDueToReply : Type 0
  IsDueToReply = (r : Request) × IsIn setting v (ReplyIsDue r)

  -- by the phase
  due-by : (phase : Phase) (g : GuardId) → Has v (signs_of phase) → Fits setting phase v.remote
      → v.remote.place ≡ Due g → IsDueToReply
  due-by Resting g has fits due = absurd (idle-not_due v.remote.place g fits due)
  due-by (RequestComes r) g has fits due = absurd (idle-not_due v.remote.place g fits due)
  due-by (RequestInSlot r) g has fits due = absurd (idle-not_due v.remote.place g fits due)
  due-by (AnswerGoes r answer) g has fits due = absurd (idle-not_due v.remote.place g fits.0 due)
  due-by (ReplyIsDue r) g has fits due = (r, record { has = has; fits = fits })
  due-by (RequestGoes q) g has fits due =
      absurd (waiting-not_due setting.protocol v.remote.vars v.remote.place q g fits due)
  due-by (RequestsCross q r) g has fits due =
      absurd (waiting-not_due setting.protocol v.remote.vars v.remote.place q g fits due)
  due-by (RequestCrossed q r) g has fits due =
      absurd (waiting-not_due setting.protocol v.remote.vars v.remote.place q g fits due)
  due-by (AnswerThenRequestGo q r answer) g has fits due =
      absurd (waiting-not_due setting.protocol v.remote.vars v.remote.place q g fits.0 due)
  due-by (RequestIsHeld q old) g has fits due =
      absurd (waiting-not_due setting.protocol v.remote.vars v.remote.place q g fits.0 due)
  due-by (AnswerComes q old answer awaited) g has fits due =
      absurd (waiting-not_due setting.protocol v.remote.vars v.remote.place q g fits.0 due)
  due-by (ReplyIsOwed q old p) g has fits due =
      absurd (waiting-not_due setting.protocol v.remote.vars v.remote.place q g fits.0 due)

  -- a remote that is due to reply is in that phase
  pub due-phase : (g : GuardId) → IsInPhase setting v → v.remote.place ≡ Due g → IsDueToReply
  due-phase g is due = due-by is.phase g is.has is.fits due

  -- by the phase
  idle-by : (phase : Phase) → Has v (signs_of phase) → Fits setting phase v.remote
      → IsIdle v.remote → IdlePhase setting v
  idle-by Resting has fits idle = Rests (record { has = has; fits = fits })
  idle-by (RequestComes r) has fits idle = Comes r (record { has = has; fits = fits })
  idle-by (RequestInSlot r) has fits idle = InSlot r (record { has = has; fits = fits })
  idle-by (AnswerGoes r answer) has fits idle =
      Answered r answer (record { has = has; fits = fits })
  idle-by (ReplyIsDue r) has fits idle =
      absurd (due-not_idle setting.protocol v.remote.place fits.0 fits.1 idle)
  idle-by (RequestGoes q) has fits idle =
      absurd (waiting-not_idle setting.protocol v.remote.vars v.remote.place q fits idle)
  idle-by (RequestsCross q r) has fits idle =
      absurd (waiting-not_idle setting.protocol v.remote.vars v.remote.place q fits idle)
  idle-by (RequestCrossed q r) has fits idle =
      absurd (waiting-not_idle setting.protocol v.remote.vars v.remote.place q fits idle)
  idle-by (AnswerThenRequestGo q r answer) has fits idle =
      absurd (waiting-not_idle setting.protocol v.remote.vars v.remote.place q fits.0 idle)
  idle-by (RequestIsHeld q old) has fits idle =
      absurd (waiting-not_idle setting.protocol v.remote.vars v.remote.place q fits.0 idle)
  idle-by (AnswerComes q old answer awaited) has fits idle =
      absurd (waiting-not_idle setting.protocol v.remote.vars v.remote.place q fits.0 idle)
  idle-by (ReplyIsOwed q old p) has fits idle =
      absurd (waiting-not_idle setting.protocol v.remote.vars v.remote.place q fits.0 idle)

  -- an idle remote is in one of these
  pub idle-phase : IsInPhase setting v → IsIdle v.remote → IdlePhase setting v
  idle-phase is idle = idle-by is.phase is.has is.fits idle

  -- by the phase
  free-by : (phase : Phase) → Has v (signs_of phase) → Fits setting phase v.remote
      → v.awaited ≡ None → v.held ≡ None → v.owed ≡ None → FreePhase setting v
  free-by Resting has fits free unheld unowed = FreeRests (record { has = has; fits = fits })
  free-by (RequestGoes q) has fits free unheld unowed =
      FreeGoes q (record { has = has; fits = fits })
  free-by (AnswerComes q old answer None) has fits free unheld unowed =
      FreeComes q old answer (record { has = has; fits = fits })
  free-by phase has fits free unheld unowed = absurd (cc)

  -- nothing is held or owed, and the home doesn't wait on the remote
  pub free-phase : IsInPhase setting v → v.awaited ≡ None → v.held ≡ None → v.owed ≡ None
      → FreePhase setting v
  free-phase is free unheld unowed = free-by is.phase is.has is.fits free unheld unowed

  -- ---- what comes up first

  -- this packet is the remote's request, and nothing follows it
  abbrev pub SendsRequest : Packet → List Packet → Type 0
  SendsRequest first rest =
      (q : Request) × (first ≡ as_packet q) × (rest ≡ []) × IsIn setting v (RequestGoes q)

  -- by the phase
  up_free-by : (phase : Phase) (first : Packet) (rest : List Packet) → Has v (signs_of phase)
      → Fits setting phase v.remote → v.awaited ≡ None → v.up ≡ first ∷ rest
      → SendsRequest first rest
  up_free-by (RequestGoes q) first rest has fits free up =
      let only : v.up ≡ as_packet q ∷ [] = has.up in
      (q, cc, cc, record { has = has; fits = fits })
  up_free-by phase first rest has fits free up = absurd (cc)

  -- a packet comes up from a remote on which the home doesn't wait
  pub up_free-phase : (first : Packet) (rest : List Packet) → IsInPhase setting v
      → v.awaited ≡ None → v.up ≡ first ∷ rest → SendsRequest first rest
  up_free-phase first rest is free up = up_free-by is.phase first rest is.has is.fits free up

  -- a request comes up first, of the remote on which the home waits
  abbrev pub CrossesFirst : Request → Request → List Packet → Type 0
  CrossesFirst r q rest = (rest ≡ []) × CrossingPhase setting v q r

  -- by the phase
  up_request-by : (phase : Phase) (r q : Request) (rest : List Packet) → Has v (signs_of phase)
      → Fits setting phase v.remote → v.awaited ≡ Some r → v.up ≡ as_packet q ∷ rest
      → CrossesFirst r q rest
  up_request-by (RequestsCross p s) r q rest has fits awaited up =
      let only : v.up ≡ as_packet p ∷ [] = has.up in
      let none : rest ≡ [] = cc in
      let same : p ≡ q = same_request p q (cc) in
      let asked : s ≡ r = same_Some s r (sym has.awaited ∙ awaited) in (
        none,
        subst₂ (CrossingPhase setting v) same asked (Crosses (record { has = has; fits = fits })),
      )
  up_request-by (RequestCrossed p s) r q rest has fits awaited up =
      let only : v.up ≡ as_packet p ∷ [] = has.up in
      let none : rest ≡ [] = cc in
      let same : p ≡ q = same_request p q (cc) in
      let asked : s ≡ r = same_Some s r (sym has.awaited ∙ awaited) in (
        none,
        subst₂ (CrossingPhase setting v) same asked (Crossed (record { has = has; fits = fits })),
      )
  up_request-by (AnswerGoes s answer) r q rest has fits awaited up =
      let first : answer ≡ as_packet q = cc in
      absurd (request-no_answer (reply_to setting s.message) answer q fits.1 first)
  up_request-by (AnswerThenRequestGo p s answer) r q rest has fits awaited up =
      let first : answer ≡ as_packet q = cc in
      absurd (request-no_answer (reply_to setting s.message) answer q fits.1 first)
  up_request-by phase r q rest has fits awaited up = absurd (cc)

  -- a request comes up first from the remote on which the home waits
  pub up_request-phase : (r q : Request) (rest : List Packet) → IsInPhase setting v
      → v.awaited ≡ Some r → v.up ≡ as_packet q ∷ rest → CrossesFirst r q rest
  up_request-phase r q rest is awaited up =
      up_request-by is.phase r q rest is.has is.fits awaited up

  -- the answer to r, by the request and the packet
  abbrev Answering : List Packet → Request → Packet → Type 0
  Answering rest r first = AnsweringPhase setting v r first rest

  -- by the phase
  up_answer-by : (phase : Phase) (r : Request) (first : Packet) (rest : List Packet)
      → Has v (signs_of phase) → Fits setting phase v.remote → v.awaited ≡ Some r
      → is_request first ≡ false → v.up ≡ first ∷ rest → Answering rest r first
  up_answer-by (AnswerGoes s answer) r first rest has fits awaited none up =
      let only : v.up ≡ answer ∷ [] = has.up in
      let nothing : rest ≡ [] = cc in
      let same : answer ≡ first = cc in
      let asked : s ≡ r = same_Some s r (sym has.awaited ∙ awaited) in
      subst₂ (Answering rest) asked same (AnswerAlone nothing (record { has = has; fits = fits }))
  up_answer-by (AnswerThenRequestGo q s answer) r first rest has fits awaited none up =
      let both : v.up ≡ answer ∷ as_packet q ∷ [] = has.up in
      let behind : rest ≡ as_packet q ∷ [] = cc in
      let same : answer ≡ first = cc in
      let asked : s ≡ r = same_Some s r (sym has.awaited ∙ awaited) in
      subst₂ (Answering rest) asked same (AnswerFirst q behind (record { has = has; fits = fits }))
  up_answer-by (RequestsCross q s) r first rest has fits awaited none up =
      let is : first ≡ as_packet q = cc in
      absurd (request-is_request first q none is)
  up_answer-by (RequestCrossed q s) r first rest has fits awaited none up =
      let is : first ≡ as_packet q = cc in
      absurd (request-is_request first q none is)
  up_answer-by phase r first rest has fits awaited none up = absurd (cc)

  -- no request comes up first, from the remote on which the home waits
  pub up_answer-phase : (r : Request) (first : Packet) (rest : List Packet) → IsInPhase setting v
      → v.awaited ≡ Some r → is_request first ≡ false → v.up ≡ first ∷ rest
      → AnsweringPhase setting v r first rest
  up_answer-phase r first rest is awaited none up =
      up_answer-by is.phase r first rest is.has is.fits awaited none up

  -- ---- what comes down first

  -- this packet is the request that the home waits for the remote to answer, and nothing follows it
  abbrev pub GetsRequest : Packet → List Packet → Type 0
  GetsRequest first rest =
      (r : Request) × (first ≡ as_packet r) × (rest ≡ []) × IsIn setting v (RequestComes r)

  -- by the phase of an idle remote
  down_idle-by : (first : Packet) (rest : List Packet) → IdlePhase setting v
      → v.down ≡ first ∷ rest → GetsRequest first rest
  down_idle-by first rest (Rests is) down =
      absurd (empty-not_first v.down rest first is.has.down down)
  down_idle-by first rest (Comes r is) down =
      let only : v.down ≡ as_packet r ∷ [] = is.has.down in
      (r, cc, cc, is)
  down_idle-by first rest (InSlot r is) down =
      absurd (empty-not_first v.down rest first is.has.down down)
  down_idle-by first rest (Answered r answer is) down =
      absurd (empty-not_first v.down rest first is.has.down down)

  -- a packet comes down to an idle remote
  pub down_idle-phase : (first : Packet) (rest : List Packet) → IsInPhase setting v
      → IsIdle v.remote → v.down ≡ first ∷ rest → GetsRequest first rest
  down_idle-phase first rest is idle down = down_idle-by first rest (idle-phase is idle) down

  -- an old request, as an old one of these phases
  abbrev Old : List Packet → Request → Type 0
  Old rest old = OldPhase setting v old rest

  -- by the phase
  down_request-by : (phase : Phase) (g : GuardId) (old : Request) (rest : List Packet)
      → Has v (signs_of phase) → Fits setting phase v.remote → v.remote.place ≡ Trans g
      → v.down ≡ as_packet old ∷ rest → Old rest old
  down_request-by (RequestComes r) g old rest has fits waits down =
      absurd (idle-not_waiting v.remote.place g fits waits)
  down_request-by (RequestsCross q r) g old rest has fits waits down =
      let only : v.down ≡ as_packet r ∷ [] = has.down in
      let none : rest ≡ [] = cc in
      let same : r ≡ old = same_request r old (cc) in
      subst (Old rest) same (OldCrosses q none (record { has = has; fits = fits }))
  down_request-by (RequestIsHeld q (Some o)) g old rest has fits waits down =
      let only : v.down ≡ as_packet o ∷ [] = has.down in
      let none : rest ≡ [] = cc in
      let same : o ≡ old = same_request o old (cc) in
      subst (Old rest) same (OldHeld q none (record { has = has; fits = fits }))
  down_request-by (AnswerComes q (Some o) answer None) g old rest has fits waits down =
      let both : v.down ≡ as_packet o ∷ answer ∷ [] = has.down in
      let behind : rest ≡ answer ∷ [] = cc in
      let same : o ≡ old = same_request o old (cc) in
      subst (Old rest) same (OldAnswered q answer None behind (record { has = has; fits = fits }))
  down_request-by (AnswerComes q (Some o) answer (Some r)) g old rest has fits waits down =
      let three : v.down ≡ as_packet o ∷ answer ∷ as_packet r ∷ [] = has.down in
      let behind : rest ≡ answer ∷ as_packet r ∷ [] = cc in
      let same : o ≡ old = same_request o old (cc) in
      subst (Old rest) same
      (OldAnswered q answer (Some r) behind (record { has = has; fits = fits }))
  down_request-by (AnswerComes q None answer None) g old rest has fits waits down =
      let first : answer ≡ as_packet old = cc in
      absurd (request-no_answer (reply_to setting q.message) answer old fits.2 first)
  down_request-by (AnswerComes q None answer (Some r)) g old rest has fits waits down =
      let first : answer ≡ as_packet old = cc in
      absurd (request-no_answer (reply_to setting q.message) answer old fits.2 first)
  down_request-by (ReplyIsOwed q (Some o) p) g old rest has fits waits down =
      let only : v.down ≡ as_packet o ∷ [] = has.down in
      let none : rest ≡ [] = cc in
      let same : o ≡ old = same_request o old (cc) in
      subst (Old rest) same (OldOwed q p none (record { has = has; fits = fits }))
  down_request-by phase g old rest has fits waits down = absurd (cc)

  -- a request comes down to a remote that waits
  pub down_request-phase : (g : GuardId) (old : Request) (rest : List Packet) → IsInPhase setting v
      → v.remote.place ≡ Trans g → v.down ≡ as_packet old ∷ rest → OldPhase setting v old rest
  down_request-phase g old rest is waits down =
      down_request-by is.phase g old rest is.has is.fits waits down

  -- this packet answers the remote's request, and behind it comes the request that the home waits
  -- for the remote to answer, if there is one
  abbrev pub GetsAnswer : List Packet → Packet → Option Request → Type 0
  GetsAnswer rest first awaited =
      (q : Request) × (rest ≡ packets_of awaited)
      × IsIn setting v (AnswerComes q None first awaited)

  -- by the phase
  down_answer-by : (phase : Phase) (first : Packet) (rest : List Packet) → Has v (signs_of phase)
      → Fits setting phase v.remote → is_request first ≡ false → v.down ≡ first ∷ rest
      → GetsAnswer rest first v.awaited
  down_answer-by (RequestComes r) first rest has fits none down =
      let is : first ≡ as_packet r = cc in absurd (request-is_request first r none is)
  down_answer-by (RequestsCross q r) first rest has fits none down =
      let is : first ≡ as_packet r = cc in absurd (request-is_request first r none is)
  down_answer-by (RequestIsHeld q (Some old)) first rest has fits none down =
      let is : first ≡ as_packet old = cc in absurd (request-is_request first old none is)
  down_answer-by (ReplyIsOwed q (Some old) p) first rest has fits none down =
      let is : first ≡ as_packet old = cc in absurd (request-is_request first old none is)
  down_answer-by (AnswerComes q (Some old) answer None) first rest has fits none down =
      let is : first ≡ as_packet old = cc in absurd (request-is_request first old none is)
  down_answer-by (AnswerComes q (Some old) answer (Some r)) first rest has fits none down =
      let is : first ≡ as_packet old = cc in absurd (request-is_request first old none is)
  down_answer-by (AnswerComes q None answer None) first rest has fits none down =
      let only : v.down ≡ answer ∷ [] = has.down in
      let nothing : rest ≡ [] = cc in
      let same : answer ≡ first = cc in
      subst₂ (GetsAnswer rest) same (sym has.awaited)
      (q, nothing, record { has = has; fits = fits })
  down_answer-by (AnswerComes q None answer (Some r)) first rest has fits none down =
      let both : v.down ≡ answer ∷ as_packet r ∷ [] = has.down in
      let behind : rest ≡ as_packet r ∷ [] = cc in
      let same : answer ≡ first = cc in
      subst₂ (GetsAnswer rest) same (sym has.awaited)
      (q, behind, record { has = has; fits = fits })
  down_answer-by phase first rest has fits none down = absurd (cc)

  -- no request comes down first
  pub down_answer-phase : (first : Packet) (rest : List Packet) → IsInPhase setting v
      → is_request first ≡ false → v.down ≡ first ∷ rest → GetsAnswer rest first v.awaited
  down_answer-phase first rest is none down =
      down_answer-by is.phase first rest is.has is.fits none down

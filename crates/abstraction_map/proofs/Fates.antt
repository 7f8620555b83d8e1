-- What became of a request, by the packets on a link: what a put and a take do to it, and what it
-- is in each phase.
use Rattle.std.proofs.Common.{◌≡◌, Bool, true, false, List, [], ◌∷◌, ◌++◌, drop, Option, Some, None}
use Rattle.std.proofs.Common.{is_some, ℕ, refl, sym, ap, ap₂, ◌∙◌}
use Rattle.proto_model.specs.Numbered.{NumberedProtocol}
use Rattle.proto_model.specs.declared.numbered.Value.{Value}
use Rattle.controller_table.specs.declared.rows.Place.{Place}
use Rattle.controller_table.specs.declared.rows.Place.TheVariants.{Comm, Trans, Due}
use Rattle.ordered_links.specs.declared.packet.Packet.{Packet}
use Rattle.ordered_links.specs.declared.packet.Packet.TheVariants as packet
use Rattle.async_shape.specs.Setting.{Setting}
use Rattle.async_shape.specs.View.{View}
use Rattle.async_shape.specs.Phase.{Phase, Resting, RequestComes, RequestInSlot, AnswerGoes}
use Rattle.async_shape.specs.Phase.{ReplyIsDue, RequestGoes, RequestsCross, RequestCrossed}
use Rattle.async_shape.specs.Phase.{AnswerThenRequestGo, RequestIsHeld, AnswerComes, ReplyIsOwed}
use Rattle.async_shape.specs.Phase.{as_packet, packets_of, down_list, signs_of, is_idle_place}
use Rattle.async_shape.specs.Phase.{waits_at, due_at, Fits}
use Rattle.async_shape.specs.declared.config.RemoteState.{RemoteState}
use Rattle.async_shape.specs.declared.config.Request.{Request}
use Rattle.async_shape.proofs.Phases.{IsIn}
use Rattle.abstraction_map.specs.Abstraction.{Fate, NotGranted, Granted, Replied, granted_if}
use Rattle.abstraction_map.specs.Abstraction.{fate_in, is_due, remote_fate, awaited_fate}

-- ---- packets that are put

-- what became of a request to which this packet is the answer
abbrev pub fate_by : Packet → Fate
fate_by answer = fate_in (answer ∷ []) false

-- what became of a request, where these packets come behind the others
abbrev fate_then : Fate → List Packet → Fate
fate_then NotGranted more = fate_in more false
fate_then Granted more = fate_in more true
fate_then (Replied v) more = Replied v

-- what follows decides behind what went before
fate_in-append : (packets more : List Packet) (granted : Bool)
    → fate_in (packets ++ more) granted ≡ fate_then (fate_in packets granted) more
fate_in-append [] more true = refl
fate_in-append [] more false = refl
fate_in-append (packet.Request m v ∷ packets) more granted = fate_in-append packets more granted
fate_in-append (packet.Ack ∷ packets) more granted = fate_in-append packets more true
fate_in-append (packet.Nack ∷ packets) more granted = fate_in-append packets more granted
fate_in-append (packet.Reply p v ∷ packets) more granted = refl

-- Where a request was not granted, the packet that is put decides.
pub fate_in-put : (packets : List Packet) (last : Packet) (granted : Bool)
    → fate_in packets granted ≡ NotGranted
    → fate_in (packets ++ last ∷ []) granted ≡ fate_by last
fate_in-put packets last granted yet =
    fate_in-append packets (last ∷ []) granted ∙ ap (λ (f : Fate). fate_then f (last ∷ [])) yet

-- a request behind the others decides nothing
then_request : (f : Fate) (m : ℕ) (v : Value) → fate_then f (packet.Request m v ∷ []) ≡ f
then_request NotGranted m v = refl
then_request Granted m v = refl
then_request (Replied w) m v = refl

-- nor does a nack
then_nack : (f : Fate) → fate_then f (packet.Nack ∷ []) ≡ f
then_nack NotGranted = refl
then_nack Granted = refl
then_nack (Replied w) = refl

-- A request that is put decides nothing.
pub fate_in-put_request : (packets : List Packet) (m : ℕ) (v : Value) (granted : Bool)
    → fate_in (packets ++ packet.Request m v ∷ []) granted ≡ fate_in packets granted
fate_in-put_request packets m v granted =
    fate_in-append packets (packet.Request m v ∷ []) granted
    ∙ then_request (fate_in packets granted) m v

-- A nack that is put decides nothing.
pub fate_in-put_nack : (packets : List Packet) (granted : Bool)
    → fate_in (packets ++ packet.Nack ∷ []) granted ≡ fate_in packets granted
fate_in-put_nack packets granted =
    fate_in-append packets (packet.Nack ∷ []) granted ∙ then_nack (fate_in packets granted)

-- ---- packets that are taken, and requests alone

-- A request that is taken decides nothing.
pub fate_in-take_request : (packets rest : List Packet) (r : Request) (granted : Bool)
    → packets ≡ as_packet r ∷ rest → fate_in (drop 1 packets) granted ≡ fate_in packets granted
fate_in-take_request packets rest r granted first =
    ap (λ (ps : List Packet). fate_in (drop 1 ps) granted) first
    ∙ sym (ap (λ (ps : List Packet). fate_in ps granted) first)

-- Where a request, or none, is on the link, it is granted where it was granted otherwise.
pub fate_in-packets_of : (r : Option Request) (granted : Bool)
    → fate_in (packets_of r) granted ≡ granted_if granted
fate_in-packets_of None granted = refl
fate_in-packets_of (Some r) granted = refl

-- ---- who is due

-- an idle remote is not due
pub is_due-idle : (place : Place) → is_idle_place place ≡ true → is_due place ≡ false
is_due-idle (Comm state) idle = refl
is_due-idle (Trans g) idle = refl
is_due-idle (Due g) idle = absurd (cc)

-- nor is one that waits
pub is_due-waiting : (protocol : NumberedProtocol) (vars : List Value) (place : Place) (q : Request)
    → waits_at protocol vars place ≡ Some q → is_due place ≡ false
is_due-waiting protocol vars (Comm state) q waits = refl
is_due-waiting protocol vars (Trans g) q waits = refl
is_due-waiting protocol vars (Due g) q waits = absurd (cc)

-- a remote that is due is due, as a test says
pub is_due-due : (protocol : NumberedProtocol) (place : Place) (p : ℕ)
    → due_at protocol place ≡ Some p → is_due place ≡ true
is_due-due protocol (Comm state) p due = absurd (cc)
is_due-due protocol (Trans g) p due = absurd (cc)
is_due-due protocol (Due g) p due = refl

-- ---- by phase

-- what became of the request by which a remote in this phase waits
abbrev pub remote_fate_in : Phase → Fate
remote_fate_in (AnswerComes q old answer awaited) = fate_by answer
remote_fate_in (ReplyIsOwed q old p) = Granted
remote_fate_in phase = NotGranted

-- what became of the home's request, where it waits on a remote in this phase
abbrev pub awaited_fate_in : Phase → Fate
awaited_fate_in (AnswerGoes r answer) = fate_by answer
awaited_fate_in (AnswerThenRequestGo q r answer) = fate_by answer
awaited_fate_in (ReplyIsDue r) = Granted
awaited_fate_in phase = NotGranted

-- a remote in this phase is due
abbrev pub is_due_in : Phase → Bool
is_due_in (ReplyIsDue r) = true
is_due_in phase = false

-- an answer, behind an old request and before another one
fate_in-down_list : (old awaited : Option Request) (answer : Packet)
    → fate_in (down_list old answer awaited) false ≡ fate_by answer
fate_in-down_list None None answer = refl
fate_in-down_list (Some o) None answer = refl
fate_in-down_list None (Some r) answer =
    fate_in-put_request (answer ∷ []) r.message r.value false
fate_in-down_list (Some o) (Some r) answer =
    fate_in-put_request (answer ∷ []) r.message r.value false

-- the fate of a remote's request, by phase
fate_in-down : (phase : Phase)
    → fate_in (signs_of phase).down (is_some (signs_of phase).owed) ≡ remote_fate_in phase
fate_in-down (RequestIsHeld q old) = fate_in-packets_of old false
fate_in-down (AnswerComes q old answer awaited) = fate_in-down_list old awaited answer
fate_in-down (ReplyIsOwed q old p) = fate_in-packets_of old true
fate_in-down phase = refl

-- the fate of the home's request, by phase
fate_in-up : (phase : Phase)
    → fate_in (signs_of phase).up (is_due_in phase) ≡ awaited_fate_in phase
fate_in-up (AnswerThenRequestGo q r answer) =
    fate_in-put_request (answer ∷ []) q.message q.value false
fate_in-up phase = refl

module _ (setting : Setting) where
  -- whether the remote is due, by phase
  pub is_due-in : (phase : Phase) (remote : RemoteState) → Fits setting phase remote
      → is_due remote.place ≡ is_due_in phase
  is_due-in Resting remote fits = is_due-idle remote.place fits
  is_due-in (RequestComes r) remote fits = is_due-idle remote.place fits
  is_due-in (RequestInSlot r) remote fits = is_due-idle remote.place fits
  is_due-in (AnswerGoes r answer) remote fits = is_due-idle remote.place fits.0
  is_due-in (ReplyIsDue r) remote fits =
      is_due-due setting.protocol remote.place fits.0 fits.1
  is_due-in (RequestGoes q) remote fits =
      is_due-waiting setting.protocol remote.vars remote.place q fits
  is_due-in (RequestsCross q r) remote fits =
      is_due-waiting setting.protocol remote.vars remote.place q fits
  is_due-in (RequestCrossed q r) remote fits =
      is_due-waiting setting.protocol remote.vars remote.place q fits
  is_due-in (AnswerThenRequestGo q r answer) remote fits =
      is_due-waiting setting.protocol remote.vars remote.place q fits.0
  is_due-in (RequestIsHeld q old) remote fits =
      is_due-waiting setting.protocol remote.vars remote.place q fits.0
  is_due-in (AnswerComes q old answer awaited) remote fits =
      is_due-waiting setting.protocol remote.vars remote.place q fits.0
  is_due-in (ReplyIsOwed q old p) remote fits =
      is_due-waiting setting.protocol remote.vars remote.place q fits.0

  -- What became of the remote's request, by its phase.
  pub remote_fate-is : (v : View) (phase : Phase) → IsIn setting v phase
      → remote_fate v ≡ remote_fate_in phase
  remote_fate-is v phase is =
      ap₂ (λ (down : List Packet) (owed : Option ℕ). fate_in down (is_some owed)) is.has.down
      is.has.owed
      ∙ fate_in-down phase

  -- What became of the home's request, by the phase of the remote on which it waits.
  pub awaited_fate-is : (v : View) (phase : Phase) → IsIn setting v phase
      → awaited_fate v ≡ awaited_fate_in phase
  awaited_fate-is v phase is =
      ap₂ fate_in is.has.up (is_due-in phase v.remote is.fits) ∙ fate_in-up phase

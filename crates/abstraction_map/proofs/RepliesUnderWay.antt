-- A reply that is under way answers the request by which its process waits, with a value of its
-- type.
use Rattle.std.proofs.Common.{◌≡◌, ℕ, true, Option, Some, None, sym, subst, ◌∙◌}
use Rattle.std.specs.List.{AllByRecursion}
use Rattle.proto_model.specs.declared.numbered.Value.{Value}
use Rattle.ordered_links.specs.declared.packet.Packet.{Packet}
use Rattle.ordered_links.specs.declared.packet.Packet.TheVariants as packet
use Rattle.async_shape.specs.Setting.{Setting, reply_to}
use Rattle.async_shape.specs.View.{View}
use Rattle.async_shape.specs.Phase.{Phase, AnswerGoes, AnswerThenRequestGo, AnswerComes, down_list}
use Rattle.async_shape.specs.Phase.{Has, signs_of, is_answer, WaitsBy, Fits, IsTypedMessage}
use Rattle.async_shape.specs.Phase.{IsTypedPacket, Case}
use Rattle.async_shape.specs.declared.config.Request.{Request}
use Rattle.async_shape.proofs.Completed.{is_answer-reply}
use Rattle.abstraction_map.specs.Abstraction.{Fate, Replied, remote_fate, awaited_fate}
use Rattle.abstraction_map.proofs.Fates.{remote_fate_in, awaited_fate_in, remote_fate-is}
use Rattle.abstraction_map.proofs.Fates.{awaited_fate-is}

-- an answer on a down link is typed
typed-answer : (setting : Setting) (old awaited : Option Request) (answer : Packet)
    → AllByRecursion (IsTypedPacket setting.protocol) (down_list old answer awaited)
    → IsTypedPacket setting.protocol answer
typed-answer setting None None answer all = all.0
typed-answer setting None (Some r) answer all = all.0
typed-answer setting (Some o) None answer all = all.1.0
typed-answer setting (Some o) (Some r) answer all = all.1.0

-- A reply with this value answers the request q.
pub record IsReplyTo (setting : Setting) (q : Request) (w : Value) : Type 0 where
  pub p : ℕ
  pub reply : reply_to setting q.message ≡ Some p
  pub typed : IsTypedMessage setting.protocol p w

module _ (setting : Setting) (v : View) where
  -- what answers q with the value w, as a reply
  reply-to : (q : Request) (p : ℕ) (x w : Value)
      → IsTypedPacket setting.protocol (packet.Reply p x)
      → is_answer (reply_to setting q.message) (packet.Reply p x) ≡ true
      → ◌≡◌ {A = Fate} (Replied x) (Replied w) → IsReplyTo setting q w
  reply-to q p x w typed answers same =
      let value : x ≡ w = cc in
      record {
        p = p;
        reply = is_answer-reply (reply_to setting q.message) p x answers;
        typed = subst (IsTypedMessage setting.protocol p) value typed;
      }

  -- The reply to a remote's request is under way.
  remote_replied-by : (phase : Phase) (w : Value) → Has v (signs_of phase)
      → Fits setting phase v.remote
      → AllByRecursion (IsTypedPacket setting.protocol) (signs_of phase).down
      → remote_fate_in phase ≡ Replied w
      → (q : Request) × WaitsBy setting.protocol q v.remote × IsReplyTo setting q w
  remote_replied-by (AnswerComes q old (packet.Reply p x) awaited) w has fits typed became =
      let all = typed-answer setting old awaited (packet.Reply p x) typed in
      (q, fits.0, reply-to q p x w all fits.2 became)
  remote_replied-by phase w has fits typed became = absurd (cc)

  -- The reply to the home's request is under way.
  home_replied-by : (phase : Phase) (w : Value) → Has v (signs_of phase)
      → Fits setting phase v.remote
      → AllByRecursion (IsTypedPacket setting.protocol) (signs_of phase).up
      → awaited_fate_in phase ≡ Replied w
      → (r : Request) × (v.awaited ≡ Some r) × IsReplyTo setting r w
  home_replied-by (AnswerGoes r (packet.Reply p x)) w has fits typed became =
      (r, has.awaited, reply-to r p x w typed.0 fits.1 became)
  home_replied-by (AnswerThenRequestGo q r (packet.Reply p x)) w has fits typed became =
      (r, has.awaited, reply-to r p x w typed.0 fits.1 became)
  home_replied-by phase w has fits typed became = absurd (cc)

  -- ---- by what became of the request

  -- a reply that decides for a remote answers its request
  pub remote-replied_to : Case setting v → (w : Value) → remote_fate v ≡ Replied w
      → (q : Request) × WaitsBy setting.protocol q v.remote × IsReplyTo setting q w
  remote-replied_to case w became =
      let is = case.in_phase in
      let fate = remote_fate-is setting v is.phase (record { has = is.has; fits = is.fits }) in
      remote_replied-by is.phase w is.has is.fits
      (subst (AllByRecursion (IsTypedPacket setting.protocol)) is.has.down case.typed.down)
      (sym fate ∙ became)

  -- a reply that decides for the home answers its request
  pub home-replied_to : Case setting v → (w : Value) → awaited_fate v ≡ Replied w
      → (r : Request) × (v.awaited ≡ Some r) × IsReplyTo setting r w
  home-replied_to case w became =
      let is = case.in_phase in
      let fate = awaited_fate-is setting v is.phase (record { has = is.has; fits = is.fits }) in
      home_replied-by is.phase w is.has is.fits
      (subst (AllByRecursion (IsTypedPacket setting.protocol)) is.has.up case.typed.up)
      (sym fate ∙ became)

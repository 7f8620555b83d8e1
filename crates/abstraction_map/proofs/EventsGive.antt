-- What is given in an event: the held request that is taken, the reply that the home pays, the
-- request in the slot that is answered, and the reply that a due remote sends.
use Rattle.std.proofs.Common.{◌≡◌, ℕ, ◌<◌, List, Option, Some, slice_get, sym, ap, subst, ◌∙◌}
use Rattle.std.specs.Option.{option_and_then}
use Rattle.std.proofs.lemmas.Option.{slice_get_within, get_or_from_slice_get}
use Rattle.proto_model.specs.Numbered.{NumberedProtocol}
use Rattle.proto_model.specs.Guards.{part, guard_at}
use Rattle.proto_model.specs.RendezvousNext.{given}
use Rattle.proto_model.specs.declared.numbered.Value.{Value}
use Rattle.proto_model.specs.declared.numbered.MessageInfo.{MessageInfo}
use Rattle.proto_model.specs.declared.numbered.Rule.{Rule}
use Rattle.proto_model.specs.declared.numbered.Body.{Body}
use Rattle.proto_model.specs.declared.rendezvous.Part.{Part}
use Rattle.proto_model.specs.declared.rendezvous.RvConfig.{RvConfig}
use Rattle.controller_table.specs.declared.rows.GuardId.{GuardId}
use Rattle.controller_table.specs.declared.rows.Place.TheVariants.{Due}
use Rattle.async_shape.specs.Setting.{Setting}
use Rattle.async_shape.specs.Config.{Config, count_of}
use Rattle.async_shape.specs.Guards.{guard_by}
use Rattle.async_shape.specs.View.{nobody, view_at}
use Rattle.async_shape.specs.Phase.{RequestInSlot, IsRemotePlace, IsActiveGuard}
use Rattle.async_shape.specs.Shape.{IsShaped}
use Rattle.async_shape.specs.declared.config.HomePlace.{HomePlace}
use Rattle.async_shape.specs.declared.config.HomePlace.TheVariants.{Waits}
use Rattle.async_shape.specs.declared.config.RemoteState.{RemoteState}
use Rattle.async_shape.specs.declared.config.Waiting.{Waiting}
use Rattle.async_shape.specs.declared.config.Request.{Request}
use Rattle.async_shape.proofs.ShapeParts.{IsShaped-whole, IsShaped-case}
use Rattle.async_shape.proofs.Phases.{slot-phase}
use Rattle.abstraction_map.specs.Abstraction.{abstraction}
use Rattle.abstraction_map.proofs.ByCase.{part-due, home-in_phase, waits-for, remote_stands}
use Rattle.abstraction_map.proofs.HomeTakeMeans.{RemoteGives}
use Rattle.abstraction_map.proofs.Frames.{parts-at}

-- the message that a process gives by this guard, and its value; none where it gives none
abbrev pub given_by_part : List MessageInfo → Body → Part → ℕ → Option (ℕ × Value)
given_by_part messages body p g =
    option_and_then (λ rule. given messages p.vars rule.kind) (guard_at body p.state g)

-- what remote j gives by a guard
pub RemoteGives-is : (protocol : NumberedProtocol) (config : RvConfig) (j r : ℕ)
    (message : ℕ × Value) → RemoteGives protocol config j r message
    → option_and_then (λ p. given_by_part protocol.messages protocol.remote p r)
    (slice_get config.remotes j)
    ≡ Some message
RemoteGives-is protocol config j r message is =
    ap (option_and_then (λ (p : Part). given_by_part protocol.messages protocol.remote p r))
    is.there
    ∙ ap (option_and_then (λ (rule : Rule). given protocol.messages is.remote.vars rule.kind))
    is.guard
    ∙ is.gives

-- a home waits in one way
waits-same : (a b : Waiting) → ◌≡◌ {A = HomePlace} (Waits a) (Waits b) → a ≡ b
waits-same a b same = cc

module _ (setting : Setting) (c : Config) (shaped : IsShaped setting c) (j : ℕ)
    (remote : RemoteState) (there : slice_get c.remotes j ≡ Some remote) where
  -- the remote is there
  within : j < count_of c
  within = slice_get_within c.remotes j remote there

  -- the view has the record of the remote
  seen : (view_at setting.protocol c j).remote ≡ remote
  seen = get_or_from_slice_get c.remotes j remote nobody there

  -- the home gives this message in the abstraction, by the guard by which it waits so
  abbrev pub GivesBy : Waiting → ℕ × Value → Type 0
  GivesBy waiting message =
      given_by_part setting.protocol.messages setting.protocol.home
      (abstraction setting.protocol c).home waiting.by.guard
      ≡ Some message

  -- Where a request is in the slot, the home gives it by the guard by which it waits.
  pub answer-gives : (r : Request) (waiting : Waiting) → remote.slot ≡ Some r
      → c.home.place ≡ Waits waiting → GivesBy waiting (r.message, r.value)
  answer-gives r waiting slot waits =
      let protocol = setting.protocol in
      let v = view_at protocol c j in
      let case = IsShaped-case setting c shaped j within in
      let is =
      slot-phase setting v r case.in_phase (ap (λ (s : RemoteState). s.slot) seen ∙ slot) in
      let w = waits-for setting c j r (IsShaped-whole setting c shaped) is.has.awaited in
      let same : w.waiting ≡ waiting = waits-same w.waiting waiting (sym w.waits ∙ waits) in
      let gives : GivesBy w.waiting (r.message, r.value) =
      ap (λ (p : Part). given_by_part protocol.messages protocol.home p w.waiting.by.guard)
      (home-in_phase setting c j w.waiting (RequestInSlot r) w.waits w.on is)
      ∙ ap (option_and_then (λ (rule : Rule). given protocol.messages c.home.vars rule.kind))
      w.there
      ∙ w.gives in
      subst (λ (w : Waiting). GivesBy w (r.message, r.value)) same gives

  -- A due remote gives by guard 0 what it gives by the guard by which it is due.
  pub reply-gives : (g : GuardId) → remote.place ≡ Due g
      → option_and_then
      (λ p. given_by_part setting.protocol.messages setting.protocol.remote p 0)
      (slice_get (abstraction setting.protocol c).remotes j)
      ≡ option_and_then (λ rule. given setting.protocol.messages remote.vars rule.kind)
      (guard_by setting.protocol.remote g)
  reply-gives g due =
      let protocol = setting.protocol in
      let body = protocol.remote in
      let v = view_at protocol c j in
      let is_due = ap (λ (s : RemoteState). s.place) seen ∙ due in
      let active : IsActiveGuard protocol g =
      subst (IsRemotePlace protocol) is_due (IsShaped-case setting c shaped j within).typed.place in
      let stands : remote_stands protocol c j ≡ part g.state remote.vars =
      part-due body v g is_due ∙ ap (λ (s : RemoteState). part g.state s.vars) seen in
      let rule_gives : Rule → Option (ℕ × Value) =
      λ rule. given protocol.messages remote.vars rule.kind in
      ap (option_and_then (λ (p : Part). given_by_part protocol.messages body p 0))
      (parts-at (count_of c) (remote_stands protocol c) j within)
      ∙ ap (λ (p : Part). given_by_part protocol.messages body p 0) stands
      ∙ ap (λ (k : ℕ). option_and_then rule_gives (guard_at body g.state k)) (sym active.2)

-- What is told of a step fits in a line, and an event that takes place has small numbers.
use Rattle.std.proofs.Common.{◌≡◌, ◌≤◌, ◌<◌, ℕ, List}
use Rattle.std.proofs.Common.{length, Option, Some, None, arith, refl, codes}
use Rattle.std.proofs.Common.{slice_get}
use Rattle.std.proofs.Math.Nat.{mul-le-mul_right}
use Rattle.std.proofs.lemmas.Option.{slice_get_within}
use Rattle.rv_base.proofs.Lists.{AllByRecursion-at, some_and_then}
use Rattle.proto_model.specs.Guards.{guard_at}
use Rattle.proto_model.specs.Numbered.{NumberedProtocol}
use Rattle.proto_model.specs.Proper.{IsProper, IsProperBody, IsProperState}
use Rattle.proto_model.specs.Rendezvous.{RvStep, IsConfigOf, IsPartOf}
use Rattle.proto_model.specs.RendezvousNext.{given}
use Rattle.proto_model.specs.Texts.{event_words}
use Rattle.proto_model.specs.ValueTypes.{AreOfKinds}
use Rattle.proto_model.specs.declared.numbered.Value.{Value}
use Rattle.proto_model.specs.declared.numbered.Rule.{Rule}
use Rattle.proto_model.specs.declared.numbered.Side.{Side}
use Rattle.proto_model.specs.declared.numbered.StateInfo.{StateInfo}
use Rattle.proto_model.specs.declared.numbered.MessageInfo.{MessageInfo}
use Rattle.proto_model.specs.declared.numbered.Body.{Body}
use Rattle.proto_model.specs.declared.rendezvous.Part.{Part}
use Rattle.proto_model.specs.declared.rendezvous.RvConfig.{RvConfig}
use Rattle.proto_model.specs.declared.rendezvous.Event.{Event}
use Rattle.proto_model.specs.declared.rendezvous.Event.TheVariants as event
use Rattle.proto_model.proofs.ProperFacts.{home_guard-gives, remote_guard-gives}
use Rattle.rendezvous_meaning.specs.GivenMessage.{event_told, given_text, given_in, given_by}
use Rattle.rendezvous_meaning.specs.GivenMessage.{message_by_number}
use Rattle.schedule_replay.specs.EventLines.{HasNumbers}
use Rattle.trace_soundness.proofs.Plain.{IsPlain}
use Rattle.trace_soundness.proofs.Fits.{Fits, fits-append, fits-less, fits-literal, fits-nil}
use Rattle.trace_soundness.proofs.ValuesFit.{message-fits}
use Rattle.trace_soundness.proofs.PlainWords.{event-plain, text-fits}

-- ---- small numbers

-- a guard has a number below 16
pub guard-small : (s : Side) (messages : List MessageInfo) (body : Body) (state g : ℕ) (rule : Rule)
    → IsProperBody s messages body → guard_at body state g ≡ Some rule → g < 16
guard-small s messages body state g rule proper there =
    let find : StateInfo → Option Rule = λ info. slice_get info.rules g in
    let by = some_and_then find (slice_get body.states state) rule there in
    let few = (AllByRecursion-at (IsProperState s messages body.vars (length body.states))
    body.states
    state by.0 proper.states by.1).few_rules in
    let within = slice_get_within by.0.rules g rule by.2 in
    omega (arith, few, within)

module _ (protocol : NumberedProtocol) (proper : IsProper protocol) (c d : RvConfig)
    (stands : IsConfigOf protocol c) where
  -- a remote that is there has a number below 64
  remote-small : (j : ℕ) (remote : Part) → slice_get c.remotes j ≡ Some remote → j < 64
  remote-small j remote there =
      let within = slice_get_within c.remotes j remote there in
      let few = stands.few_remotes in
      omega (arith, within, few)

  -- the numbers of an event that takes place
  pub event-small : (e : Event) → RvStep protocol c e d → HasNumbers e
  event-small (event.TauHome g) is =
      let small = guard-small _ protocol.messages protocol.home c.home.state g is.rule proper.home
      is.takes.there in
      omega (arith, small)
  event-small (event.TauRemote j g) is =
      let small = guard-small _ protocol.messages protocol.remote is.remote.state g is.rule
      proper.remote is.takes.there in
      let few = remote-small j is.remote is.there in
      (omega (arith, few), omega (arith, small))
  event-small (event.Up j h r) is =
      let few = remote-small j is.remote is.there in
      let small_h = guard-small _ protocol.messages protocol.home c.home.state h is.input
      proper.home
      is.takes in
      let small_r = guard-small _ protocol.messages protocol.remote is.remote.state r is.output
      proper.remote is.gives in
      (omega (arith, few), omega (arith, small_h), omega (arith, small_r))
  event-small (event.Down j h r) is =
      let few = remote-small j is.remote is.there in
      let small_h = guard-small _ protocol.messages protocol.home c.home.state h is.output
      proper.home
      is.gives in
      let small_r = guard-small _ protocol.messages protocol.remote is.remote.state r is.input
      proper.remote is.takes in
      (omega (arith, few), omega (arith, small_h), omega (arith, small_r))

-- ---- the message

module _ (protocol : NumberedProtocol) (proper : IsProper protocol) (plain : IsPlain protocol) where
  -- a message that is given, behind a space
  given-fits : (message : Option (ℕ × Value))
      → ((m : ℕ × Value) → message ≡ Some m
      → Fits 228 (message_by_number protocol.messages m.0 m.1))
      → Fits 229 (given_text protocol.messages message)
  given-fits None each = fits-nil 229
  given-fits (Some m) each = fits-append (fits-literal (codes " ") refl) (each m refl)

  -- what the home gives by a guard
  home-gives : (part : Part) → AreOfKinds protocol.home.vars part.vars → (g : ℕ) (m : ℕ × Value)
      → given_by protocol.messages protocol.home part g ≡ Some m
      → Fits 228 (message_by_number protocol.messages m.0 m.1)
  home-gives part kinds g m gives =
      let give : Rule → Option (ℕ × Value) = λ rule. given protocol.messages part.vars rule.kind in
      let by = some_and_then give (guard_at protocol.home part.state g) m gives in
      message-fits protocol proper plain m.0 m.1
      (home_guard-gives protocol part.state g by.0 part.vars proper m by.1 kinds by.2).value

  -- what a remote gives by a guard
  remote-gives : (part : Part) → AreOfKinds protocol.remote.vars part.vars → (g : ℕ) (m : ℕ × Value)
      → given_by protocol.messages protocol.remote part g ≡ Some m
      → Fits 228 (message_by_number protocol.messages m.0 m.1)
  remote-gives part kinds g m gives =
      let give : Rule → Option (ℕ × Value) = λ rule. given protocol.messages part.vars rule.kind in
      let by = some_and_then give (guard_at protocol.remote part.state g) m gives in
      message-fits protocol proper plain m.0 m.1
      (remote_guard-gives protocol part.state g by.0 part.vars proper m by.1 kinds by.2).value

  -- what is given in an event
  gives : (c : RvConfig) → IsConfigOf protocol c → (e : Event) (m : ℕ × Value)
      → given_in protocol c e ≡ Some m → Fits 228 (message_by_number protocol.messages m.0 m.1)
  gives c stands (event.TauHome g) m is = absurd (cc)
  gives c stands (event.TauRemote j g) m is = absurd (cc)
  gives c stands (event.Up j h r) m is =
      let give : Part → Option (ℕ × Value) =
      λ remote. given_by protocol.messages protocol.remote remote r in
      let by = some_and_then give (slice_get c.remotes j) m is in
      remote-gives by.0 (AllByRecursion-at (IsPartOf protocol.remote) c.remotes j by.0
      stands.remotes
      by.1).vars r m by.2
  gives c stands (event.Down j h r) m is = home-gives c.home stands.home.vars h m is

  -- how many words an event has
  few-words : (e : Event) → length (event_words e) ≤ 4
  few-words (event.TauHome g) = omega arith
  few-words (event.TauRemote j g) = omega arith
  few-words (event.Up j h r) = omega arith
  few-words (event.Down j h r) = omega arith

  -- what is told of an event
  pub event_told-fits : (c : RvConfig) → IsConfigOf protocol c → (e : Event) → HasNumbers e
      → Fits 257 (event_told protocol c e)
  event_told-fits c stands e small =
      fits-append
      (fits-less 28 (text-fits (event_words e) (event-plain e small))
      (mul-le-mul_right 7 (few-words e)))
      (given-fits (given_in protocol c e) (gives c stands e))

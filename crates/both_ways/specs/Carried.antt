-- Which events the controllers carry out. Where two guards of a state take the same message, they
-- complete the first one, and never the other.
use Rattle.std.specs.Prelude.{◌≡◌, ℕ, ◌<◌, Bool, true, false, not, ◌&&◌, List, Option, Some}
use Rattle.std.specs.Prelude.{is_some, slice_get, take}
use Rattle.std.specs.Option.{option_map_or, option_and_then}
use Rattle.std.specs.List.{list_any}
use Rattle.proto_model.specs.Numbered.{NumberedProtocol}
use Rattle.proto_model.specs.Values.{may_meet}
use Rattle.proto_model.specs.ValueTypes.{message_out}
use Rattle.proto_model.specs.Guards.{guards_of, guard_at}
use Rattle.proto_model.specs.Rendezvous.{RvStep}
use Rattle.proto_model.specs.RendezvousNext.{accepts, rv_next}
use Rattle.proto_model.specs.declared.numbered.Rule.{Rule}
use Rattle.proto_model.specs.declared.numbered.Body.{Body}
use Rattle.proto_model.specs.declared.rendezvous.Part.{Part}
use Rattle.proto_model.specs.declared.rendezvous.RvConfig.{RvConfig}
use Rattle.proto_model.specs.declared.rendezvous.Event.{Event}
use Rattle.proto_model.specs.declared.rendezvous.Event.TheVariants as event

-- ---- the guards in front of one

-- no guard in front of guard g passes the test
abbrev pub NoneBefore : (Rule → Bool) → List Rule → ℕ → Type 0
NoneBefore test rules g =
    (i : ℕ) (rule : Rule) → i < g → slice_get rules i ≡ Some rule → test rule ≡ false

-- the same, computed
abbrev pub none_before : (Rule → Bool) → List Rule → ℕ → Bool
none_before test rules g = not (list_any test (take g rules))

-- ---- who takes what

-- the home takes this message of remote j by the guard: it is an open input of the message, and j
-- is a target of it
abbrev pub home_takes : Part → ℕ → ℕ → Rule → Bool
home_takes home j m rule = accepts home.vars rule m && may_meet home.vars rule.kind j

-- a remote takes this message by the guard: it is an open input of the message
abbrev pub remote_takes : Part → ℕ → Rule → Bool
remote_takes remote m rule = accepts remote.vars rule m

-- the message that a process gives by its guard g; none where guard g isn't there or gives none
abbrev pub message_by : Body → Part → ℕ → Option ℕ
message_by body p g = option_and_then (λ rule. message_out rule.kind) (guard_at body p.state g)

-- ---- an event that is carried

module _ (protocol : NumberedProtocol) (c : RvConfig) where
  -- the message that remote j gives by its guard r
  abbrev pub up_message : ℕ → ℕ → Option ℕ
  up_message j r =
      option_and_then (λ remote. message_by protocol.remote remote r) (slice_get c.remotes j)

  -- the message that the home gives by its guard h
  abbrev pub down_message : ℕ → Option ℕ
  down_message h = message_by protocol.home c.home h

  -- The controllers complete the guards of the event. The home takes a remote's message by the
  -- first guard of its state that takes it: none in front of guard h does. So a remote takes the
  -- home's message: no guard of its state in front of guard r does. A local step is by any guard.
  abbrev pub AreCompleted : Event → Type 0
  AreCompleted (event.TauHome g) = Unit {0}
  AreCompleted (event.TauRemote j g) = Unit {0}
  AreCompleted (event.Up j h r) =
      (m : ℕ) → up_message j r ≡ Some m
      → NoneBefore (home_takes c.home j m) (guards_of protocol.home c.home.state) h
  AreCompleted (event.Down j h r) =
      (m : ℕ) (remote : Part) → down_message h ≡ Some m → slice_get c.remotes j ≡ Some remote
      → NoneBefore (remote_takes remote m) (guards_of protocol.remote remote.state) r

  -- The event is carried: it takes place in the configuration, and the controllers complete its
  -- guards.
  pub record Carried (e : Event) : Type 0 where
    pub next : RvConfig
    pub step : RvStep protocol c e next
    pub completed : AreCompleted e

  -- the same as `AreCompleted`, computed
  abbrev pub are_completed : Event → Bool
  are_completed (event.TauHome g) = true
  are_completed (event.TauRemote j g) = true
  are_completed (event.Up j h r) =
      option_map_or
      (λ m. none_before (home_takes c.home j m) (guards_of protocol.home c.home.state) h)
      (up_message j r) true
  are_completed (event.Down j h r) =
      option_map_or
      (λ m.
      option_map_or
      (λ remote.
      none_before (remote_takes remote m) (guards_of protocol.remote remote.state) r)
      (slice_get c.remotes j) true)
      (down_message h) true

  -- the same as `Carried`, computed
  abbrev pub carried : Event → Bool
  carried e = is_some (rv_next protocol c e) && are_completed e

-- What is told of a step: the event behind it, or that it is a stutter, or that it is refused.
use Rattle.std.specs.Prelude.{ℕ, Bool, true, false, Option, Some, None, slice_get}
use Rattle.std.specs.Option.{option_map, option_and_then}
use Rattle.proto_model.specs.Numbered.{NumberedProtocol}
use Rattle.proto_model.specs.declared.rendezvous.Event.{Event}
use Rattle.proto_model.specs.declared.rendezvous.Event.TheVariants as event
use Rattle.async_shape.specs.Setting.{Setting}
use Rattle.async_shape.specs.Config.{Config, count_of, owed_to}
use Rattle.async_shape.specs.Guards.{Chosen, answering_guard}
use Rattle.async_shape.specs.Requests.{taking}
use Rattle.async_shape.specs.Next.{is_enabled}
use Rattle.async_shape.specs.declared.config.HomePlace.{HomePlace}
use Rattle.async_shape.specs.declared.config.HomePlace.TheVariants.{Idle, Waits}
use Rattle.async_shape.specs.declared.step.Step.{Step}
use Rattle.async_shape.specs.declared.step.Step.TheVariants as step
use Rattle.abstraction_map.specs.declared.told.Told.{Told}
use Rattle.abstraction_map.specs.declared.told.Told.TheVariants.{Refused, Stutter, Is}

-- this event, or a stutter where there is none
abbrev pub event_or_stutter : Option Event → Told
event_or_stutter (Some e) = Is e
event_or_stutter None = Stutter

-- HomeSend(g, j) as the reply that is owed: remote j takes it by the one guard that awaits it. As a
-- request it is no event yet.
abbrev pub send_event : ℕ → ℕ → Option ℕ → Option Event
send_event g j (Some p) = Some (event.Down j g 0)
send_event g j None = None

-- RemoteAnswer(j) by guard r, where the home waits by guard h: the home's request is taken, and the
-- event is Down(j, h, r). By the shape, the request in a slot is the one by which the home waits.
-- Where no guard r takes it, the request is nacked, and there is no event.
abbrev pub answer_event : ℕ → HomePlace → Option Chosen → Option Event
answer_event j (Idle state) input = None
answer_event j (Waits waiting) None = None
answer_event j (Waits waiting) (Some input) = Some (event.Down j waiting.by.guard input.number)

module _ (protocol : NumberedProtocol) (c : Config) where
  -- HomeTake(j) by guard h: the home takes what remote j gives by its one guard, and the event is
  -- Up(j, h, 0). None where the home takes nothing.
  abbrev pub take_event : ℕ → Option Event
  take_event j =
      option_map (λ what. event.Up j what.guard.number 0)
      (taking (count_of c) protocol.home c.home c.held j)

  -- the guard by which remote j answers the request in its slot, if there is one
  abbrev pub answering : ℕ → Option Chosen
  answering j = option_and_then (answering_guard protocol.remote) (slice_get c.remotes j)

  -- the event behind an enabled step; a step without one is a stutter
  abbrev pub event_behind : Step → Option Event
  event_behind (step.HomeTau g) = Some (event.TauHome g)
  event_behind (step.HomeTake j) = take_event j
  event_behind (step.HomeSend g j) = send_event g j (owed_to c.home j)
  event_behind (step.HomeDrop j) = None
  event_behind (step.RemoteTau j g) = Some (event.TauRemote j g)
  event_behind (step.RemoteSend j) = None
  event_behind (step.RemoteAnswer j) = answer_event j c.home.place (answering j)
  event_behind (step.RemoteReply j) = Some (event.Up j 0 0)
  event_behind (step.Up j) = None
  event_behind (step.Down j) = None

  -- what is told of the step, where it is enabled; one that isn't is refused
  abbrev pub told_if : Bool → Step → Told
  told_if true s = event_or_stutter (event_behind s)
  told_if false s = Refused

-- what is told of a step in this configuration
abbrev pub told : Setting → Config → Step → Told
told setting c s = told_if setting.protocol c (is_enabled setting c s) s

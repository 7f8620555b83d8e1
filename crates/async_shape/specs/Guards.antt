-- The guards that a process chooses among, and where it stands behind the one by which it waited.
use Rattle.std.specs.Prelude.{ℕ, Bool, List, Option, Some, None, slice_get}
use Rattle.std.specs.Option.{option_map, option_and_then}
use Rattle.std.specs.List.{position_from}
use Rattle.proto_model.specs.Proper.{is_output_kind}
use Rattle.proto_model.specs.Guards.{guards_of, guard_at, only_of, after_guard}
use Rattle.proto_model.specs.RendezvousNext.{given, accepts}
use Rattle.proto_model.specs.declared.numbered.Value.{Value}
use Rattle.proto_model.specs.declared.numbered.Value.TheVariants as value
use Rattle.proto_model.specs.declared.numbered.Rule.{Rule}
use Rattle.proto_model.specs.declared.numbered.MessageInfo.{MessageInfo}
use Rattle.proto_model.specs.declared.numbered.Body.{Body}
use Rattle.proto_model.specs.declared.rendezvous.Part.{Part}
use Rattle.controller_table.specs.declared.rows.GuardId.{GuardId}
use Rattle.controller_table.specs.declared.rows.Place.{Place}
use Rattle.controller_table.specs.declared.rows.Place.TheVariants.{Comm, Trans, Due}
use Rattle.async_shape.specs.declared.config.RemoteState.{RemoteState}
use Rattle.async_shape.specs.declared.config.Request.{Request}

-- the guard that a place names; none where a number is out of range
abbrev pub guard_by : Body → GuardId → Option Rule
guard_by body g = guard_at body g.state g.guard

-- ---- a guard that is chosen

-- a guard of the state in which a process stands, and its number there
pub record Chosen : Type 0 where
  pub number : ℕ
  pub rule : Rule

-- the one with this number
abbrev pub chosen_at : List Rule → ℕ → Option Chosen
chosen_at rules g = option_map (λ rule. record { number = g; rule = rule }) (slice_get rules g)

-- the first one that passes the test
abbrev pub first_that : (Rule → Bool) → List Rule → Option Chosen
first_that passes rules = option_and_then (chosen_at rules) (position_from passes 0 rules)

-- the output of an active state; none where the state is passive
abbrev pub active_guard : List Rule → Option Chosen
active_guard rules = first_that (λ rule. is_output_kind rule.kind) rules

-- the state in which a process is idle that stands in this place; none while it waits or is due
abbrev pub idle_state : Place → Option ℕ
idle_state (Comm state) = Some state
idle_state (Trans g) = None
idle_state (Due g) = None

-- The guard by which an idle remote answers the request in its slot: the first one of its state
-- that is an open input of the request's message. None where there is none, where the slot is
-- empty, and where the remote isn't idle.
abbrev pub answering_guard : Body → RemoteState → Option Chosen
answering_guard body remote =
    option_and_then (λ state. option_and_then (λ request.
    first_that (λ rule. accepts remote.vars rule request.message) (guards_of body state))
    remote.slot) (idle_state remote.place)

-- ---- a guard by which a process waits

-- a message and a value, as a request
abbrev pub request_of : ℕ × Value → Request
request_of message = record { message = message.0; value = message.1 }

-- the request that a guard sends with these variables; none where it is no output
abbrev pub request_by : List MessageInfo → Body → List Value → GuardId → Option Request
request_by messages body vars g =
    option_and_then (λ rule. option_map request_of (given messages vars rule.kind))
    (guard_by body g)

-- The process after it has completed with this value the only guard of the state in which it
-- stands; none where that state has not one guard alone.
abbrev pub after_second : Body → Part → ℕ → Value → Option Part
after_second body first partner v =
    option_map (λ second. after_guard body first.vars second second.next partner v)
    (only_of (guards_of body first.state))

-- The process after an ack to the request of this guard, with this partner: it has completed the
-- guard. None where there is no such guard.
abbrev pub after_ack : Body → List Value → GuardId → ℕ → Option Part
after_ack body vars g partner =
    option_map (λ rule. after_guard body vars rule rule.next partner value.Unit) (guard_by body g)

-- The process after a reply with this value to the request of this guard, with this partner: it has
-- completed the guard, and then, with the value, the only guard of the next state. None where there
-- are no such guards.
abbrev pub after_reply : Body → List Value → GuardId → ℕ → Value → Option Part
after_reply body vars g partner v =
    option_and_then (λ first. after_second body first partner v) (after_ack body vars g partner)

-- Which requests complete a guard of the home, which are kept, and which displace another.
use Rattle.std.specs.Prelude.{ℕ, Bool, true, false, not, ◌&&◌, ◌==◌, nat_lt, List, length}
use Rattle.std.specs.Prelude.{Option, is_some}
use Rattle.std.specs.Option.{option_map, option_and_then}
use Rattle.std.specs.List.{list_any}
use Rattle.proto_model.specs.Guards.{guards_of}
use Rattle.proto_model.specs.Values.{may_meet}
use Rattle.proto_model.specs.RendezvousNext.{accepts}
use Rattle.proto_model.specs.declared.numbered.Value.{Value}
use Rattle.proto_model.specs.declared.numbered.Rule.{Rule}
use Rattle.proto_model.specs.declared.numbered.Body.{Body}
use Rattle.slot_reserve.specs.Admission as admission
use Rattle.slot_reserve.specs.Requests.{first_of}
use Rattle.slot_reserve.specs.declared.held.Held.{Held}
use Rattle.async_shape.specs.Guards.{Chosen, first_that}
use Rattle.async_shape.specs.declared.config.HomeState.{HomeState}
use Rattle.async_shape.specs.declared.config.HomePlace.{HomePlace}
use Rattle.async_shape.specs.declared.config.HomePlace.TheVariants.{Idle, Waits}

-- the communication state in which the home is or, while it waits, which it has left
abbrev pub state_of_home : HomePlace → ℕ
state_of_home (Idle state) = state
state_of_home (Waits waiting) = waiting.by.state

-- the home waits for an answer
abbrev pub is_waiting : HomePlace → Bool
is_waiting (Idle state) = false
is_waiting (Waits waiting) = true

-- remote j is one of n, and a target of the guard
abbrev pub is_target_of : ℕ → List Value → Rule → ℕ → Bool
is_target_of n vars rule j = nat_lt j n && may_meet vars rule.kind j

-- The request completes the guard: it is an open input of the request's message, and the sender is
-- a target.
abbrev pub completes_guard : ℕ → List Value → Held → Rule → Bool
completes_guard n vars request rule =
    accepts vars rule request.message && is_target_of n vars rule request.from

-- a held request, and the guard that it completes
pub record Taking : Type 0 where
  pub request : Held
  pub guard : Chosen

-- of n remotes and the home, whose body this is
module _ (n : ℕ) (body : Body) (home : HomeState) where
  -- the first guard of the home's communication state that the request completes
  abbrev pub taking_guard : Held → Option Chosen
  taking_guard request =
      first_that (completes_guard n home.vars request) (guards_of body (state_of_home home.place))

  -- what the home takes of remote j: the first request that is held of it, by the first guard that
  -- it completes; none where there is no such request or no such guard
  abbrev pub taking : List Held → ℕ → Option Taking
  taking held j =
      option_and_then (λ request. option_map (λ guard. record { request = request; guard = guard })
      (taking_guard request)) (first_of j held)

  -- the request completes a guard of the home's communication state
  abbrev pub completes : Held → Bool
  completes request = is_some (taking_guard request)

  -- some held request completes a guard
  abbrev pub some_completes : List Held → Bool
  some_completes held = list_any completes held

  -- Of k slots, the request is kept in one that is free: the ack slot of a waiting home isn't, and
  -- the last one besides it, the progress slot, is for a request that completes a guard.
  abbrev pub is_admitted : ℕ → List Held → Held → Bool
  is_admitted k held request =
      admission.admits (admission.free k (length held) (is_waiting home.place)) (completes request)

  -- The request displaces the last held one where the home is idle and full, it completes a guard,
  -- and no held request does.
  abbrev pub displaces : ℕ → List Held → Held → Bool
  displaces k held request =
      not (is_waiting home.place)
      && (length held == k && (completes request && not (some_completes held)))

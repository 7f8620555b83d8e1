-- What a plan does where it is performed, and what stands behind a step: the guard by which it is
-- made, and the message that is given in it.
use Rattle.std.specs.Prelude.{◌≡◌, ℕ, ◌<◌, List, [], ◌∷◌, ◌++◌, length, Option, Some, None}
use Rattle.std.specs.Prelude.{slice_get, slice_set, IfSome}
use Rattle.std.specs.Option.{option_map, option_and_then}
use Rattle.proto_model.specs.Numbered.{NumberedProtocol}
use Rattle.proto_model.specs.Guards.{guards_of, guard_at}
use Rattle.proto_model.specs.RendezvousNext.{given}
use Rattle.proto_model.specs.declared.numbered.Body.{Body}
use Rattle.proto_model.specs.declared.numbered.MessageInfo.{MessageInfo}
use Rattle.proto_model.specs.declared.numbered.Value.{Value}
use Rattle.controller_table.specs.declared.rows.Place.{Place}
use Rattle.controller_table.specs.declared.rows.Place.TheVariants.{Comm, Trans, Due}
use Rattle.slot_reserve.specs.Requests.{first_of, without_first, displaced}
use Rattle.slot_reserve.specs.declared.held.Held.{Held}
use Rattle.ordered_links.specs.Link.{Link}
use Rattle.async_shape.specs.Setting.{Setting}
use Rattle.async_shape.specs.Config.{Config, count_of}
use Rattle.async_shape.specs.Guards.{active_guard, answering_guard, idle_state}
use Rattle.async_shape.specs.Requests.{taking}
use Rattle.async_shape.specs.Site.{site, arrival_link}
use Rattle.async_shape.specs.Outcome.{HomeOutcome, RemoteOutcome, at_remote, home_idle_state}
use Rattle.async_shape.specs.Next.{StepOutcome, outcome_of}
use Rattle.async_shape.specs.declared.config.HomeState.{HomeState}
use Rattle.async_shape.specs.declared.config.HomePlace.TheVariants.{Idle}
use Rattle.async_shape.specs.declared.config.RemoteState.{RemoteState}
use Rattle.async_shape.specs.declared.config.Request.{Request}
use Rattle.async_shape.specs.declared.step.Step.{Step}
use Rattle.async_shape.specs.declared.step.Step.TheVariants as step
use Rattle.proto_model.specs.declared.rendezvous.Part.{Part}
use Rattle.async_machine.specs.Moves.{put_said}
use Rattle.async_machine.specs.declared.sending.Sends.{Sends}
use Rattle.async_machine.specs.declared.planned.Debt.{Debt}
use Rattle.async_machine.specs.declared.planned.HomeChange.{HomeChange}
use Rattle.async_machine.specs.declared.planned.HeldChange.{HeldChange}
use Rattle.async_machine.specs.declared.planned.HeldChange.TheVariants.{Stays, Leaves, Joins}
use Rattle.async_machine.specs.declared.planned.HeldChange.TheVariants.{MakesRoom}
use Rattle.async_machine.specs.declared.planned.Change.{Change}
use Rattle.async_machine.specs.declared.planned.Change.TheVariants.{Home, Remote}
use Rattle.async_machine.specs.declared.planned.Planned.{Planned}

-- ---- what a plan changes

-- the debts, where this one changes, if one does
abbrev pub owed_after : Option Debt → List (Option ℕ) → List (Option ℕ)
owed_after None owed = owed
owed_after (Some debt) owed = slice_set owed debt.to debt.message

-- the home after this change
abbrev pub home_after : HomeChange → HomeState → HomeState
home_after change home = record {
  place = change.place;
  vars = change.vars;
  owed = owed_after change.debt home.owed;
}

-- the home stays where it is
abbrev pub staying : HomeState → HomeChange
staying home = record { place = home.place; vars = home.vars; debt = None }

-- the home stands idle where this part stands
abbrev pub standing_at : Part → HomeChange
standing_at p = record { place = Idle p.state; vars = p.vars; debt = None }

-- what is held after this change: as before; without the first request of a remote; with one more
-- at the end; or with another in place of the last one
abbrev pub held_after : HeldChange → List Held → List Held
held_after Stays held = held
held_after (Leaves j) held = without_first j held
held_after (Joins request) held = held ++ request ∷ []
held_after (MakesRoom request) held = displaced held request

-- the home, after a change of the home or of a remote
abbrev pub home_in : Change → HomeState → HomeState
home_in (Home change held) home = home_after change home
home_in (Remote j remote) home = home

-- what is held, likewise
abbrev pub held_in : Change → List Held → List Held
held_in (Home change changed) held = held_after changed held
held_in (Remote j remote) held = held

-- the remotes, likewise
abbrev pub remotes_in : Change → List RemoteState → List RemoteState
remotes_in (Home change held) remotes = remotes
remotes_in (Remote j remote) remotes = slice_set remotes j remote

-- what a plan does to this configuration, of a step that takes a packet from this link, if from any
abbrev pub outcome_by : Config → Option Link → Planned → StepOutcome
outcome_by c link plan = record {
  home = home_in plan.change c.home;
  held = held_in plan.change c.held;
  remotes = remotes_in plan.change c.remotes;
  put = put_said plan.sends;
  takes_from = link;
  displaced_from = plan.displaced;
}

-- What a plan of this step does to this configuration, where it is performed.
abbrev pub planned_outcome : Config → Step → Planned → StepOutcome
planned_outcome c s plan = outcome_by c (arrival_link (site s)) plan

-- the debt that changes, if one does, is to one of n remotes
abbrev pub IsDebtOf : ℕ → Option Debt → Type 0
IsDebtOf n None = Unit {0}
IsDebtOf n (Some debt) = debt.to < n

-- of k slots, in which these are held, one is free for a request that joins them, and none where
-- the last one makes room
abbrev pub HasSlot : ℕ → List Held → HeldChange → Type 0
HasSlot k held Stays = Unit {0}
HasSlot k held (Leaves j) = Unit {0}
HasSlot k held (Joins request) = length held < k
HasSlot k held (MakesRoom request) = length held ≡ k

-- of n remotes and k slots, in which these are held, the change speaks of remotes that are there,
-- and there is a slot for what is held
abbrev pub FitsIn : ℕ → List Held → ℕ → Change → Type 0
FitsIn k held n (Home change changed) = IsDebtOf n change.debt × HasSlot k held changed
FitsIn k held n (Remote j remote) = j < n

-- The plan can be performed in this configuration of a machine with so many slots.
abbrev pub Fits : ℕ → Config → Planned → Type 0
Fits k c plan = FitsIn k c.held (count_of c) plan.change

-- ---- the guard and the message behind a step

-- the guard by which a remote sends its request: the output of its state, where it is idle
abbrev pub sending_number : Body → RemoteState → Option ℕ
sending_number body remote =
    option_and_then (λ state. option_map (λ g. g.number) (active_guard (guards_of body state)))
    (idle_state remote.place)

-- the guard by which a remote answers the request in its slot; none where it nacks it
abbrev pub answering_number : Body → RemoteState → Option ℕ
answering_number body remote = option_map (λ input. input.number) (answering_guard body remote)

-- the guard by which a remote is due to send
abbrev pub due_number : Place → Option ℕ
due_number (Comm state) = None
due_number (Trans g) = None
due_number (Due g) = Some g.guard

-- the message of a held request, and its value
abbrev pub held_message : Held → ℕ × Value
held_message request = (request.message, request.value)

-- the message of a request in a slot, and its value
abbrev pub slot_message : Request → ℕ × Value
slot_message request = (request.message, request.value)

-- the message that a process gives by this guard of this state, with these variables, and its value
abbrev pub message_by : List MessageInfo → Body → List Value → ℕ → ℕ → Option (ℕ × Value)
message_by messages body vars state g =
    option_and_then (λ rule. given messages vars rule.kind) (guard_at body state g)

-- the message that an idle home gives by this guard, and its value
abbrev pub home_message : NumberedProtocol → HomeState → ℕ → Option (ℕ × Value)
home_message protocol home g =
    option_and_then (λ state. message_by protocol.messages protocol.home home.vars state g)
    (home_idle_state home.place)

-- the message that a remote is due to send and its value, by the guard that its place names
abbrev pub due_message : NumberedProtocol → RemoteState → Place → Option (ℕ × Value)
due_message protocol remote (Comm state) = None
due_message protocol remote (Trans g) = None
due_message protocol remote (Due g) =
    message_by protocol.messages protocol.remote remote.vars g.state g.guard

module _ (protocol : NumberedProtocol) (c : Config) where
  -- The number of the guard that the process completes in the step, or by which it sends, in the
  -- state where it stands. Of a request that is taken or answered it is the one that takes it. None
  -- where a packet arrives, since its process has chosen before, and where a request is dropped or
  -- nacked.
  abbrev pub guard_behind : Step → Option ℕ
  guard_behind (step.HomeTau g) = Some g
  guard_behind (step.HomeTake j) =
      option_map (λ what. what.guard.number)
      (taking (count_of c) protocol.home c.home c.held j)
  guard_behind (step.HomeSend g j) = Some g
  guard_behind (step.HomeDrop j) = None
  guard_behind (step.RemoteTau j g) = Some g
  guard_behind (step.RemoteSend j) =
      option_and_then (sending_number protocol.remote) (slice_get c.remotes j)
  guard_behind (step.RemoteAnswer j) =
      option_map (λ input. input.number)
      (option_and_then (answering_guard protocol.remote) (slice_get c.remotes j))
  guard_behind (step.RemoteReply j) =
      option_and_then (λ remote. due_number remote.place) (slice_get c.remotes j)
  guard_behind (step.Up j) = None
  guard_behind (step.Down j) = None

  -- The message that passes in the step between the home and a remote, and its value: what the held
  -- request says, or the one in the slot; what the home sends; or what the remote is due to send.
  abbrev pub message_behind : Step → Option (ℕ × Value)
  message_behind (step.HomeTau g) = None
  message_behind (step.HomeTake j) = option_map held_message (first_of j c.held)
  message_behind (step.HomeSend g j) = home_message protocol c.home g
  message_behind (step.HomeDrop j) = None
  message_behind (step.RemoteTau j g) = None
  message_behind (step.RemoteSend j) = None
  message_behind (step.RemoteAnswer j) =
      option_and_then (λ remote. option_map slot_message remote.slot) (slice_get c.remotes j)
  message_behind (step.RemoteReply j) =
      option_and_then (λ remote. due_message protocol remote remote.place) (slice_get c.remotes j)
  message_behind (step.Up j) = None
  message_behind (step.Down j) = None

-- ---- what the parts of a plan answer

-- this guard and this message stand behind the plan
pub record Says (by : Option ℕ) (passed : Option (ℕ × Value)) (plan : Planned) : Type 0 where
  pub guard : plan.guard ≡ by
  pub message : plan.message ≡ passed

-- the plan changes the home alone, and does this there
abbrev pub IsOfHome : HomeState → List Held → Sends → Option ℕ → Change → Option HomeOutcome
    → Type 0
IsOfHome home held sends from (Remote j remote) may = ⊥
IsOfHome home held sends from (Home change changed) may =
    may ≡ Some (record {
      home = home_after change home;
      held = held_after changed held;
      put = put_said sends;
      displaced_from = from;
    })

-- The plan does what the home may do; there is none where it may do nothing.
abbrev pub HomePlans : HomeState → List Held → Option Planned → Option HomeOutcome → Type 0
HomePlans home held None may = may ≡ None
HomePlans home held (Some plan) may =
    IsOfHome home held plan.sends plan.displaced plan.change may

-- the plan changes remote j alone, and does this there
abbrev pub IsOfRemote : ℕ → Sends → Change → Option RemoteOutcome → Type 0
IsOfRemote j sends (Home change held) may = ⊥
IsOfRemote j sends (Remote i remote) may =
    (i ≡ j) × (may ≡ Some (at_remote remote (put_said sends)))

-- The plan does what remote j may do, and displaces nothing; there is none where it may do nothing.
abbrev pub RemotePlans : ℕ → Option Planned → Option RemoteOutcome → Type 0
RemotePlans j None may = may ≡ None
RemotePlans j (Some plan) may =
    IsOfRemote j plan.sends plan.change may × (plan.displaced ≡ None)

-- Of a step that takes a packet from this link, if from any, this is the plan: it does what the
-- step does, the guard and the message that it says stand behind the step, and it can be performed.
-- There is none where the step does nothing.
pub record IsPlan (setting : Setting) (c : Config) (link : Option Link) (s : Step)
    (plan : Option Planned) : Type 0 where
  pub does : option_map (outcome_by c link) plan ≡ outcome_of setting c link s
  pub says :
      IfSome plan (Says (guard_behind setting.protocol c s) (message_behind setting.protocol c s))
  pub fits : IfSome plan (Fits setting.slots c)

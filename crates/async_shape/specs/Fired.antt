-- The row of a controller that a step fires, and what this row must explain: each change of a
-- process's place or variables, the packet that is put on a link, and the debt that is added.
use Rattle.std.specs.Prelude.{◌≡◌, ℕ, ◌==◌, if◌then◌else◌, List, Option, Some, None, map}
use Rattle.std.specs.Prelude.{slice_get, slice_set}
use Rattle.std.specs.Option.{option_map, option_map_or, option_and_then}
use Rattle.proto_model.specs.Numbered.{NumberedProtocol}
use Rattle.proto_model.specs.Guards.{after_guard}
use Rattle.proto_model.specs.declared.numbered.Value.{Value}
use Rattle.proto_model.specs.declared.numbered.Value.TheVariants as value
use Rattle.proto_model.specs.declared.numbered.Body.{Body}
use Rattle.controller_table.specs.OneRow.{IsOnlyRow}
use Rattle.controller_table.specs.declared.rows.GuardId.{GuardId}
use Rattle.controller_table.specs.declared.rows.Place.{Place}
use Rattle.controller_table.specs.declared.rows.Place.TheVariants.{Comm, Trans, Due}
use Rattle.controller_table.specs.declared.rows.Trigger.{Trigger}
use Rattle.controller_table.specs.declared.rows.Trigger.TheVariants as trigger
use Rattle.controller_table.specs.declared.rows.Puts.{Puts}
use Rattle.controller_table.specs.declared.rows.Puts.TheVariants as puts
use Rattle.controller_table.specs.declared.rows.Does.{Does}
use Rattle.controller_table.specs.declared.rows.Does.TheVariants as does
use Rattle.controller_table.specs.declared.rows.Row.{Row}
use Rattle.ordered_links.specs.Link.{Link, Up, Down}
use Rattle.ordered_links.specs.declared.packet.Packet.{Packet}
use Rattle.ordered_links.specs.declared.packet.Packet.TheVariants as packet
use Rattle.async_shape.specs.Setting.{Setting}
use Rattle.async_shape.specs.Config.{Config, count_of, owed_to}
use Rattle.async_shape.specs.Site.{Site, site, remote_named, partner_at}
use Rattle.async_shape.specs.Guards.{Chosen, guard_by, answering_guard}
use Rattle.async_shape.specs.Requests.{taking}
use Rattle.async_shape.specs.Outcome.{Put}
use Rattle.async_shape.specs.Next.{arriving, put_of, take_of, links_after}
use Rattle.async_shape.specs.declared.config.HomePlace.{HomePlace}
use Rattle.async_shape.specs.declared.config.HomePlace.TheVariants.{Idle, Waits}
use Rattle.async_shape.specs.declared.config.RemoteState.{RemoteState}
use Rattle.async_shape.specs.declared.step.Step.{Step}
use Rattle.async_shape.specs.declared.step.Step.TheVariants as step

-- the process that moves: the home, or a remote by its number
pub data Mover : Type 0 where
  Home : Mover
  Remote : ℕ → Mover

-- A process, the place in which it stands, and the trigger that moves it; and the value with which
-- it completes the last of the guards that its row names: that of the request that is taken or
-- answered, or of the reply that arrives, else Unit.
pub record Firing : Type 0 where
  pub mover : Mover
  pub at : Place
  pub on : Trigger
  pub value : Value

-- the place of the home, as the rows name it
abbrev pub row_place : HomePlace → Place
row_place (Idle state) = Comm state
row_place (Waits waiting) = Trans waiting.by

-- the home fires a row by this trigger, with this value
abbrev pub home_fires : Config → Trigger → Value → Firing
home_fires c on v = record { mover = Home; at = row_place c.home.place; on = on; value = v }

-- remote j, which stands so, fires a row by this trigger, with this value
abbrev pub remote_fires : ℕ → Trigger → Value → RemoteState → Firing
remote_fires j on v remote = record { mover = Remote j; at = remote.place; on = on; value = v }

-- what makes a home move that waits on the sender of this packet, which arrives
abbrev pub home_trigger : Packet → Trigger
home_trigger (packet.Request m v) = trigger.GotRequest
home_trigger packet.Ack = trigger.GotAck
home_trigger packet.Nack = trigger.GotNack
home_trigger (packet.Reply p v) = trigger.GotReply p

-- what makes a remote move that waits, where this packet arrives; a request fires no row, since it
-- is dropped
abbrev pub remote_trigger : Packet → Option Trigger
remote_trigger (packet.Request m v) = None
remote_trigger packet.Ack = Some trigger.GotAck
remote_trigger packet.Nack = Some trigger.GotNack
remote_trigger (packet.Reply p v) = Some (trigger.GotReply p)

-- HomeSend(g, j): the home pays the reply that it owes to j; where it owes none, it sends a request
abbrev pub send_trigger : ℕ → Option ℕ → Trigger
send_trigger g (Some p) = trigger.Pay g
send_trigger g None = trigger.Send g

-- RemoteAnswer(j): the remote answers by this guard; or no guard takes the request
abbrev pub answer_trigger : Option Chosen → Trigger
answer_trigger (Some input) = trigger.Answer input.number
answer_trigger None = trigger.AnswerNone

-- the value of a reply; any other packet that answers has none
abbrev pub answer_value : Packet → Value
answer_value (packet.Request m v) = value.Unit
answer_value packet.Ack = value.Unit
answer_value packet.Nack = value.Unit
answer_value (packet.Reply p v) = v

-- the value of the request in the slot
abbrev pub slot_value : RemoteState → Value
slot_value remote = option_map_or (λ request. request.value) remote.slot value.Unit

-- RemoteAnswer(j): the remote that stands so answers, with the value of the request in its slot
abbrev pub answer_fires : NumberedProtocol → ℕ → RemoteState → Firing
answer_fires protocol j remote =
    let on = answer_trigger (answering_guard protocol.remote remote) in
    remote_fires j on (slot_value remote) remote

-- Up(j): where the home waits on j, the packet that arrives makes it move; else no row fires
abbrev pub up_fires : Config → ℕ → HomePlace → Option Firing
up_fires c j (Idle state) = None
up_fires c j (Waits waiting) =
    if waiting.on == j
    then option_map (λ arrived. home_fires c (home_trigger arrived) (answer_value arrived))
    (arriving c (Up j))
    else None

-- Down(j): where remote j waits, the packet that arrives makes it move; else no row fires
abbrev pub down_fires : Config → ℕ → RemoteState → Place → Option Firing
down_fires c j remote (Comm state) = None
down_fires c j remote (Trans g) =
    option_and_then (λ arrived.
    option_map (λ on. remote_fires j on (answer_value arrived) remote) (remote_trigger arrived))
    (arriving c (Down j))
down_fires c j remote (Due g) = None

module _ (protocol : NumberedProtocol) (c : Config) where
  -- HomeTake(j): the home takes the request by the guard that it completes, with its value
  abbrev pub take_fires : ℕ → Option Firing
  take_fires j =
      option_map (λ what. home_fires c (trigger.Take what.guard.number) what.request.value)
      (taking (count_of c) protocol.home c.home c.held j)

  -- What fires a row in an enabled step. Nothing does in HomeDrop, in Up where the home doesn't
  -- wait on j, and in Down where the remote doesn't wait or gets a request.
  abbrev pub fired : Step → Option Firing
  fired (step.HomeTau g) = Some (home_fires c (trigger.Tau g) value.Unit)
  fired (step.HomeTake j) = take_fires j
  fired (step.HomeSend g j) = Some (home_fires c (send_trigger g (owed_to c.home j)) value.Unit)
  fired (step.HomeDrop j) = None
  fired (step.RemoteTau j g) =
      option_map (remote_fires j (trigger.Tau g) value.Unit) (slice_get c.remotes j)
  fired (step.RemoteSend j) =
      option_map (remote_fires j (trigger.Send 0) value.Unit) (slice_get c.remotes j)
  fired (step.RemoteAnswer j) = option_map (answer_fires protocol j) (slice_get c.remotes j)
  fired (step.RemoteReply j) =
      option_map (remote_fires j (trigger.Send 0) value.Unit) (slice_get c.remotes j)
  fired (step.Up j) = up_fires c j c.home.place
  fired (step.Down j) =
      option_and_then (λ remote. down_fires c j remote remote.place) (slice_get c.remotes j)

-- ---- what a row explains

-- the place and the variables of a process
pub record Situation : Type 0 where
  pub place : Place
  pub vars : List Value

-- the place and the variables of the home
abbrev pub home_situation : Config → Situation
home_situation c = record { place = row_place c.home.place; vars = c.home.vars }

-- the place and the variables of a remote
abbrev pub remote_situation : RemoteState → Situation
remote_situation remote = record { place = remote.place; vars = remote.vars }

-- those of each remote
abbrev pub remote_situations : Config → List Situation
remote_situations c = map remote_situation c.remotes

-- the variables after this guard, completed with this partner and value; where there is no such
-- guard, they stay
abbrev pub vars_after_one : Body → List Value → GuardId → ℕ → Value → List Value
vars_after_one body vars g partner v =
    option_map_or (λ rule. (after_guard body vars rule rule.next partner v).vars)
    (guard_by body g) vars

-- The variables after the guards that a row completes, in order, with this partner. The last one
-- has this value; one before it has none.
abbrev pub vars_after : Body → List Value → Does → ℕ → Value → List Value
vars_after body vars does.Nothing partner v = vars
vars_after body vars (does.One g) partner v = vars_after_one body vars g partner v
vars_after body vars (does.Two g h) partner v =
    vars_after_one body (vars_after_one body vars g partner value.Unit) h partner v

-- the link on which a process sends, of the two between the home and remote j
abbrev pub link_of : Mover → ℕ → Link
link_of Home j = Down j
link_of (Remote i) j = Up j

-- the process puts this packet on a link of the remote that the step names
abbrev pub Sends : Mover → Option ℕ → Packet → Option Put → Type 0
Sends mover None what put = ⊥
Sends mover (Some j) what put = put ≡ Some (record { on = link_of mover j; packet = what })

-- What a row puts is, but for the value, the packet that the step puts on a link of the remote that
-- it names, and nothing is put where the row puts nothing.
abbrev pub Shows : Mover → Option ℕ → Puts → Option Put → Type 0
Shows mover j puts.Nothing put = put ≡ None
Shows mover j (puts.Request m) put = (v : Value) × Sends mover j (packet.Request m v) put
Shows mover j puts.Ack put = Sends mover j packet.Ack put
Shows mover j puts.Nack put = Sends mover j packet.Nack put
Shows mover j (puts.Reply p) put = (v : Value) × Sends mover j (packet.Reply p v) put
Shows mover j (puts.Owe p) put = put ≡ None

-- The debts after a row: one is added where the row owes it, and one is cleared where the home puts
-- a reply; all others stay.
abbrev pub debts_after : Mover → Option ℕ → Puts → List (Option ℕ) → List (Option ℕ)
debts_after mover None what owed = owed
debts_after mover (Some j) puts.Nothing owed = owed
debts_after mover (Some j) (puts.Request m) owed = owed
debts_after mover (Some j) puts.Ack owed = owed
debts_after mover (Some j) puts.Nack owed = owed
debts_after Home (Some j) (puts.Reply p) owed = slice_set owed j None
debts_after (Remote i) (Some j) (puts.Reply p) owed = owed
debts_after mover (Some j) (puts.Owe p) owed = slice_set owed j (Some p)

-- One row has the place and the trigger. It tells where the process stands then, the guards that it
-- has completed, what it puts, and what is owed.
pub record Explains (rows : List Row) (body : Body) (firing : Firing) (step_site : Site)
    (put : Option Put) (before after : Situation) (owed owed_then : List (Option ℕ)) : Type 0 where
  pub row : Row
  pub only : IsOnlyRow rows firing.at firing.on (Some row)
  pub place : after.place ≡ row.to
  pub vars : after.vars ≡ vars_after body before.vars row.does (partner_at step_site) firing.value
  pub puts : Shows firing.mover (remote_named step_site) row.puts put
  pub debts : owed_then ≡ debts_after firing.mover (remote_named step_site) row.puts owed

-- nobody changes place or variables, and the debts stay
pub record ByNoRow (c d : Config) : Type 0 where
  pub home : home_situation d ≡ home_situation c
  pub debts : d.home.owed ≡ c.home.owed
  pub remotes : remote_situations d ≡ remote_situations c

-- of a step that leads from one configuration to another
module _ (setting : Setting) (c d : Config) (s : Step) where
  -- a row explains how the situation of its process changes
  abbrev pub Explained : List Row → Body → Firing → Situation → Situation → Type 0
  Explained rows body firing before after =
      Explains rows body firing (site s) (put_of setting c s) before after c.home.owed d.home.owed

  -- a row of the home explains the home's change, and no remote changes its place or its variables
  pub record HomeByRow (rows : List Row) (firing : Firing) : Type 0 where
    pub explained :
        Explained rows setting.protocol.home firing (home_situation c) (home_situation d)
    pub others : remote_situations d ≡ remote_situations c

  -- a row of a remote explains the change of remote j, and nobody else changes place or variables
  pub record RemoteByRow (rows : List Row) (firing : Firing) (j : ℕ) : Type 0 where
    pub before : Situation
    pub after : Situation
    pub there : slice_get (remote_situations c) j ≡ Some before
    pub explained : Explained rows setting.protocol.remote firing before after
    pub home : home_situation d ≡ home_situation c
    pub others : remote_situations d ≡ slice_set (remote_situations c) j after

  -- the change is explained by a row of the process that moves, the home or remote j
  abbrev pub FiresSo : List Row → List Row → Mover → Firing → Type 0
  FiresSo home_rows remote_rows Home firing = HomeByRow home_rows firing
  FiresSo home_rows remote_rows (Remote j) firing = RemoteByRow remote_rows firing j

  -- where nothing fires a row, nobody changes place or variables; else a row explains the change
  abbrev pub ByRowOf : List Row → List Row → Option Firing → Type 0
  ByRowOf home_rows remote_rows None = ByNoRow c d
  ByRowOf home_rows remote_rows (Some firing) = FiresSo home_rows remote_rows firing.mover firing

  -- The step from c to d is explained by the row that it fires; or it fires none, and nobody
  -- changes place or variables. The links in d are those in c after at most one put and then at
  -- most one take.
  pub record ByRow (home_rows remote_rows : List Row) : Type 0 where
    pub row : ByRowOf home_rows remote_rows (fired setting.protocol c s)
    pub links : d.links ≡ links_after (put_of setting c s) (take_of setting c s) c.links

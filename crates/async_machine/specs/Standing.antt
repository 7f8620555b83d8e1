-- What contracts see of a machine, and the setting and the configuration that this is.
use Rattle.std.specs.Prelude.{ℕ, List, Option, Some, None}
use Rattle.proto_model.specs.declared.numbered.Value.{Value}
use Rattle.proto_model.specs.declared.numbered.Value.TheVariants as value
use Rattle.controller_table.specs.Sound.{Tabled, IsSound, protocol_of}
use Rattle.slot_reserve.specs.declared.held.Held.{Held}
use Rattle.ordered_links.specs.Lists.{LinkPair}
use Rattle.async_shape.specs.Setting.{Setting}
use Rattle.async_shape.specs.Config.{Config}
use Rattle.async_shape.specs.Shape.{IsShaped}
use Rattle.async_shape.specs.declared.config.HomePlace.{HomePlace}
use Rattle.async_shape.specs.declared.config.HomePlace.TheVariants.{Idle, Waits}
use Rattle.async_shape.specs.declared.config.HomeState.{HomeState}
use Rattle.async_shape.specs.declared.config.RemoteState.{RemoteState}

-- A machine over links of the type L: its table, how many slots the home has, where the home
-- stands, the requests that it holds, where each remote stands, and the links.
pub record Standing (L : Type 0) : Type 0 where
  pub table : Tabled
  pub slots : ℕ
  pub home : HomeState
  pub held : List Held
  pub remotes : List RemoteState
  pub links : L

-- The setting of this table and so many slots: the protocol is the one that the table's rows tell.
abbrev pub setting_of : Tabled → ℕ → Setting
setting_of table k = record { protocol = protocol_of table; mode = table.mode; slots = k }

-- the setting of the machine
abbrev pub setting : {L : Type 0} → Standing L → Setting
setting machine = setting_of machine.table machine.slots

-- the configuration in which the machine stands, where these are the lists of the links
abbrev pub config : {L : Type 0} → (L → List LinkPair) → Standing L → Config
config lists machine = record {
  home = machine.home;
  held = machine.held;
  remotes = machine.remotes;
  links = lists machine.links;
}

-- the configuration of these parts
abbrev pub config_of : HomeState → List Held → List RemoteState → List LinkPair → Config
config_of home held remotes links =
    record { home = home; held = held; remotes = remotes; links = links }

-- the remote on which the home waits; none where it is idle
abbrev pub waited_on : HomePlace → Option ℕ
waited_on (Idle state) = None
waited_on (Waits waiting) = Some waiting.on

-- the value of the request to which the home waits for an answer; Unit where it is idle
abbrev pub sent_by : HomePlace → Value
sent_by (Idle state) = value.Unit
sent_by (Waits waiting) = waiting.sent

-- The table is sound, and the configuration has the shape.
pub record IsStanding (table : Tabled) (k : ℕ) (c : Config) : Type 0 where
  pub sound : IsSound table
  pub shaped : IsShaped (setting_of table k) c

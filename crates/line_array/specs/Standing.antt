-- What contracts see of an array.
use Rattle.std.specs.Prelude.{◌≡◌, ℕ, ◌≤◌, List, map, length}
use Rattle.std.specs.List.{AllByRecursion}
use Rattle.controller_table.specs.Sound.{Tabled, IsSound}
use Rattle.ordered_links.specs.Lists.{LinkPair}
use Rattle.async_shape.specs.Setting.{Setting}
use Rattle.async_shape.specs.Config.{Config}
use Rattle.async_machine.specs.Standing.{Standing, setting_of, config}
use Rattle.line_array.specs.SharedLists.{SharedPair}
use Rattle.line_array.specs.ArrayConfig.{ArrayConfig}
use Rattle.line_array.specs.InStep.{IsSharing}
use Rattle.line_array.specs.Noted.{Shared}

-- An array: the table that each line runs, how many slots the home of each has, and the
-- configuration in which the array stands.
pub record ArrayStanding : Type 0 where
  pub table : Tabled
  pub slots : ℕ
  pub config : ArrayConfig

-- the setting of the array
abbrev pub array_setting : ArrayStanding → Setting
array_setting array = setting_of array.table array.slots

-- the configuration in which a machine over rings stands
abbrev pub ring_config : Standing (List LinkPair) → Config
ring_config machine = config (λ links. links) machine

-- the machine of this table with so many slots that stands so
abbrev pub line_standing : Tabled → ℕ → Config → Standing (List LinkPair)
line_standing table k c = record {
  table = table;
  slots = k;
  home = c.home;
  held = c.held;
  remotes = c.remotes;
  links = c.links;
}

-- the configuration of an array whose machines stand so, over these shared links
abbrev pub array_config : List (Standing (List LinkPair)) → List SharedPair → ArrayConfig
array_config machines shared = record { lines = map ring_config machines; shared = shared }

-- From 1 to 16 machines run this sound table with so many slots, and share these links, which have
-- room for as many lines.
pub record IsArray (table : Tabled) (k : ℕ) (machines : List (Standing (List LinkPair)))
    (shared : Shared) : Type 0 where
  pub sound : IsSound table
  pub some_lines : 1 ≤ length machines
  pub few_lines : length machines ≤ 16
  pub room : shared.lines ≡ length machines
  pub alike :
      AllByRecursion (λ (m : Standing (List LinkPair)). (m.table ≡ table) × (m.slots ≡ k)) machines
  pub sharing : IsSharing (setting_of table k) (array_config machines shared.pairs)

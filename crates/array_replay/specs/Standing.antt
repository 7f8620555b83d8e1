-- What contracts of a replay see of an array of cache lines.
use Rattle.std.specs.Prelude.{ℕ, List, slice_index_or}
use Rattle.controller_table.specs.Sound.{protocol_of}
use Rattle.ordered_links.specs.Lists.{LinkPair}
use Rattle.async_shape.specs.Config.{Config, start}
use Rattle.async_machine.specs.Standing.{Standing}
use Rattle.line_array.specs.Standing.{ArrayStanding, array_setting, line_standing}
use Rattle.array_replay.specs.ArrayTrace.{ArrayRunning}

-- what the controllers of each cache line of this array were given, and how all of them stand
abbrev pub running_of : ArrayStanding → ArrayRunning
running_of array = record { setting = array_setting array; config = array.config }

-- where the controllers of cache line a stand; where there is no such line, as without remotes
abbrev pub line_config : ArrayStanding → ℕ → Config
line_config array a =
    slice_index_or array.config.lines a (start (protocol_of array.table) 0)

-- the machine of cache line a
abbrev pub machine_in : ArrayStanding → ℕ → Standing (List LinkPair)
machine_in array a = line_standing array.table array.slots (line_config array a)

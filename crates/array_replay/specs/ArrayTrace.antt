-- The trace of a schedule of steps of several cache lines, whose controllers share the links.
--
-- The block of a step is its number, one space, and what tells of it. A step that is meant for a
-- cache line is told as `line`, the number of that line, one space, and all that a trace of that
-- line's controllers alone would tell of the step that they take: its text, what it means where
-- they stand, and, where it moved, the lines of the processes that it names. A step that is meant
-- for none is told as its own text and `refused`. After the last block each cache line, in
-- ascending order of its number, has `line` and that number on a line, and then the last text of
-- its controllers. No claim is looked at.
use Rattle.std.specs.Prelude.{ℕ, [], ◌++◌, None, slice_get, codes, decimal}
use Rattle.std.specs.Option.{option_map_or}
use Rattle.rv_base.specs.Lists.{flat_from}
use Rattle.proto_model.specs.Tokens.{Text}
use Rattle.proto_model.specs.Numbered.{NumberedProtocol}
use Rattle.proto_model.specs.declared.mode.Mode.{Mode}
use Rattle.schedule_replay.specs.Play.{Play}
use Rattle.async_shape.specs.Setting.{Setting}
use Rattle.async_shape.specs.Config.{Config}
use Rattle.async_shape.specs.declared.step.Step.{Step}
use Rattle.run_replay.specs.RunTrace.{Running, step_block, run_ending}
use Rattle.line_array.specs.ArrayConfig.{ArrayConfig, array_start}
use Rattle.line_array.specs.ArrayNext.{meant, after_line_step}
use Rattle.line_array.specs.declared.line_step.LineStep.{LineStep}
use Rattle.array_replay.specs.ArrayLines.{array_text, array_line}

-- What contracts see of an array of cache lines: what the controllers of each were given, and how
-- all of them stand.
pub record ArrayRunning : Type 0 where
  pub setting : Setting
  pub config : ArrayConfig

-- The array stands in the configuration after the step; one that isn't enabled changes nothing.
abbrev pub array_after : ArrayRunning → LineStep → ArrayRunning
array_after running s = record {
  setting = running.setting;
  config = after_line_step running.setting running.config s;
}

-- `line` and the number of a cache line
abbrev pub line_head : ℕ → Text
line_head a = codes "line " ++ decimal a

-- the controllers of one cache line, which stand so, with no claims
abbrev pub alone : Setting → Config → Running
alone setting c = record { claims = []; setting = setting; config = c }

-- what tells of a step that is meant for cache line a, whose controllers stand so
abbrev pub block_of_line : Setting → ℕ → Step → Config → Text
block_of_line setting a s c = line_head a ++ (codes " " ++ step_block (alone setting c) s)

-- what tells of a step that is meant for this cache line, and for this step of its controllers
abbrev pub block_meant : ArrayRunning → ℕ × Step → Text
block_meant running at =
    option_map_or (block_of_line running.setting at.0 at.1) (slice_get running.config.lines at.0) []

-- the block of a step, behind its number
abbrev pub array_block : ArrayRunning → LineStep → Text
array_block running s =
    option_map_or (block_meant running) (meant running.config s)
    (array_text s ++ codes ": refused\n")

-- the last text of cache line a, whose controllers stand so
abbrev pub line_ending : NumberedProtocol → ℕ → Config → Text
line_ending protocol a c = line_head a ++ (codes "\n" ++ run_ending protocol c)

-- what stands after the last block: the last texts of the cache lines, in the order of their
-- numbers
abbrev pub array_ending : ArrayRunning → Text
array_ending running = flat_from (line_ending running.setting.protocol) 0 running.config.lines

-- How a schedule of steps is played on the array. It never halts, since no claim is looked at.
abbrev pub array_play : Play ArrayRunning LineStep
array_play = record {
  says = array_line;
  after = array_after;
  block = array_block;
  ending = array_ending;
  halts = λ running. None;
}

-- so many cache lines at the start, each with the controllers of the protocol in this mode, with n
-- remotes and k slots
abbrev pub array_begin : NumberedProtocol → Mode → ℕ → ℕ → ℕ → ArrayRunning
array_begin protocol mode n k lines = record {
  setting = record { protocol = protocol; mode = mode; slots = k };
  config = array_start protocol n lines;
}

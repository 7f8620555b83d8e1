-- The block of a step that is meant for a cache line, as it is put together, where an array starts,
-- and the last texts of its cache lines.
use Rattle.std.proofs.Common.{◌≡◌, ℕ, ◌+◌, ◌<◌, length, List, [], ◌++◌, take, Option, Some, codes}
use Rattle.std.proofs.Common.{Result, Ok, OnOk, get_or, slice_get, sym, ap, ◌∙◌, append_assoc}
use Rattle.std.specs.Option.{option_map_or}
use Rattle.std.proofs.lemmas.Option.{get_or_from_slice_get, slice_get-get_or, slice_get_within}
use Rattle.rv_base.specs.Lists.{flat_from}
use Rattle.rv_base.proofs.Lists.{flat_from-one_more}
use Rattle.proto_model.specs.Tokens.{Text}
use Rattle.proto_model.specs.Continued.{Continues}
use Rattle.proto_model.proofs.Continuing.{whole}
use Rattle.proto_model.specs.Numbered.{NumberedProtocol}
use Rattle.controller_table.specs.Sound.{Tabled, table_in, protocol_of}
use Rattle.async_shape.specs.Config.{Config, start}
use Rattle.async_shape.specs.declared.step.Step.{Step}
use Rattle.async_machine.specs.Standing.{setting_of}
use Rattle.schedule_replay.proofs.Chained.{grown, whole_there}
use Rattle.run_replay.specs.RunTrace.{step_block}
use Rattle.run_replay.proofs.PlayedSteps.{protocol_of-table_in}
use Rattle.line_array.specs.ArrayConfig.{array_start}
use Rattle.line_array.specs.ArrayNext.{meant}
use Rattle.line_array.specs.Standing.{ArrayStanding}
use Rattle.line_array.specs.declared.line_step.LineStep.{LineStep}
use Rattle.array_replay.specs.ArrayLines.{array_text}
use Rattle.array_replay.specs.Standing.{line_config}
use Rattle.array_replay.specs.ArrayTrace.{ArrayRunning, alone, line_head, block_of_line}
use Rattle.array_replay.specs.ArrayTrace.{block_meant, array_block, array_begin, line_ending}

-- ---- the block of a step

-- a step that is meant for line a, which stands so
module _ (running : ArrayRunning) (s : LineStep) (a : ℕ) (own : Step) (c : Config)
    (is_meant : meant running.config s ≡ Some (a, own))
    (there : slice_get running.config.lines a ≡ Some c) where
  -- its block is that of the line
  pub block-meant : array_block running s ≡ block_of_line running.setting a own c
  block-meant =
      ap (λ (m : Option (ℕ × Step)). option_map_or (block_meant running) m
      (array_text s ++ codes ": refused\n")) is_meant
      ∙ ap (λ (line : Option Config). option_map_or (block_of_line running.setting a own) line [])
      there

-- A line that is there stands so.
pub line-there : (array : ArrayStanding) (a : ℕ) → a < length array.config.lines
    → slice_get array.config.lines a ≡ Some (line_config array a)
line-there array a within =
    slice_get-get_or array.config.lines a (start (protocol_of array.table) 0) within

-- Behind the number of the line the block of its controllers was appended: the block of the step.
pub block-placed : {E : Type 0} (running : ArrayRunning) (s : LineStep) (a : ℕ) (own : Step)
    (c : Config) → meant running.config s ≡ Some (a, own)
    → slice_get running.config.lines a ≡ Some c → (r t : Result (Unit {0}) E) (old mid new : Text)
    → Continues (line_head a ++ codes " ") (Ok tt) old r mid
    → Continues (step_block (alone running.setting c) own) r mid t new
    → OnOk t (new ≡ old ++ array_block running s)
block-placed running s a own c is_meant there r t old mid new head block =
    let line = line_head a ++ codes " " in
    let text = step_block (alone running.setting c) own in
    let placed : line ++ text ≡ array_block running s =
    append_assoc (line_head a) (codes " ") text
    ∙ sym (block-meant running s a own c is_meant there) in
    whole_there (array_block running s) t old new
    (whole (array_block running s) t old new
    (grown line text (array_block running s) (Ok tt) r t old mid new placed head block))

-- ---- the start

same-begin : (table of : Tabled) (k : ℕ) (protocol : NumberedProtocol) (n lines : ℕ) → table ≡ of
    → protocol_of of ≡ protocol
    → record {
      setting = setting_of table k;
      config = array_start (protocol_of table) n lines;
    }
    ≡ array_begin protocol of.mode n k lines
same-begin table of k protocol n lines is_table tells =
    ap (λ (t : Tabled). record {
      setting = setting_of t k;
      config = array_start (protocol_of t) n lines;
    }) is_table
    ∙ ap (λ (p : NumberedProtocol). array_begin p of.mode n k lines) tells

-- An array over the table of a protocol begins so.
pub begins-so : (protocol : NumberedProtocol) (table : Tabled) (n k lines : ℕ)
    → table ≡ table_in protocol table.mode
    → record {
      setting = setting_of table k;
      config = array_start (protocol_of table) n lines;
    }
    ≡ array_begin protocol table.mode n k lines
begins-so protocol table n k lines is_table =
    same-begin table (table_in protocol table.mode) k protocol n lines is_table
    (protocol_of-table_in protocol table.mode)

-- ---- the last texts

-- the last texts of the first i lines
abbrev pub endings_below : NumberedProtocol → List Config → ℕ → Text
endings_below protocol lines i = flat_from (line_ending protocol) 0 (take i lines)

-- One more is written.
pub ending-written : (protocol of : NumberedProtocol) (lines : List Config) (i : ℕ) (c : Config)
    → of ≡ protocol → slice_get lines i ≡ Some c
    → endings_below protocol lines i ++ line_ending of i c ≡ endings_below protocol lines (i + 1)
ending-written protocol of lines i c is_of there =
    let stands : get_or lines i c ≡ c = get_or_from_slice_get lines i c c there in
    let below = endings_below protocol lines i in
    ap (λ (p : NumberedProtocol). below ++ line_ending p i c) is_of
    ∙ ap (λ (line : Config). below ++ line_ending protocol i line) (sym stands)
    ∙ sym (flat_from-one_more (line_ending protocol) lines i c (slice_get_within lines i c there))

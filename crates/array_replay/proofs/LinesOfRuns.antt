-- What is played on an array is a run of it, and each block tells of one cache line alone.
use Rattle.std.proofs.Common.{◌≡◌, ℕ, ◌<◌, List, [], ◌∷◌, ◌++◌, length, replicate, Option, Some}
use Rattle.std.proofs.Common.{None, slice_get, get_or, codes, refl, sym, ap, ◌∙◌, subst}
use Rattle.std.specs.Option.{option_map, option_map_or}
use Rattle.std.proofs.lemmas.List.{length-replicate}
use Rattle.std.proofs.lemmas.Option.{slice_get-get_or, slice_get_within}
use Rattle.rv_base.proofs.Lists.{some_map}
use Rattle.schedule_replay.specs.Played.{Played}
use Rattle.async_shape.specs.Setting.{Setting}
use Rattle.async_shape.specs.Config.{Config, start}
use Rattle.async_shape.specs.Run.{config_at_end}
use Rattle.async_shape.specs.declared.step.Step.{Step}
use Rattle.line_array.specs.ArrayConfig.{array_start}
use Rattle.line_array.specs.ArrayNext.{meant, array_at_end, steps_meant}
use Rattle.line_array.specs.InStep.{IsInStep}
use Rattle.line_array.specs.declared.line_step.LineStep.{LineStep}
use Rattle.line_array.proofs.RunsAlone.{steps-lead, slice_get-replicate}
use Rattle.array_replay.specs.ArrayLines.{array_text}
use Rattle.schedule_replay.specs.PlayedItems.{IsOfItems, state_at_end}
use Rattle.array_replay.specs.ArrayTrace.{ArrayRunning, array_play, array_after, array_block}
use Rattle.array_replay.specs.ArrayTrace.{block_meant}
use Rattle.array_replay.specs.ArrayRuns.{IsOfArrayRun, running_so, array_then, alone_then, TellsOf}
use Rattle.array_replay.specs.ArrayRuns.{TellsOfOneLine}
use Rattle.array_replay.proofs.MeantLines.{meant-there}
use Rattle.array_replay.proofs.ToldInLine.{block-meant}

-- ---- a run of the array

-- The states to which steps lead are those of the array.
state-led : (start : ArrayRunning) (steps : List LineStep)
    → state_at_end array_play start steps
    ≡ running_so start.setting (array_at_end start.setting start.config steps)
state-led start [] = refl
state-led start (s ∷ steps) = state-led (array_after start s) steps

-- What is played of its items is played of its steps.
pub of_items : (start : ArrayRunning) (lines : List (List ℕ)) (played : Played ArrayRunning)
    → IsOfItems array_play 0 start lines played → IsOfArrayRun start lines played
of_items start lines played of = record {
  steps = of.items;
  later = of.later;
  said = of.said;
  blocks = of.blocks;
  state = of.state ∙ state-led start of.items;
  whole = of.whole;
}

-- ---- one line of it

module _ (setting : Setting) (n lines : ℕ) (steps : List LineStep) where
  -- A line that is there was there from the start, and stands where its own steps lead it.
  line-alone : (a : ℕ) → a < length (array_then setting n lines steps).lines
      → (a < lines)
      × (slice_get (array_then setting n lines steps).lines a
      ≡ Some (alone_then setting n lines steps a))
  line-alone a within =
      let first = start setting.protocol n in
      let end = array_then setting n lines steps in
      let own : Config → Config =
      λ line. config_at_end setting line
      (steps_meant setting a (array_start setting.protocol n lines) steps) in
      let leads = steps-lead setting a (array_start setting.protocol n lines) steps in
      let at = some_map own (slice_get (replicate lines first) a) (get_or end.lines a first)
      (sym leads ∙ slice_get-get_or end.lines a first within) in
      let there : a < length (replicate lines first) =
      slice_get_within (replicate lines first) a at.0 at.1 in
      let below : a < lines =
      subst (λ (count : ℕ). a < count) (length-replicate lines first) there in
      (below, leads ∙ ap (option_map own) (slice_get-replicate lines a first below))

  -- Each block tells of one line alone.
  pub tells_of-one_line : IsInStep setting (array_then setting n lines steps) → (s : LineStep)
      → TellsOfOneLine setting n lines steps s
  tells_of-one_line in_step s = by (meant (array_then setting n lines steps) s) refl
    where
      by : (m : Option (ℕ × Step)) → meant (array_then setting n lines steps) s ≡ m
          → TellsOf setting n lines steps (array_text s) m
          (array_block (running_so setting (array_then setting n lines steps)) s)
      by None none =
          ap (λ (m : Option (ℕ × Step)). option_map_or
          (block_meant (running_so setting (array_then setting n lines steps))) m
          (array_text s ++ codes ": refused\n")) none
      by (Some (a, own)) is =
          let end = array_then setting n lines steps in
          let line = line-alone a (meant-there setting end in_step s a own is) in (
            line.0,
            block-meant (running_so setting end) s a own
                (alone_then setting n lines steps a) is line.1,
          )

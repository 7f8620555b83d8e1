-- The steps that are taken are a run of the controllers, whatever the network does.
use Rattle.std.proofs.Common.{◌≡◌, ℕ, ◌+◌, Bool, true, false, if◌then◌else◌, List, [], ◌∷◌, ◌++◌}
use Rattle.std.proofs.Common.{map, codes, decimal, refl, sym, ap, ◌∙◌}
use Rattle.proto_model.specs.Tokens.{Text}
use Rattle.schedule_replay.specs.Played.{numbered_block}
use Rattle.async_shape.specs.Run.{config_at_end}
use Rattle.async_shape.specs.declared.step.Step.{Step}
use Rattle.run_replay.specs.RunTrace.{Running, step_block, run_play}
use Rattle.lossy_replay.specs.declared.items.LossyItem.{LossyItem}
use Rattle.lossy_replay.specs.declared.items.LossyItem.TheVariants.{Takes, Moves}
use Rattle.schedule_replay.specs.PlayedItems.{state_at_end, blocks_of}
use Rattle.lossy_replay.specs.LossyTrace.{LossyRunning, as_run, waits, after_taken, after_move}
use Rattle.lossy_replay.specs.LossyTrace.{lossy_block, lossy_play, waiting_block}
use Rattle.lossy_replay.specs.StepsTaken.{steps_told, steps_taken, blocks_taken, numbered_anew}
use Rattle.lossy_replay.specs.StepsTaken.{IsRunOfTaken}

-- the step that is taken where it doesn't wait, with its block, before those that follow
abbrev told_if : Step → Text → Bool → List (Step × Text) → List (Step × Text)
told_if s block waiting later = (if waiting then [] else (s, block) ∷ []) ++ later

-- where the machine stands after the step
abbrev next_if : LossyRunning → Step → Bool → LossyRunning
next_if running s waiting = if waiting then running else after_taken running s

-- A step that doesn't wait has the block of a schedule of steps alone.
pub block-taken : (running at : LossyRunning) (item : LossyItem) (s : Step) → running ≡ at
    → item ≡ Takes s → waits running s ≡ false → step_block (as_run running) s ≡ lossy_block at item
block-taken running at item s is_at is_item goes =
    rw (← is_at, is_item)
    (ap (λ (b : Bool). if b then waiting_block s else step_block (as_run running) s) (sym goes))

module _ (running : LossyRunning) (s : Step) (items : List LossyItem) where
  -- the steps that are taken among these and what follows, and their blocks
  abbrev all_if : Bool → List (Step × Text)
  all_if waiting =
      told_if s (lossy_block running (Takes s)) waiting
      (steps_told (next_if running s waiting) items)

  -- It leads on as the step does.
  config-taken : (waiting : Bool)
      → ((next : LossyRunning) → (state_at_end lossy_play next items).config
      ≡ config_at_end next.setting next.config (steps_taken next items))
      → (state_at_end lossy_play (next_if running s waiting) items).config
      ≡ config_at_end running.setting running.config (map (λ told. told.0) (all_if waiting))
  config-taken true later = later running
  config-taken false later = later (after_taken running s)

  state-taken : (waiting : Bool)
      → ((next : LossyRunning) → as_run (state_at_end lossy_play next items)
      ≡ state_at_end run_play (as_run next) (steps_taken next items))
      → as_run (state_at_end lossy_play (next_if running s waiting) items)
      ≡ state_at_end run_play (as_run running) (map (λ told. told.0) (all_if waiting))
  state-taken true later = later running
  state-taken false later = later (after_taken running s)

  -- Its block stands before those of what follows.
  blocks-taken : (waiting : Bool) (before : ℕ) → waits running s ≡ waiting
      → ((count : ℕ) (next : LossyRunning) → numbered_anew count (blocks_taken next items)
      ≡ blocks_of run_play count (as_run next) (steps_taken next items))
      → numbered_anew before (map (λ told. told.1) (all_if waiting))
      ≡ blocks_of run_play before (as_run running) (map (λ told. told.0) (all_if waiting))
  blocks-taken true before is later = later before running
  blocks-taken false before is later =
      let next = after_taken running s in
      ap (λ (text : Text). (decimal (before + 1) ++ (codes " " ++ text))
      ++ numbered_anew (before + 1) (blocks_taken next items))
      (sym (block-taken running running (Takes s) s refl refl is))
      ∙ ap (λ (text : Text). numbered_block run_play before (as_run running) s ++ text)
      (later (before + 1) next)

-- The configuration is the one to which the steps lead that are taken.
config-of : (running : LossyRunning) (items : List LossyItem)
    → (state_at_end lossy_play running items).config
    ≡ config_at_end running.setting running.config (steps_taken running items)
config-of running [] = refl
config-of running (Takes s ∷ items) =
    config-taken running s items (waits running s) (λ next. config-of next items)
config-of running (Moves m ∷ items) = config-of (after_move running m) items

-- So is the state, as a schedule of steps alone has it.
state-of : (running : LossyRunning) (items : List LossyItem)
    → as_run (state_at_end lossy_play running items)
    ≡ state_at_end run_play (as_run running) (steps_taken running items)
state-of running [] = refl
state-of running (Takes s ∷ items) =
    state-taken running s items (waits running s) (λ next. state-of next items)
state-of running (Moves m ∷ items) = state-of (after_move running m) items

-- The blocks of these steps are those of such a schedule.
blocks-of : (before : ℕ) (running : LossyRunning) (items : List LossyItem)
    → numbered_anew before (blocks_taken running items)
    ≡ blocks_of run_play before (as_run running) (steps_taken running items)
blocks-of before running [] = refl
blocks-of before running (Takes s ∷ items) =
    blocks-taken running s items (waits running s) before refl
    (λ count next. blocks-of count next items)
blocks-of before running (Moves m ∷ items) = blocks-of before (after_move running m) items

-- All of it.
pub of_taken : (running : LossyRunning) (items : List LossyItem) → IsRunOfTaken running items
of_taken running items =
    let leads = state-of running items in
    record {
      config = config-of running items;
      blocks = blocks-of 0 running items;
      state = leads;
      ending = ap (λ (at : Running). run_play.ending at) leads;
    }

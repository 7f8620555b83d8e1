-- The steps that are taken among the items of a schedule, and that they are a run of the
-- controllers, whatever the network does.
use Rattle.std.specs.Prelude.{◌≡◌, ℕ, ◌+◌, if◌then◌else◌, List, [], ◌∷◌, ◌++◌, map, codes, decimal}
use Rattle.proto_model.specs.Tokens.{Text}
use Rattle.async_shape.specs.Run.{config_at_end}
use Rattle.async_shape.specs.declared.step.Step.{Step}
use Rattle.run_replay.specs.RunTrace.{run_play}
use Rattle.lossy_replay.specs.declared.items.LossyItem.{LossyItem}
use Rattle.lossy_replay.specs.declared.items.LossyItem.TheVariants.{Takes, Moves}
use Rattle.schedule_replay.specs.PlayedItems.{state_at_end, blocks_of}
use Rattle.lossy_replay.specs.LossyTrace.{LossyRunning, as_run, waits, lossy_after, lossy_block}
use Rattle.lossy_replay.specs.LossyTrace.{lossy_play}

-- The step that is taken at an item, with the block that tells of it, without its number. None is
-- taken at a move of the network, and none where the step waits.
abbrev pub told_at : LossyRunning → LossyItem → List (Step × Text)
told_at running (Takes s) =
    if waits running s then [] else (s, lossy_block running (Takes s)) ∷ []
told_at running (Moves m) = []

-- the steps that are taken at these items, with what tells of each
abbrev pub steps_told : LossyRunning → List LossyItem → List (Step × Text)
steps_told running [] = []
steps_told running (item ∷ items) =
    told_at running item ++ steps_told (lossy_after running item) items

-- the steps that are taken at these items
abbrev pub steps_taken : LossyRunning → List LossyItem → List Step
steps_taken running items = map (λ told. told.0) (steps_told running items)

-- the blocks of these items without those of moves of the network and of steps that wait, and
-- without their numbers
abbrev pub blocks_taken : LossyRunning → List LossyItem → List Text
blocks_taken running items = map (λ told. told.1) (steps_told running items)

-- these blocks, so many blocks into a trace, each behind its number, counted from 1
abbrev pub numbered_anew : ℕ → List Text → Text
numbered_anew before [] = []
numbered_anew before (block ∷ blocks) =
    (decimal (before + 1) ++ (codes " " ++ block)) ++ numbered_anew (before + 1) blocks

-- Whatever the network does, the controllers run: their configuration is the one to which the steps
-- lead that are taken. Without the blocks of moves of the network and of steps that wait, and
-- numbered anew, the trace is that of these steps in a schedule of steps alone, where no claim is
-- looked at: it has these blocks, leads to the same state, and has the same last text.
pub record IsRunOfTaken (running : LossyRunning) (items : List LossyItem) : Type 0 where
  pub config : (state_at_end lossy_play running items).config
      ≡ config_at_end running.setting running.config (steps_taken running items)
  pub blocks : numbered_anew 0 (blocks_taken running items)
      ≡ blocks_of run_play 0 (as_run running) (steps_taken running items)
  pub state : as_run (state_at_end lossy_play running items)
      ≡ state_at_end run_play (as_run running) (steps_taken running items)
  pub ending : lossy_play.ending (state_at_end lossy_play running items)
      ≡ run_play.ending (state_at_end run_play (as_run running) (steps_taken running items))

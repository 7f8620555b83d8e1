-- What `run` and `boot` show, as one statement: the schedule says steps, and what is written are
-- the blocks of these steps, one after another from the start, each of which tells truly what its
-- step is in the protocol; and then how the run ended.
use Rattle.std.specs.Prelude.{◌≡◌, ◌⊎◌, ℕ, ◌+◌, List, [], ◌∷◌, ◌++◌, Some, None, codes, decimal}
use Rattle.std.specs.List.{AllByRecursion}
use Rattle.proto_model.specs.Tokens.{Text}
use Rattle.proto_model.specs.Numbered.{CheckedProtocol}
use Rattle.proto_model.specs.Rendezvous.{RvStep}
use Rattle.proto_model.specs.declared.mode.Mode.{Mode}
use Rattle.proto_model.specs.declared.rendezvous.Event.{Event}
use Rattle.rendezvous_meaning.specs.GivenMessage.{event_told}
use Rattle.schedule_replay.specs.Played.{Stop, last_text}
use Rattle.schedule_replay.specs.ScheduleLimits.{schedule_limits}
use Rattle.schedule_replay.specs.TextLines.{lines_of}
use Rattle.async_shape.specs.Setting.{Setting}
use Rattle.async_shape.specs.Config.{Config}
use Rattle.async_shape.specs.Next.{next, displaced_sender}
use Rattle.async_shape.specs.Run.{after_step, run}
use Rattle.async_shape.specs.declared.step.Step.{Step}
use Rattle.async_machine.specs.StepText.{step_text}
use Rattle.abstraction_map.specs.Abstraction.{abstraction}
use Rattle.abstraction_map.specs.Meant.{IsRefined}
use Rattle.run_replay.specs.RunTrace.{run_play, run_start, lines_if}
use Rattle.run_replay.specs.WhereStopped.{IsFirstStop, MeansStop, steps_in, state_behind}
use Rattle.rvc_top.specs.Commands.{said_at}
use Rattle.rvc_top.specs.Verdict.{IsSaid}
use Rattle.rvc_top.specs.declared.status.Status.{Status}

-- ---- one step

module _ (setting : Setting) (c : Config) (s : Step) where
  -- The word is `refused`, and the step isn't enabled.
  abbrev pub TellsRefused : Text → Type 0
  TellsRefused words = (words ≡ codes "refused") × (next setting c s ≡ None)

  -- The word is `stutter`, the step is enabled, and home and remotes stand for the same before it
  -- and after.
  abbrev pub TellsStutter : Text → Type 0
  TellsStutter words =
      (words ≡ codes "stutter")
      × ((d : Config) × (next setting c s ≡ Some d)
      × (abstraction setting.protocol d ≡ abstraction setting.protocol c))

  -- The words are those of an event with its message, the step is enabled, and the event is one
  -- rendezvous step of the protocol from what home and remotes stand for before it to what they
  -- stand for after.
  abbrev pub TellsEvent : Text → Type 0
  TellsEvent words =
      (e : Event) × (words ≡ event_told setting.protocol (abstraction setting.protocol c) e)
      × ((d : Config) × (next setting c s ≡ Some d)
      × RvStep setting.protocol (abstraction setting.protocol c) e
      (abstraction setting.protocol d))

  -- The words tell truly what the step is.
  abbrev pub Tells : Text → Type 0
  Tells words = TellsRefused words ⊎ (TellsStutter words ⊎ TellsEvent words)

  -- The block of the step behind so many others: its number, counted from 1, the step, what is told
  -- of it, and the lines of the processes that it concerns as they stand after it.
  pub record IsBlock (before : ℕ) (block : Text) : Type 0 where
    pub words : Text
    pub lines : Text
    pub is : block ≡ decimal (before + 1)
        ++ (codes " " ++ (step_text s ++ (codes ": " ++ (words ++ (codes "\n" ++ lines)))))
    pub tells : Tells words
    pub stand : lines ≡ lines_if setting.protocol s (displaced_sender setting c s)
        (next setting c s)

-- The text is the blocks of these steps, one after another from this configuration, behind so many
-- others.
abbrev pub AreBlocks : Setting → ℕ → Config → List Step → Text → Type 0
AreBlocks setting before c [] text = text ≡ []
AreBlocks setting before c (s ∷ steps) text =
    (block : Text) × (later : Text) × (text ≡ block ++ later) × IsBlock setting c s before block
    × AreBlocks setting (before + 1) (after_step setting c s) steps later

-- ---- a run

-- What is shown of a schedule on the two controllers of a protocol in a mode, with n remotes and k
-- slots, where the run ends with this status and writes this text.
pub record IsShown (n k : ℕ) (mode : Mode) (checked : CheckedProtocol) (schedule : Text)
    (status : Status) (text : Text) : Type 0 where
  -- So many lines of the schedule are played, no fewer than up to what stops it: its end, a line
  -- that is refused or one too many, or a claim that is broken.
  pub lines : ℕ
  pub stop : Stop
  pub stops :
      IsFirstStop run_play schedule_limits (run_start checked mode n k) (lines_of schedule) lines
      stop
  pub means : MeansStop schedule_limits (run_start checked mode n k) (lines_of schedule) stop
  -- The text is the blocks of the steps that these lines say, the last text, and the error text
  -- where the schedule is refused; and the status is that of the stop.
  pub blocks : Text
  pub told :
      AreBlocks (run_start checked mode n k).setting 0 (run_start checked mode n k).config
      (steps_in (lines_of schedule) lines) blocks
  pub said :
      IsSaid (said_at stop (blocks
      ++ last_text run_play
      (state_behind run_play (run_start checked mode n k) (lines_of schedule) lines) stop))
      status text
  -- Each configuration on the way stands for one of the protocol, and so does each step there.
  pub refined :
      AllByRecursion (IsRefined (run_start checked mode n k).setting)
      (run (run_start checked mode n k).setting (run_start checked mode n k).config
      (steps_in (lines_of schedule) lines))

-- What a trace prints, said by a run of the rendezvous meaning: nothing here reads a line.
use Rattle.std.specs.Prelude.{◌≡◌, ◌≢◌, ◌⊎◌, ℕ, ◌+◌, ◌<◌, List, [], ◌∷◌, ◌++◌, length, All}
use Rattle.std.specs.Prelude.{codes, decimal}
use Rattle.std.specs.List.{AllByRecursion}
use Rattle.proto_model.specs.Tokens.{Text}
use Rattle.proto_model.specs.Numbered.{NumberedProtocol}
use Rattle.proto_model.specs.Rendezvous.{rv_start, RvStep}
use Rattle.proto_model.specs.declared.rendezvous.RvConfig.{RvConfig}
use Rattle.proto_model.specs.declared.rendezvous.Event.{Event}
use Rattle.rendezvous_meaning.specs.GivenMessage.{event_told}
use Rattle.rendezvous_meaning.specs.Standing.{Standing}
use Rattle.schedule_replay.specs.EventLines.{HasNumbers}
use Rattle.schedule_replay.specs.TextLines.{HasNoLf, joined}
use Rattle.schedule_replay.specs.RvPlay.{home_line, remote_lines}

-- These events, one after another, lead from the one configuration to the other.
abbrev pub RvRun : NumberedProtocol → RvConfig → List Event → RvConfig → Type 0
RvRun protocol old [] new = new ≡ old
RvRun protocol old (e ∷ events) new =
    (next : RvConfig) × RvStep protocol old e next × RvRun protocol next events new

-- The line begins with two spaces.
abbrev pub IsIndented : Text → Type 0
IsIndented line = (rest : Text) × (line ≡ codes "  " ++ rest)

-- The line tells these words of the step with this number: it is the number, one space, the step
-- (at least one byte, none of which is `:`), then `: ` and the words.
pub record TellsOf (number : ℕ) (line words : Text) : Type 0 where
  pub step : Text
  pub some : 0 < length step
  pub one_colon : All (λ b. b ≢ 58) step
  pub line_is : line ≡ decimal number ++ (codes " " ++ (step ++ (codes ": " ++ words)))

-- The words tell an event that takes place where the machine stands, and leads to this
-- configuration: they are the event, and the message with its value that the sender gives in it.
-- Its numbers have at most five digits.
pub record TellsEvent (standing : Standing) (words : Text) (next : RvConfig) : Type 0 where
  pub event : Event
  pub numbers : HasNumbers event
  pub words_are : words ≡ event_told standing.protocol standing.config event
  pub step : RvStep standing.protocol standing.config event next

module _ (protocol : NumberedProtocol) where
  -- A line that follows so many steps, from this configuration, with these events still to come:
  -- it begins with two spaces; or it tells of the next step, and tells `refused`, `stutter`, or the
  -- first of the events, with the message that is given in it, and the event leads on. What follows
  -- depends on the steps told, on the configuration and on the events by then.
  abbrev pub PrintsLine : ℕ → RvConfig → List Event → Text
      → (ℕ → RvConfig → List Event → Type 0) → Type 0
  PrintsLine told config events line later =
      (IsIndented line × later told config events)
      ⊎ (((TellsOf (told + 1) line (codes "refused") ⊎ TellsOf (told + 1) line (codes "stutter"))
      × later (told + 1) config events)
      ⊎ ((e : Event) × (rest : List Event) × (next : RvConfig) × (events ≡ e ∷ rest)
      × RvStep protocol config e next × TellsOf (told + 1) line (event_told protocol config e)
      × later (told + 1) next rest))

  -- The lines of the steps, which follow so many, print these events, that lead from the one
  -- configuration to the other: each event in the configuration to which those before it lead.
  abbrev pub PrintsSteps : ℕ → RvConfig → List Text → List Event → RvConfig → Type 0
  PrintsSteps told config [] events last = (events ≡ []) × (last ≡ config)
  PrintsSteps told config (line ∷ lines) events last =
      PrintsLine told config events line
      (λ next_told next rest. PrintsSteps next_told next lines rest last)

  -- The trace prints these events: they are a run from the start, its lines tell them in order, and
  -- the abstraction that it prints is the last configuration of the run. No line holds an LF.
  pub record PrintsRun (n : ℕ) (text : List ℕ) (events : List Event) : Type 0 where
    pub last : RvConfig
    pub run : RvRun protocol (rv_start protocol n) events last
    pub steps : List Text
    pub states : List Text
    pub prints : PrintsSteps 0 (rv_start protocol n) steps events last
    pub shows : AllByRecursion IsIndented states
    pub step_lines : AllByRecursion HasNoLf steps
    pub state_lines : AllByRecursion HasNoLf states
    pub text_is : text
        ≡ joined (steps ++ (codes "end" ∷ (states ++ codes "abstract" ∷ [])))
        ++ (home_line (record { protocol = protocol; config = last })
        ++ remote_lines (record { protocol = protocol; config = last }))

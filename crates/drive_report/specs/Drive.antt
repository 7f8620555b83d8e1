-- A run that a number chooses, and what is counted over it.
use Rattle.std.specs.Prelude.{ℕ, zero, suc, ◌+◌, ◌*◌, ◌/◌, ◌%◌, ◌^◌, max, Bool, true, false, ◌==◌}
use Rattle.std.specs.Prelude.{if◌then◌else◌, List, [], ◌∷◌, length, fold, map, count_by, Option}
use Rattle.std.specs.Prelude.{Some, None, slice_get}
use Rattle.std.specs.Option.{option_map_or}
use Rattle.ordered_links.specs.Link.{Up}
use Rattle.ordered_links.specs.Lists.{LinkPair}
use Rattle.ordered_links.specs.declared.packet.Packet.{Packet}
use Rattle.async_shape.specs.Setting.{Setting}
use Rattle.async_shape.specs.Config.{Config, start}
use Rattle.ordered_links.specs.Packets.{is_request, is_ack, is_nack, is_reply}
use Rattle.async_shape.specs.Next.{put_of, arriving}
use Rattle.async_shape.specs.Run.{after_step, run}
use Rattle.async_shape.specs.Site.{Site, AtHome, AtRemote, UpFrom, DownTo, site}
use Rattle.async_shape.specs.declared.step.Step.{Step}
use Rattle.async_machine.specs.Standing.{waited_on}
use Rattle.abstraction_map.specs.Told.{told}
use Rattle.abstraction_map.specs.declared.told.Told.{Told}
use Rattle.abstraction_map.specs.declared.told.Told.TheVariants.{Refused, Stutter, Is}
use Rattle.drive_report.specs.Ready.{ready_list}
use Rattle.drive_report.specs.declared.summary.Summary.{Summary}

-- ---- the generator

-- the number that follows x
abbrev pub number_after : ℕ → ℕ
number_after x = (6364136223846793005 * x + 1442695040888963407) % 2 ^ 64

-- the place among so many, at least one, that a number chooses
abbrev pub place_chosen : ℕ → ℕ → ℕ
place_chosen x count = x / 2 ^ 33 % count

-- the step that a number chooses among these; none where there are none
abbrev pub step_chosen : ℕ → List Step → Option Step
step_chosen x [] = None
step_chosen x (s ∷ steps) = slice_get (s ∷ steps) (place_chosen x (length (s ∷ steps)))

-- ---- the run

-- A run that is driven: the steps that were taken, and whether a turn found no enabled step.
pub record Driven : Type 0 where
  pub steps : List Step
  pub stopped : Bool

-- no step was taken
abbrev pub driven_nowhere : Bool → Driven
driven_nowhere stopped = record { steps = []; stopped = stopped }

-- this step was taken before
abbrev pub driven_by : Step → Driven → Driven
driven_by s later = record { steps = s ∷ later.steps; stopped = later.stopped }

-- where this step was chosen, it is taken, and then comes what follows it; where none was, the run
-- has stopped
abbrev pub driven_on : Option Step → (Step → Driven) → Driven
driven_on None later = driven_nowhere true
driven_on (Some s) later = driven_by s (later s)

module _ (setting : Setting) where
  -- Up to so many turns from a configuration. In each turn the number before gives the next one,
  -- and this one chooses a step among those that are enabled. Where there is none the run stops.
  abbrev pub drive_from : ℕ → Config → ℕ → Driven
  drive_from zero c x = driven_nowhere false
  drive_from (suc turns) c x =
      driven_on (step_chosen (number_after x) (ready_list setting c))
      (λ s. drive_from turns (after_step setting c s) (number_after x))

  -- up to so many turns from the start with n remotes; the first number before is the seed
  abbrev pub drive_run : ℕ → ℕ → ℕ → Driven
  drive_run n turns seed = drive_from turns (start setting.protocol n) seed

  -- ---- what is counted

  -- each step of a run, with the configuration before it
  abbrev pub moments : Config → List Step → List (Config × Step)
  moments c [] = []
  moments c (s ∷ steps) = (c, s) ∷ moments (after_step setting c s) steps

-- an event is told
abbrev pub is_event : Told → Bool
is_event Refused = false
is_event Stutter = false
is_event (Is e) = true

-- of a step in a configuration
module _ (setting : Setting) (moment : Config × Step) where
  -- it is told as an event
  abbrev pub tells_event : Bool
  tells_event = is_event (told setting moment.0 moment.1)

  -- it puts a packet of this kind on a link
  abbrev pub puts_a : (Packet → Bool) → Bool
  puts_a kind = option_map_or (λ put. kind put.packet) (put_of setting moment.0 moment.1) false

-- At this site a request arrives at a home that waits on its sender: it crosses the home's own.
abbrev pub crosses_in : Config → Site → Bool
crosses_in c (AtHome partner) = false
crosses_in c (AtRemote j) = false
crosses_in c (UpFrom j) =
    if option_map_or (λ on. on == j) (waited_on c.home.place) false
    then option_map_or is_request (arriving c (Up j)) false
    else false
crosses_in c (DownTo j) = false

-- a request crosses the home's own in this step
abbrev pub crosses_at : Config → Step → Bool
crosses_at c s = crosses_in c (site s)

-- the greatest of the numbers; 0 of none
abbrev pub greatest : List ℕ → ℕ
greatest ns = fold max 0 ns

-- the greatest number of packets on one up link
abbrev pub longest_up : List LinkPair → ℕ
longest_up links = greatest (map (λ pair. length pair.up) links)

-- the greatest number of packets on one down link
abbrev pub longest_down : List LinkPair → ℕ
longest_down links = greatest (map (λ pair. length pair.down) links)

module _ (setting : Setting) where
  -- What is counted over a run that was driven so from this configuration: the steps; those that
  -- are told as events; the packets of each kind that were put on links; the requests that crossed
  -- the home's; and the greatest numbers of requests held, and of packets on one link, in any
  -- configuration of it.
  abbrev pub summary_of : Config → Driven → Summary
  summary_of c driven =
      let at = moments setting c driven.steps in
      let all = run setting c driven.steps in
      record {
        steps = length driven.steps;
        events = count_by (tells_event setting) at;
        requests = count_by (λ m. puts_a setting m is_request) at;
        acks = count_by (λ m. puts_a setting m is_ack) at;
        nacks = count_by (λ m. puts_a setting m is_nack) at;
        replies = count_by (λ m. puts_a setting m is_reply) at;
        crossed = count_by (λ m. crosses_at m.0 m.1) at;
        most_held = greatest (map (λ d. length d.held) all);
        most_up = greatest (map (λ d. longest_up d.links) all);
        most_down = greatest (map (λ d. longest_down d.links) all);
        stopped = driven.stopped;
      }

  -- the summary of up to so many turns from the start with n remotes
  abbrev pub summary : ℕ → ℕ → ℕ → Summary
  summary n turns seed =
      summary_of (start setting.protocol n) (drive_run setting n turns seed)

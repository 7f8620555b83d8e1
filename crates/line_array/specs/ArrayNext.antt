-- The next configuration of an array. A step of a line is a step of that line's own configuration;
-- the others stay. Where it puts a packet on a link, the number of the line ends the shared list of
-- this link. Which line takes its packet next from a shared link, the first number of the shared
-- list tells, and a delivery is a step of that line.
use Rattle.std.specs.Prelude.{ℕ, Bool, not, ◌&&◌, nat_lt, if◌then◌else◌, ◌==◌, List, [], ◌∷◌}
use Rattle.std.specs.Prelude.{length}
use Rattle.std.specs.Prelude.{Option, Some, None, is_some, slice_get, slice_set, unwrap_or}
use Rattle.std.specs.Option.{option_map, option_and_then}
use Rattle.ordered_links.specs.Link.{Link, Up, Down}
use Rattle.async_shape.specs.Setting.{Setting}
use Rattle.async_shape.specs.Config.{Config}
use Rattle.async_shape.specs.Site.{site, arrival_link}
use Rattle.async_shape.specs.Next.{next, put_of, take_of}
use Rattle.async_shape.specs.declared.step.Step.{Step}
use Rattle.async_shape.specs.declared.step.Step.TheVariants as step
use Rattle.line_array.specs.SharedLists.{first_line, shared_after}
use Rattle.line_array.specs.ArrayConfig.{ArrayConfig}
use Rattle.line_array.specs.declared.line_step.LineStep.{LineStep}
use Rattle.line_array.specs.declared.line_step.LineStep.TheVariants.{At}
use Rattle.line_array.specs.declared.line_step.LineStep.TheVariants as array_step

-- a packet arrives in the step
abbrev pub is_delivery : Step → Bool
is_delivery s = is_some (arrival_link (site s))

-- The number of a line and the step of this line that a step of the array means. `At` means the
-- step that it holds, of the line that it names; none where this line isn't there, and where the
-- step is a delivery. `Up` and `Down` mean the delivery to the line whose number is the first on
-- the shared link; none where the remote isn't there, and where nothing is under way on the link.
abbrev pub meant : ArrayConfig → LineStep → Option (ℕ × Step)
meant c (At a s) =
    if nat_lt a (length c.lines) && not (is_delivery s) then Some (a, s) else None
meant c (array_step.Up j) = option_map (λ a. (a, step.Up j)) (first_line (Up j) c.shared)
meant c (array_step.Down j) = option_map (λ a. (a, step.Down j)) (first_line (Down j) c.shared)

-- a step of a line, from where this line stands
pub record LineMove : Type 0 where
  pub number : ℕ
  pub before : Config
  pub own : Step

-- this step of the line with this number, if there is such a line
abbrev pub move_at : ArrayConfig → ℕ × Step → Option LineMove
move_at c (a, s) =
    option_map (λ before. record { number = a; before = before; own = s }) (slice_get c.lines a)

-- what the step of the array is: the step that is meant, of its line; none where none is meant
abbrev pub move_of : ArrayConfig → LineStep → Option LineMove
move_of c s = option_and_then (move_at c) (meant c s)

-- the step that is meant, if it is meant for line a, before these
abbrev pub meant_first : ℕ → Option (ℕ × Step) → List Step → List Step
meant_first a None later = later
meant_first a (Some (b, s)) later = if b == a then s ∷ later else later

module _ (setting : Setting) where
  -- the link on which the step of the line puts a packet; none where it puts none
  abbrev pub puts_on : LineMove → Option Link
  puts_on move = option_map (λ put. put.on) (put_of setting move.before move.own)

  -- the link from which it takes one; none where it takes none
  abbrev pub takes_from : LineMove → Option Link
  takes_from move = take_of setting move.before move.own

  -- The array after the line has moved, and stands so: the packet that it put and the one that it
  -- took are noted on the shared links.
  abbrev pub array_moved : ArrayConfig → LineMove → Config → ArrayConfig
  array_moved c move after = record {
    lines = slice_set c.lines move.number after;
    shared = shared_after move.number (puts_on move) (takes_from move) c.shared;
  }

  -- the array after this step of a line; none where the step is not enabled
  abbrev pub next_by : ArrayConfig → LineMove → Option ArrayConfig
  next_by c move = option_map (array_moved c move) (next setting move.before move.own)

  -- the configuration after a step; none where no step of a line is meant, and where the one that
  -- is meant is not enabled
  abbrev pub next_array : ArrayConfig → LineStep → Option ArrayConfig
  next_array c s = option_and_then (next_by c) (move_of c s)

  -- the configuration after a step; a step that is refused changes nothing
  abbrev pub after_line_step : ArrayConfig → LineStep → ArrayConfig
  after_line_step c s = unwrap_or (next_array c s) c

  -- the configuration to which these steps lead, one after another
  abbrev pub array_at_end : ArrayConfig → List LineStep → ArrayConfig
  array_at_end c [] = c
  array_at_end c (s ∷ steps) = array_at_end (after_line_step c s) steps

  -- the steps that are meant for line a when these steps of the array are taken, one after another
  abbrev pub steps_meant : ℕ → ArrayConfig → List LineStep → List Step
  steps_meant a c [] = []
  steps_meant a c (s ∷ steps) =
      meant_first a (meant c s) (steps_meant a (after_line_step c s) steps)

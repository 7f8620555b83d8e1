-- How the shared lists and the lines' own links go together in each configuration of an array.
use Rattle.std.specs.Prelude.{◌≡◌, ◌≢◌, ℕ, ◌*◌, ◌≤◌, ◌==◌, List, [], length, Some, slice_get}
use Rattle.std.specs.Prelude.{IsSome}
use Rattle.std.specs.List.{AllByRecursion, filter}
use Rattle.ordered_links.specs.Link.{Link, Up, Down}
use Rattle.ordered_links.specs.Lists.{packets_on}
use Rattle.async_shape.specs.Setting.{Setting}
use Rattle.async_shape.specs.Config.{Config, count_of}
use Rattle.async_shape.specs.Shape.{IsShaped}
use Rattle.line_array.specs.SharedLists.{shared_on}
use Rattle.line_array.specs.ArrayConfig.{ArrayConfig}
use Rattle.line_array.specs.ArrayNext.{next_array}
use Rattle.line_array.specs.Carried.{Carried, AreUnderWay}
use Rattle.line_array.specs.declared.line_step.LineStep.{LineStep}
use Rattle.line_array.specs.declared.line_step.LineStep.TheVariants as array_step

-- how many entries of line a there are on a shared link
abbrev pub entries_of : ℕ → List ℕ → ℕ
entries_of a numbers = length (filter (λ b. b == a) numbers)

-- the step of the array that delivers from this link
abbrev pub delivery : Link → LineStep
delivery (Up j) = array_step.Up j
delivery (Down j) = array_step.Down j

-- What holds of each configuration of an array: each line's own has the shape and is for as many
-- remotes as there are shared links, and on each shared link some packets are under way, of which
-- it has the numbers and the lines' own links the packets.
pub record IsSharing (setting : Setting) (c : ArrayConfig) : Type 0 where
  pub shaped : AllByRecursion (IsShaped setting) c.lines
  pub remotes : AllByRecursion (λ (line : Config). count_of line ≡ length c.shared) c.lines
  pub under_way : (link : Link) → (carried : List Carried) × AreUnderWay c link carried

-- In each shared list the number of entries a is the length of the link of line a. A shared up list
-- is at most twice as long as there are lines, and a shared down list three times. Where something
-- is under way, its delivery is enabled.
pub record IsInStep (setting : Setting) (c : ArrayConfig) : Type 0 where
  pub entries :
      (link : Link) (a : ℕ) (line : Config) → slice_get c.lines a ≡ Some line
      → entries_of a (shared_on link c.shared) ≡ length (packets_on link line.links)
  pub up : (j : ℕ) → length (shared_on (Up j) c.shared) ≤ 2 * length c.lines
  pub down : (j : ℕ) → length (shared_on (Down j) c.shared) ≤ 3 * length c.lines
  pub goes :
      (link : Link) → shared_on link c.shared ≢ []
      → IsSome (next_array setting c (delivery link))

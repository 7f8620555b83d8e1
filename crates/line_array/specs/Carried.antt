-- What is put on a shared link and taken from it over the steps of an array, and what is under way
-- on it: packets, each with the number of its line.
use Rattle.std.specs.Prelude.{◌≡◌, ℕ, ◌<◌, ◌==◌, Bool, false, if◌then◌else◌, List, [], ◌∷◌, ◌++◌}
use Rattle.std.specs.Prelude.{map, length, Option, Some, None, slice_get}
use Rattle.std.specs.Option.{option_map_or}
use Rattle.std.specs.List.{AllByRecursion, filter}
use Rattle.ordered_links.specs.Link.{Link, Up, Down}
use Rattle.ordered_links.specs.Lists.{packets_on}
use Rattle.ordered_links.specs.declared.packet.Packet.{Packet}
use Rattle.async_shape.specs.Setting.{Setting}
use Rattle.async_shape.specs.Config.{Config}
use Rattle.async_shape.specs.Next.{put_of, take_of, arriving}
use Rattle.line_array.specs.SharedLists.{shared_on}
use Rattle.line_array.specs.ArrayConfig.{ArrayConfig}
use Rattle.line_array.specs.ArrayNext.{LineMove, move_of, after_line_step}
use Rattle.line_array.specs.declared.line_step.LineStep.{LineStep}

-- a packet of the line with this number
pub record Carried : Type 0 where
  pub line : ℕ
  pub packet : Packet

-- the packets of line a among these, in their order
abbrev pub packets_of : ℕ → List Carried → List Packet
packets_of a carried = map (λ one. one.packet) (filter (λ one. one.line == a) carried)

-- the numbers of the lines of these packets, in their order
abbrev pub numbers_of : List Carried → List ℕ
numbers_of carried = map (λ one. one.line) carried

-- the two are the same link
abbrev pub is_link : Link → Link → Bool
is_link (Up i) (Up j) = i == j
is_link (Up i) (Down j) = false
is_link (Down i) (Up j) = false
is_link (Down i) (Down j) = i == j

-- This packet, if there is one, as one of line a, where it is put on or taken from this link.
abbrev pub carried_on : Link → ℕ → Link → Option Packet → List Carried
carried_on link a on None = []
carried_on link a on (Some packet) =
    if is_link on link then record { line = a; packet = packet } ∷ [] else []

module _ (setting : Setting) (link : Link) where
  -- what the step of the line puts on the link: one packet at most
  abbrev pub put_by : LineMove → List Carried
  put_by move =
      option_map_or (λ put. carried_on link move.number put.on (Some put.packet))
      (put_of setting move.before move.own) []

  -- what it takes from the link: the packet that arrives in it, if it comes from this link
  abbrev pub taken_by : LineMove → List Carried
  taken_by move =
      option_map_or (λ from. carried_on link move.number from (arriving move.before from))
      (take_of setting move.before move.own) []

  -- what is put on the link over these steps, in the order of the puts
  abbrev pub puts_over : ArrayConfig → List LineStep → List Carried
  puts_over c [] = []
  puts_over c (s ∷ steps) =
      option_map_or put_by (move_of c s) [] ++ puts_over (after_line_step setting c s) steps

  -- what is taken from the link over these steps, in the order of the deliveries
  abbrev pub takes_over : ArrayConfig → List LineStep → List Carried
  takes_over c [] = []
  takes_over c (s ∷ steps) =
      option_map_or taken_by (move_of c s) [] ++ takes_over (after_line_step setting c s) steps

-- These packets are under way on the shared link: its list has the numbers of their lines, and the
-- link of each line has those of them that are its own, in this order. So on a shared link the i-th
-- of the numbers a stands for the i-th packet on line a's own link.
pub record AreUnderWay (c : ArrayConfig) (link : Link) (carried : List Carried) : Type 0 where
  pub numbers : shared_on link c.shared ≡ numbers_of carried
  pub packets :
      (a : ℕ) (line : Config) → slice_get c.lines a ≡ Some line
      → packets_on link line.links ≡ packets_of a carried
  pub lines : AllByRecursion (λ (one : Carried). one.line < length c.lines) carried

-- Of what was put on the link, in this order, the first packets were taken, in the same order, and
-- the others are under way: no delivery passes an earlier put on the same shared link, whatever the
-- lines of the two are.
pub record IsInOrder (c : ArrayConfig) (link : Link) (puts takes : List Carried) : Type 0 where
  pub carried : List Carried
  pub order : puts ≡ takes ++ carried
  pub under_way : AreUnderWay c link carried

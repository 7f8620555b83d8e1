-- The packet that arrives in a step, by the lists of the links alone.
use Rattle.std.specs.Prelude.{ℕ, ◌<◌, ◌≤◌, List, Option, Some, None}
use Rattle.std.specs.Option.{option_and_then}
use Rattle.ordered_links.specs.Lists.{LinkPair, first_packet, packets_on}
use Rattle.ordered_links.specs.declared.packet.Packet.{Packet}
use Rattle.async_shape.specs.Site.{site, remote_named, arrival_link}
use Rattle.async_shape.specs.declared.step.Step.{Step}

-- the first packet on the link from which the step takes; none where it takes from none
abbrev pub arriving_on : List LinkPair → Step → Option Packet
arriving_on links s =
    option_and_then (λ link. first_packet (packets_on link links)) (arrival_link (site s))

-- the remote, if there is one, is one of n
abbrev pub IsOneOf : ℕ → Option ℕ → Type 0
IsOneOf n None = Unit {0}
IsOneOf n (Some j) = j < n

-- of n remotes, at most 64, the one that the step names is there
pub record IsLinked (n : ℕ) (s : Step) : Type 0 where
  pub few : n ≤ 64
  pub there : IsOneOf n (remote_named (site s))

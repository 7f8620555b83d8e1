-- Links that count the packets of each kind that are put on them.
use Rattle.std.specs.Prelude.{ℕ, ◌+◌, ◌%◌, ◌^◌, List}
use Rattle.ordered_links.specs.Lists.{LinkPair}
use Rattle.ordered_links.specs.declared.packet.Packet.{Packet}
use Rattle.ordered_links.specs.declared.packet.Packet.TheVariants as packet
use Rattle.async_shape.specs.Config.{Config}
use Rattle.async_machine.specs.Standing.{Standing, config}
use Rattle.drive_report.specs.declared.counted.PacketCounts.{PacketCounts}

-- What contracts see of such links: their lists, and the counts.
pub record Counted : Type 0 where
  pub lists : List LinkPair
  pub counts : PacketCounts

-- their lists
abbrev pub lists_of : Counted → List LinkPair
lists_of links = links.lists

-- the configuration in which a machine stands over such links
abbrev pub counted_config : Standing Counted → Config
counted_config machine = config lists_of machine

-- the number that follows a count, modulo 2 ^ 64
abbrev pub next_count : ℕ → ℕ
next_count count = (count + 1) % 2 ^ 64

-- the counts with one more packet
abbrev pub with_packet : Packet → PacketCounts → PacketCounts
with_packet (packet.Request m v) counts = record {
  requests = next_count counts.requests;
  acks = counts.acks;
  nacks = counts.nacks;
  replies = counts.replies;
}
with_packet packet.Ack counts = record {
  requests = counts.requests;
  acks = next_count counts.acks;
  nacks = counts.nacks;
  replies = counts.replies;
}
with_packet packet.Nack counts = record {
  requests = counts.requests;
  acks = counts.acks;
  nacks = next_count counts.nacks;
  replies = counts.replies;
}
with_packet (packet.Reply p v) counts = record {
  requests = counts.requests;
  acks = counts.acks;
  nacks = counts.nacks;
  replies = next_count counts.replies;
}

-- What a packet on a link is.
use Rattle.std.specs.Prelude.{Bool, true, false}
use Rattle.ordered_links.specs.declared.packet.Packet.{Packet}
use Rattle.ordered_links.specs.declared.packet.Packet.TheVariants as packet

-- the packet is a request
abbrev pub is_request : Packet → Bool
is_request (packet.Request m v) = true
is_request packet.Ack = false
is_request packet.Nack = false
is_request (packet.Reply p v) = false

-- the packet is an ack
abbrev pub is_ack : Packet → Bool
is_ack (packet.Request m v) = false
is_ack packet.Ack = true
is_ack packet.Nack = false
is_ack (packet.Reply p v) = false

-- the packet is a nack
abbrev pub is_nack : Packet → Bool
is_nack (packet.Request m v) = false
is_nack packet.Ack = false
is_nack packet.Nack = true
is_nack (packet.Reply p v) = false

-- the packet is a reply
abbrev pub is_reply : Packet → Bool
is_reply (packet.Request m v) = false
is_reply packet.Ack = false
is_reply packet.Nack = false
is_reply (packet.Reply p v) = true

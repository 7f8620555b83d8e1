-- Wires. A wire is one link, laid over a network that loses, repeats and reorders what travels.
--
-- The packets that are put on a wire are numbered from 0, and travel in frames, each a packet with
-- its number. The end at which packets are put keeps a window of the last ones, as many as the link
-- has room for, so that it can send each of them again. The other end counts the packets that it
-- has received: this count is the number of the packet that it receives next. A packet that it
-- received lies in the inbox until it is taken.
use Rattle.std.specs.Prelude.{ℕ, ◌-◌, List, [], ◌++◌, map, length, drop, slice_index_or, slice_set}
use Rattle.ordered_links.specs.Link.{Link, Up, Down}
use Rattle.ordered_links.specs.Lists.{LinkPair}
use Rattle.ordered_links.specs.declared.packet.Packet.{Packet}
use Rattle.faulty_link.specs.declared.frame.Frame.{Frame}

-- the last n of a list; all of it where there are no more
abbrev pub last_of : {X : Type 0} → ℕ → List X → List X
last_of n items = drop (length items - n) items

pub record Wire : Type 0 where
  -- how many packets were put, since the numbers last began
  pub put : ℕ
  -- how many packets were received, since the numbers last began
  pub got : ℕ
  -- the last packets that were put
  pub window : List Packet
  -- the packets that were received and not taken yet
  pub inbox : List Packet
  -- the frames on their way
  pub flight : List Frame

-- a wire on which nothing was put
abbrev pub no_wire : Wire
no_wire = record { put = 0; got = 0; window = []; inbox = []; flight = [] }

-- the packets that were put and not received yet: the last ones of the window
abbrev pub waiting_packets : Wire → List Packet
waiting_packets w = last_of (w.put - w.got) w.window

-- The packets on a wire, as a link has them: those in the inbox, and then those that wait to be
-- received.
abbrev pub on_wire : Wire → List Packet
on_wire w = w.inbox ++ waiting_packets w

-- the wire of a remote's up link, and that of its down link
pub record WirePair : Type 0 where
  pub up : Wire
  pub down : Wire

-- nothing was put on either wire
abbrev pub no_wires : WirePair
no_wires = record { up = no_wire; down = no_wire }

-- the two wires of this remote; past the last remote nothing was put on them
abbrev pub wires_at : List WirePair → ℕ → WirePair
wires_at wires j = slice_index_or wires j no_wires

-- the wire of this link
abbrev pub wire_on : Link → List WirePair → Wire
wire_on (Up j) wires = (wires_at wires j).up
wire_on (Down j) wires = (wires_at wires j).down

-- The wires after that of this link has become this one; all others are as before. Past the last
-- remote nothing changes.
abbrev pub with_wire : Link → Wire → List WirePair → List WirePair
with_wire (Up j) w wires = slice_set wires j (record (wires_at wires j) { up = w })
with_wire (Down j) w wires = slice_set wires j (record (wires_at wires j) { down = w })

-- the packets on the two wires of a remote
abbrev pub pair_lists : WirePair → LinkPair
pair_lists pair = record { up = on_wire pair.up; down = on_wire pair.down }

-- the packets on all wires, as links have them
abbrev pub wire_lists : List WirePair → List LinkPair
wire_lists wires = map pair_lists wires

-- for how many packets a link has room: 2 on an up link, and 3 on a down link
abbrev pub room_of : Link → ℕ
room_of (Up j) = 2
room_of (Down j) = 3

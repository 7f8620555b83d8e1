-- The trace of a schedule of steps and of moves of the network: what the two controllers do at each
-- step over links whose packets travel as numbered frames, what it means, and what becomes of the
-- frames.
--
-- A delivery waits where packets are on its link, but none has arrived there: the block of such a
-- step is its number, one space, the step and `: waiting`, and nothing changes. The block of each
-- other step is that of a schedule of steps alone. The controllers go on as they would over any
-- links. On the wires the packet that the step puts is put, and then the one that arrives in it is
-- taken.
--
-- The block of a move of the network is its number, one space, its words, and `: refused` where it
-- is not possible; then nothing changes. Else it is `: net`, and the line of the wire follows, as
-- it is after the move: two spaces, `link`, the remote, `up` or `down`, `put` and how many packets
-- were put on it, `got` and how many of them were received, and `flight[..]` with the numbers of
-- the frames that are under way, the first one first and `,` between them.
--
-- The last text is that of a schedule of steps alone. Claims are not looked at, so nothing halts.
use Rattle.std.specs.Prelude.{ℕ, Bool, true, false, if◌then◌else◌, List, [], ◌∷◌, ◌++◌, replicate}
use Rattle.std.specs.Prelude.{map, Option, Some, None, unwrap_or, codes, decimal}
use Rattle.std.specs.Option.{option_map_or}
use Rattle.proto_model.specs.Tokens.{Text}
use Rattle.proto_model.specs.Numbered.{NumberedProtocol}
use Rattle.proto_model.specs.declared.mode.Mode.{Mode}
use Rattle.schedule_replay.specs.Play.{Play}
use Rattle.ordered_links.specs.Link.{Link, Up, Down}
use Rattle.ordered_links.specs.Lists.{packets_on}
use Rattle.ordered_links.specs.declared.packet.Packet.{Packet}
use Rattle.async_shape.specs.Setting.{Setting}
use Rattle.async_shape.specs.Config.{Config, start}
use Rattle.async_shape.specs.Outcome.{Put}
use Rattle.async_shape.specs.Site.{site, arrival_link}
use Rattle.async_shape.specs.Next.{put_of, take_of}
use Rattle.async_shape.specs.Run.{after_step}
use Rattle.async_shape.specs.declared.step.Step.{Step}
use Rattle.async_machine.specs.StepText.{step_text}
use Rattle.faulty_link.specs.Wire.{Wire, WirePair, no_wires, wire_on, with_wire, room_of}
use Rattle.faulty_link.specs.Moves.{wire_after_put, wire_after_take, moved, link_of}
use Rattle.faulty_link.specs.NetLines.{net_text}
use Rattle.faulty_link.specs.declared.frame.Frame.{Frame}
use Rattle.faulty_link.specs.declared.net_step.NetStep.{NetStep}
use Rattle.run_replay.specs.StateLines.{bracketed}
use Rattle.run_replay.specs.RunTrace.{Running, step_block, run_ending}
use Rattle.lossy_replay.specs.declared.items.LossyItem.{LossyItem}
use Rattle.lossy_replay.specs.declared.items.LossyItem.TheVariants.{Takes, Moves}
use Rattle.lossy_replay.specs.LossyLines.{lossy_line}

-- What contracts see of a machine over such links: what the controllers were given, the
-- configuration in which they stand, and the wires over which they run. The links of the
-- configuration are the lists of the wires.
pub record LossyRunning : Type 0 where
  pub setting : Setting
  pub config : Config
  pub wires : List WirePair

-- the same controllers in the same configuration, where no claim is looked at
abbrev pub as_run : LossyRunning → Running
as_run running = record { claims = []; setting = running.setting; config = running.config }

-- ---- which deliveries wait

-- These packets are on a link and these have arrived there: some are, and none has.
abbrev pub none_arrived : List Packet → List Packet → Bool
none_arrived [] inbox = false
none_arrived (packet ∷ packets) [] = true
none_arrived (packet ∷ packets) (arrived ∷ inbox) = false

-- A delivery waits where packets are on its link, but none has arrived. Each other step goes on.
abbrev pub waits : LossyRunning → Step → Bool
waits running s =
    option_map_or (λ link. none_arrived (packets_on link running.config.links)
    (wire_on link running.wires).inbox) (arrival_link (site s)) false

-- ---- the wires after a step

-- the wires after a put, if there is one
abbrev pub wires_put : Option Put → List WirePair → List WirePair
wires_put None wires = wires
wires_put (Some put) wires =
    with_wire put.on (wire_after_put (room_of put.on) put.packet (wire_on put.on wires)) wires

-- the wires after a take, if there is one
abbrev pub wires_left : Option Link → List WirePair → List WirePair
wires_left None wires = wires
wires_left (Some link) wires = with_wire link (wire_after_take (wire_on link wires)) wires

-- The wires after a step, which puts one packet at most, and then takes one at most.
abbrev pub wires_after : Option Put → Option Link → List WirePair → List WirePair
wires_after put takes_from wires = wires_left takes_from (wires_put put wires)

-- ---- where the machine goes

-- The controllers stand in the configuration after the step, and the wires are as it leaves them.
-- One that isn't enabled changes nothing.
abbrev pub after_taken : LossyRunning → Step → LossyRunning
after_taken running s = record {
  setting = running.setting;
  config = after_step running.setting running.config s;
  wires = wires_after (put_of running.setting running.config s)
      (take_of running.setting running.config s) running.wires;
}

-- The wires are as the move leaves them, and the controllers stand where they stood. A move that
-- isn't possible changes nothing.
abbrev pub after_move : LossyRunning → NetStep → LossyRunning
after_move running m = record {
  setting = running.setting;
  config = running.config;
  wires = unwrap_or (moved m running.wires) running.wires;
}

-- A step that waits changes nothing.
abbrev pub lossy_after : LossyRunning → LossyItem → LossyRunning
lossy_after running (Takes s) = if waits running s then running else after_taken running s
lossy_after running (Moves m) = after_move running m

-- ---- blocks

-- what a link is called: its remote, and which way it leads
abbrev pub link_words : Link → Text
link_words (Up j) = decimal j ++ codes " up"
link_words (Down j) = decimal j ++ codes " down"

-- the numbers of these frames
abbrev pub frame_texts : List Frame → List Text
frame_texts frames = map (λ frame. decimal frame.number) frames

-- the line of this link, whose wire this is
abbrev pub wire_line : Link → Wire → Text
wire_line link wire =
    codes "  link "
    ++ (link_words link
    ++ (codes " put " ++ (decimal wire.put
    ++ (codes " got " ++ (decimal wire.got
    ++ ((codes " flight" ++ bracketed (frame_texts wire.flight)) ++ codes "\n"))))))

-- what is told of a move that leads to these wires, if it is possible
abbrev pub net_told : NetStep → Option (List WirePair) → Text
net_told m (Some wires) = codes "net\n" ++ wire_line (link_of m) (wire_on (link_of m) wires)
net_told m None = codes "refused\n"

-- the block of a move, behind its number
abbrev pub net_block : List WirePair → NetStep → Text
net_block wires m = net_text m ++ (codes ": " ++ net_told m (moved m wires))

-- the block of a step that waits, behind its number
abbrev pub waiting_block : Step → Text
waiting_block s = step_text s ++ codes ": waiting\n"

-- the block of an item, behind its number
abbrev pub lossy_block : LossyRunning → LossyItem → Text
lossy_block running (Takes s) =
    if waits running s then waiting_block s else step_block (as_run running) s
lossy_block running (Moves m) = net_block running.wires m

-- ---- a play

-- How such a schedule is played. The machine never halts.
abbrev pub lossy_play : Play LossyRunning LossyItem
lossy_play = record {
  says = lossy_line;
  after = lossy_after;
  block = lossy_block;
  ending = λ running. run_ending running.setting.protocol running.config;
  halts = λ running. None;
}

-- the controllers of the protocol in this mode, with n remotes and k slots, at the start, over
-- wires on which nothing was put
abbrev pub lossy_start : NumberedProtocol → Mode → ℕ → ℕ → LossyRunning
lossy_start protocol mode n k = record {
  setting = record { protocol = protocol; mode = mode; slots = k };
  config = start protocol n;
  wires = replicate n no_wires;
}

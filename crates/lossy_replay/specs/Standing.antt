-- What contracts see of a machine over links that lose, repeat and reorder frames.
use Rattle.std.specs.Prelude.{List}
use Rattle.async_machine.specs.Standing.{Standing, setting, config}
use Rattle.faulty_link.specs.Wire.{WirePair, wire_lists}
use Rattle.lossy_replay.specs.LossyTrace.{LossyRunning}

-- The setting of the machine, the configuration in which it stands, whose links are the lists of
-- its wires, and the wires.
abbrev pub running_of : Standing (List WirePair) → LossyRunning
running_of machine = record {
  setting = setting machine;
  config = config wire_lists machine;
  wires = machine.links;
}

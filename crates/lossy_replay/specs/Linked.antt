-- What the links of the configuration are, wherever a machine over wires stands.
use Rattle.std.specs.Prelude.{◌≡◌}
use Rattle.faulty_link.specs.Wire.{wire_lists}
use Rattle.faulty_link.specs.Whole.{AreWires}
use Rattle.lossy_replay.specs.LossyTrace.{LossyRunning}

-- The wires are whole, and the links of the configuration are the lists of packets on them: of each
-- link those in the inbox, and then those that were put and not received yet.
pub record IsLinked (running : LossyRunning) : Type 0 where
  pub wires : AreWires running.wires
  pub links : running.config.links ≡ wire_lists running.wires

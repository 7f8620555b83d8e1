-- A frame that may be received is that of the oldest packet that waits.
use Rattle.faulty_link.specs.Wire.{room_of}
use Rattle.faulty_link.proofs.MovesKeep.{pass-receives}
use Rattle.faulty_link.proofs.laws.the_next_packet_is_received.Goals as goal

pub returns : goal.returns
returns c = λ link w place frame whole at. pass-receives (room_of link) w place frame whole at

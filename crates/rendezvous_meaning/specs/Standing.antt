-- What contracts see of a machine of the rendezvous meaning.
use Rattle.proto_model.specs.Numbered.{NumberedProtocol}
use Rattle.proto_model.specs.Proper.{IsProper}
use Rattle.proto_model.specs.Rendezvous.{IsConfigOf}
use Rattle.proto_model.specs.declared.rendezvous.RvConfig.{RvConfig}

-- its protocol, and the configuration in which it stands
pub record Standing : Type 0 where
  pub protocol : NumberedProtocol
  pub config : RvConfig

-- The protocol is proper, and the machine stands in a configuration of it.
pub record IsStanding (protocol : NumberedProtocol) (config : RvConfig) : Type 0 where
  pub proper : IsProper protocol
  pub stands : IsConfigOf protocol config

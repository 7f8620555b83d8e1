-- The words by which a trace tells what a step means.
use Rattle.std.specs.Prelude.{codes}
use Rattle.proto_model.specs.Tokens.{Text}
use Rattle.proto_model.specs.Numbered.{NumberedProtocol}
use Rattle.proto_model.specs.declared.rendezvous.RvConfig.{RvConfig}
use Rattle.rendezvous_meaning.specs.GivenMessage.{event_told}
use Rattle.abstraction_map.specs.declared.told.Told.{Told}
use Rattle.abstraction_map.specs.declared.told.Told.TheVariants.{Refused, Stutter, Is}

-- What is told of a step, in the rendezvous configuration for which the one before it stands:
-- `refused`, `stutter`, or the event and the message that is given in it.
abbrev pub told_words : NumberedProtocol → RvConfig → Told → Text
told_words protocol config Refused = codes "refused"
told_words protocol config Stutter = codes "stutter"
told_words protocol config (Is e) = event_told protocol config e

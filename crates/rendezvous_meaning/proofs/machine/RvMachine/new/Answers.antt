-- The start is a configuration of the protocol.
use Rattle.std.proofs.Common.{sym, subst}
use Rattle.proto_model.specs.Rendezvous.{IsConfigOf}
use Rattle.proto_model.proofs.KeptConfig.{IsConfigOf-start}
use Rattle.rendezvous_meaning.proofs.machine.RvMachine.new.Goals as goal

pub invariant_of-result : goal.invariant_of-result
invariant_of-result c =
    let protocol = c.args.checked.now.protocol in
    let proper = c.in_ok-config.ensures.proper in
    record {
      proper = proper;
      stands = subst (IsConfigOf protocol) (sym c.in_ok-config.ensures.value)
          (IsConfigOf-start protocol c.args.n proper c.requires.0 c.requires.1);
    }

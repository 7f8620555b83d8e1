-- A value that isn't a set has no remote.
use Rattle.std.proofs.Common.{sym}
use Rattle.async_machine.proofs.Targets.{below-no_set}
use Rattle.async_machine.proofs.choosing.has_remote_below.Goals as goal

pub returns-in_default : goal.returns-in_default
returns-in_default c = sym (below-no_set c.args.value c.args.n c.in_default.not-Set)

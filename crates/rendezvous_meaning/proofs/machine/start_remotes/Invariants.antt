-- So far so many remotes stand at the start.
use Rattle.std.proofs.Common.{◌≡◌, replicate}
use Rattle.proto_model.specs.Rendezvous.{start_part}
use Rattle.rendezvous_meaning.proofs.machine.start_remotes.Given as goal

abbrev pub invariant-loop-made : goal.invariant-loop-made
invariant-loop-made l = l.remotes ≡ replicate l._made (start_part l.body)

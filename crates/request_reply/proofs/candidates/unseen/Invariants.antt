-- So far there is a candidate for each message counted.
use Rattle.std.proofs.Common.{◌≡◌, replicate}
use Rattle.request_reply.specs.declared.candidates.Candidate.TheVariants.{Unseen}
use Rattle.request_reply.proofs.candidates.unseen.Given as goal

abbrev pub invariant-loop : goal.invariant-loop
invariant-loop l = l.candidates ≡ replicate l.counter Unseen

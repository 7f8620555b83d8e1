-- So far there is none for each message counted.
use Rattle.std.proofs.Common.{◌≡◌, replicate, None}
use Rattle.request_reply.proofs.pairs.no_pairs.Given as goal

abbrev pub invariant-loop : goal.invariant-loop
invariant-loop l = l.replies ≡ replicate l.counter None

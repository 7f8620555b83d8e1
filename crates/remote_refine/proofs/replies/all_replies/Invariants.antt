-- So far the replies of the first messages are there.
use Rattle.std.proofs.Common.{◌≡◌, map}
use Rattle.request_reply.specs.Pairs.{either}
use Rattle.remote_refine.proofs.replies.all_replies.Given as goal

abbrev pub invariant-loop-up : goal.invariant-loop-up
invariant-loop-up l = l.replies ≡ map either (map (λ pair. (pair.0.now, pair.1.now)) l.yielded)

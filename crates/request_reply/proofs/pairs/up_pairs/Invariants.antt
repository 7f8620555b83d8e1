-- The replies of the first messages.
use Rattle.std.proofs.Common.{◌≡◌, map, None, cond}
use Rattle.std.specs.List.{range_with_len}
use Rattle.proto_model.specs.Pairs.{goes_up, paired_with}
use Rattle.request_reply.proofs.pairs.up_pairs.Given as goal

abbrev pub invariant-loop-place : goal.invariant-loop-place
invariant-loop-place l =
    l.replies
    ≡ map (λ q. cond (goes_up l.checked.protocol q) (paired_with l.checked.protocol q) None)
    (range_with_len 0 l.place)

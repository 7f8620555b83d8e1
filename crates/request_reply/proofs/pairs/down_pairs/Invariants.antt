-- The replies of the first messages.
use Rattle.std.proofs.Common.{◌≡◌, map, None, cond}
use Rattle.std.specs.List.{range_with_len}
use Rattle.proto_model.specs.Pairs.{goes_down, paired_with}
use Rattle.request_reply.proofs.pairs.down_pairs.Given as goal

abbrev pub invariant-loop-place : goal.invariant-loop-place
invariant-loop-place l =
    l.replies
    ≡ map (λ m. cond (goes_down l.checked.protocol m) (paired_with l.checked.protocol m) None)
    (range_with_len 0 l.place)

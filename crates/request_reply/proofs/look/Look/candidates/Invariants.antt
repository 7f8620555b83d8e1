-- The rules of the first states are noted.
use Rattle.std.proofs.Common.{◌≡◌, replicate, take, flat_map}
use Rattle.request_reply.specs.Candidates.{noted_all}
use Rattle.request_reply.specs.declared.candidates.Candidate.TheVariants.{Unseen}
use Rattle.request_reply.proofs.look.Look.candidates.Given as goal

abbrev pub invariant-loop-state : goal.invariant-loop-state
invariant-loop-state l =
    l.candidates ≡ noted_all l.self l.body (replicate l.count Unseen)
    (flat_map (λ state. state.rules) (take l.state-index l.state-items))

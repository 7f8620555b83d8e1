use Rattle.std.proofs.Common.{map, take}
use Rattle.proto_model.specs.Grammar.{claim_tokens}
use Rattle.proto_model.specs.LaidOut.{at}
use Rattle.proto_model.specs.Marks.{Lays, marks_of}
use Rattle.proto_model.proofs.layout.writer.Writer.claims.Given as goal

abbrev pub invariant-loop-claim : goal.invariant-loop-claim
invariant-loop-claim l =
    Lays (marks_of (map (λ x. at 0 (claim_tokens x)) (take l.claim-index l.claims))) l.initial.self
    l.self

use Rattle.std.proofs.Common.{map, take}
use Rattle.proto_model.specs.Grammar.{guard_tokens}
use Rattle.proto_model.specs.LaidOut.{at}
use Rattle.proto_model.specs.Marks.{Lays, marks_of}
use Rattle.proto_model.proofs.layout.writer.Writer.guards.Given as goal

abbrev pub invariant-loop-guard : goal.invariant-loop-guard
invariant-loop-guard l =
    Lays (marks_of (map (λ x. at 4 (guard_tokens x)) (take l.guard-index l.guards))) l.initial.self
    l.self

use Rattle.std.proofs.Common.{map, take}
use Rattle.proto_model.specs.Grammar.{var_tokens}
use Rattle.proto_model.specs.LaidOut.{at}
use Rattle.proto_model.specs.Marks.{Lays, marks_of}
use Rattle.proto_model.proofs.layout.writer.Writer.vars.Given as goal

abbrev pub invariant-loop-var : goal.invariant-loop-var
invariant-loop-var l =
    Lays (marks_of (map (λ x. at 2 (var_tokens x)) (take l.var-index l.vars))) l.initial.self l.self

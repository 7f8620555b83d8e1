use Rattle.std.proofs.Common.{replicate}
use Rattle.proto_model.specs.Marks.{Puts}
use Rattle.proto_model.proofs.layout.writer.Writer.indent.Given as goal

abbrev pub invariant-loop : goal.invariant-loop
invariant-loop l = Puts (replicate l.counter 32) l.initial.self l.self

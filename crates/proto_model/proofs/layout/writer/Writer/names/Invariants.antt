use Rattle.std.proofs.Common.{map, take}
use Rattle.proto_model.specs.Tokens.{part}
use Rattle.proto_model.specs.Marks.{Lays, words}
use Rattle.proto_model.proofs.layout.writer.Writer.names.Given as goal

abbrev pub invariant-loop-name : goal.invariant-loop-name
invariant-loop-name l = Lays (words (map part (take l.name-index l.names))) l.initial.self l.self

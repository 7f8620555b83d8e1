use Rattle.std.proofs.Common.{map, take}
use Rattle.proto_model.specs.Grammar.{message_tokens}
use Rattle.proto_model.specs.LaidOut.{at}
use Rattle.proto_model.specs.Marks.{Lays, marks_of}
use Rattle.proto_model.proofs.layout.writer.Writer.messages.Given as goal

abbrev pub invariant-loop-message : goal.invariant-loop-message
invariant-loop-message l =
    Lays (marks_of (map (λ x. at 0 (message_tokens x)) (take l.message-index l.messages)))
    l.initial.self l.self

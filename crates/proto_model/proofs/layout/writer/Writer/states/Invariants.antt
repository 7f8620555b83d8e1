use Rattle.std.proofs.Common.{take}
use Rattle.std.specs.List.{flat_map}
use Rattle.proto_model.specs.LaidOut.{state_lines}
use Rattle.proto_model.specs.Marks.{Lays, marks_of}
use Rattle.proto_model.proofs.layout.writer.Writer.states.Given as goal

abbrev pub invariant-loop-state : goal.invariant-loop-state
invariant-loop-state l =
    Lays (marks_of (flat_map state_lines (take l.state-index l.states))) l.initial.self l.self

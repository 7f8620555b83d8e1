use Rattle.std.proofs.Common.{◌∷◌, take, codes}
use Rattle.std.specs.List.{flat_map}
use Rattle.proto_model.specs.Tokens.{part}
use Rattle.proto_model.specs.Grammar.{assign_tokens}
use Rattle.proto_model.specs.Marks.{Lays, words}
use Rattle.proto_model.proofs.layout.writer.Writer.assigns.Given as goal

abbrev pub invariant-loop-assign : goal.invariant-loop-assign
invariant-loop-assign l =
    Lays (words (flat_map (λ b. part (codes ",") ∷ assign_tokens b) (take l.assign-index l.more)))
    l.initial.self l.self

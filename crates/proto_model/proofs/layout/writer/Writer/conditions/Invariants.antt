use Rattle.std.proofs.Common.{◌∷◌, take, codes}
use Rattle.std.specs.List.{flat_map}
use Rattle.proto_model.specs.Tokens.{part}
use Rattle.proto_model.specs.Grammar.{atom_tokens}
use Rattle.proto_model.specs.Marks.{Lays, words}
use Rattle.proto_model.proofs.layout.writer.Writer.conditions.Given as goal

abbrev pub invariant-loop-atom : goal.invariant-loop-atom
invariant-loop-atom l =
    Lays (words (flat_map (λ b. part (codes "and") ∷ atom_tokens b) (take l.atom-index l.more)))
    l.initial.self l.self

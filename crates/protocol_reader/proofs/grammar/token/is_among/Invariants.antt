-- The text is one of the words exactly where it is one of those that are left.
use Rattle.std.proofs.Common.{◌≡◌, length, map}
use Rattle.protocol_reader.specs.Reading.{is_among}
use Rattle.protocol_reader.proofs.grammar.token.is_among.Given as goal

abbrev pub invariant-loop-rest : goal.invariant-loop-rest
invariant-loop-rest l =
    is_among (map (λ w. w.now) l.rest) l.text ≡ is_among (map (λ w. w.now) l.words) l.text

abbrev pub decreases-loop-rest : goal.decreases-loop-rest
decreases-loop-rest l = length l.rest

-- The words so far, and those of what is left, are the words of the line.
use Rattle.std.proofs.Common.{◌≡◌, ◌++◌, map, length}
use Rattle.rv_base.specs.Words.{words}
use Rattle.questions.proofs.words.words_of.Given as goal

abbrev pub invariant-loop-word : goal.invariant-loop-word
invariant-loop-word l = map (λ w. w.now) l.found.items ++ words l.rest ≡ words l.line

abbrev pub decreases-loop-word : goal.decreases-loop-word
decreases-loop-word l = length (words l.rest)

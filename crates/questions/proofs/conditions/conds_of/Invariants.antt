-- The conditions so far, and those of the part so far and of the words to come, are those of all
-- words.
use Rattle.questions.proofs.CondsSoFar.{Follows}
use Rattle.questions.proofs.conditions.conds_of.Given as goal

abbrev pub invariant-loop-place : goal.invariant-loop-place
invariant-loop-place l = Follows l.scope (λ w. w.now) l.words l.conds l.start l.place

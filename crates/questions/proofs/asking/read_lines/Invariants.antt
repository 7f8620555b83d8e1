-- So far the lines that were read were heard, and no call failed or had no memory.
use Rattle.std.proofs.Common.{◌≡◌, ◌-◌, ℕ, List, true}
use Rattle.questions.proofs.AskingEnds.{HasAsked}
use Rattle.questions.proofs.asking.read_lines.Given as goal

abbrev pub invariant-loop-answer : goal.invariant-loop-answer
invariant-loop-answer g l = record {
  done : List (List ℕ);
  asks : HasAsked l.fn.limits l.known (g.Q.Source.left l.fn.source) (g.Q.Source.left l.source)
      l.lines l.asked done;
  same_limits : l.lines.limits ≡ l.fn.limits;
  at_end : l.lines.ended ≡ true → g.Q.Source.ended l.source ≡ true;
  same_faults : g.Q.Source.faults l.source ≡ g.Q.Source.faults l.fn.source;
  same_wants : g.Q.Source.wants l.source ≡ g.Q.Source.wants l.fn.source;
}

-- how many lines may still be read
abbrev pub decreases-loop-answer : goal.decreases-loop-answer
decreases-loop-answer g l = l.fn.limits.lines - l.lines.got

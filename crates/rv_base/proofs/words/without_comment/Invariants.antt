-- So far no comment began.
use Rattle.std.proofs.Common.{◌≡◌, ◌++◌, take, drop}
use Rattle.rv_base.specs.Words.{before_comment}
use Rattle.rv_base.proofs.words.without_comment.Given as goal

abbrev pub invariant-loop-end : goal.invariant-loop-end
invariant-loop-end l = before_comment l.line ≡ take l.end l.line ++ before_comment
    (drop l.end l.line)

-- So far only blanks were passed.
use Rattle.std.proofs.Common.{◌≡◌, drop}
use Rattle.rv_base.specs.Words.{words}
use Rattle.rv_base.proofs.words.without_blanks.Given as goal

abbrev pub invariant-loop-start : goal.invariant-loop-start
invariant-loop-start l = words (drop l.start l.line) ≡ words l.line

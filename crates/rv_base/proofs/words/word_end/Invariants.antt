-- So far no word ended.
use Rattle.std.proofs.Common.{◌≡◌, take, drop}
use Rattle.rv_base.specs.Words.{words}
use Rattle.rv_base.proofs.FirstWord.{words_onto}
use Rattle.rv_base.proofs.words.word_end.Given as goal

abbrev pub invariant-loop-end : goal.invariant-loop-end
invariant-loop-end l = words l.line ≡ words_onto (take l.end l.line) (drop l.end l.line)

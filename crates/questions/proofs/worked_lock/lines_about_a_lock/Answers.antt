-- The line is computed; that its words are no numbers, by their digits.
use Rattle.std.proofs.Common.{refl}
use Rattle.std.specs.Fmt.{digits}
use Rattle.rv_base.specs.Numbers.{number_of}
use Rattle.questions.proofs.worked_lock.lines_about_a_lock.Goals as goal

pub returns-clause-agree : goal.returns-clause-agree
unfolding number_of digits
returns-clause-agree c = refl

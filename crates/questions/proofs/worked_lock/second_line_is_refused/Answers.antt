-- The text is computed; that its words are no numbers, by their digits.
use Rattle.std.proofs.Common.{refl}
use Rattle.std.specs.Fmt.{digits}
use Rattle.rv_base.specs.Numbers.{number_of}
use Rattle.questions.proofs.worked_lock.second_line_is_refused.Goals as goal

pub returns : goal.returns
unfolding number_of digits
returns c = refl

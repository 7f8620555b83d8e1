-- What the words say, and that words which say no step are those of none.
use Rattle.std.proofs.Common.{◌∷◌, sym}
use Rattle.rv_base.specs.Words.{words}
use Rattle.schedule_replay.proofs.EventWords.{has-word}
use Rattle.array_replay.proofs.ArrayWords.{says-array, says-none}
use Rattle.array_replay.proofs.steps.line_of_words.Goals as goal

pub returns-in-Some-clause-says : goal.returns-in-Some-clause-says
returns-in-Some-clause-says c =
    says-array (c.args.first.now ∷ words c.args.rest.now) c.in-Some.step (sym c.in-Some.ensures)

pub returns-in-None-clause-says : goal.returns-in-None-clause-says
returns-in-None-clause-says c = (
  has-word c.args.first.now (words c.args.rest.now),
  says-none (c.args.first.now ∷ words c.args.rest.now) (sym c.in-None.ensures),
)

-- What the words say, and that words which say no event are those of none.
use Rattle.std.proofs.Common.{◌∷◌, sym}
use Rattle.rv_base.specs.Words.{words}
use Rattle.schedule_replay.proofs.EventWords.{has-word, says-event, says-none}
use Rattle.schedule_replay.proofs.events.line_of_words.Goals as goal

pub returns-in-Some-clause-says : goal.returns-in-Some-clause-says
returns-in-Some-clause-says c =
    says-event (c.args.name.now ∷ words c.args.rest.now) c.in-Some.event (sym c.in-Some.ensures)

pub returns-in-None-clause-says : goal.returns-in-None-clause-says
returns-in-None-clause-says c = (
  has-word c.args.name.now (words c.args.rest.now),
  says-none (c.args.name.now ∷ words c.args.rest.now) (sym c.in-None.ensures),
)

-- The two directions of `proofs/RemoteByRemote.antt`.
use Rattle.questions.proofs.RemoteByRemote.{answers_by, by_answers}
use Rattle.questions.proofs.laws.a_question_is_answered_remote_by_remote.Goals as goal

pub returns : goal.returns
returns c = λ config q. (answers_by config q, by_answers config q)

-- What pairs a message is the one reply that is left of it.
use Rattle.request_reply.proofs.Replies.{is_pair-paired_with}
use Rattle.request_reply.proofs.laws.one_reply.Goals as goal

pub returns : goal.returns
returns c = is_pair-paired_with

-- A message goes one way, and has the reply that stands among those of this way.
use Rattle.request_reply.proofs.Replies.{replies_in-replies_of}
use Rattle.request_reply.proofs.laws.replies_are_pairs.Goals as goal

pub returns : goal.returns
returns c = replies_in-replies_of

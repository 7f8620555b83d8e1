-- A reply that is left goes the other way.
use Rattle.request_reply.proofs.Replies.{reply_of-up, reply_of-down}
use Rattle.request_reply.proofs.laws.reply_goes_back.Goals as goal

pub returns : goal.returns
returns c = record { up = reply_of-up; down = reply_of-down }

-- The bytes are as many as the head says.
use Rattle.std.proofs.Common.{arith}
use Rattle.control_store.proofs.HeadOnce.{Begins-count}
use Rattle.control_store.proofs.reading.words_in.Goals as goal

pub split_at-requires : goal.split_at-requires
split_at-requires c =
    let count = Begins-count c.args.bytes.now c.args.head.now c.requires in omega arith

pub returns-clause-length : goal.returns-clause-length
returns-clause-length c =
    let count = Begins-count c.args.bytes.now c.args.head.now c.requires in omega arith

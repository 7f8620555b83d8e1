-- Where memory ran out before, nothing is appended.
use Rattle.std.proofs.Common.{◌≡◌, Err}
use Rattle.proto_model.specs.Texts.{message_text}
use Rattle.schedule_replay.proofs.Chained.{ceased}
use Rattle.schedule_replay.proofs.given_message.put_message_text.Goals as goal

pub returns-in-Err : goal.returns-in-Err
returns-in-Err c =
    let stopped : c.args.so_far ≡ Err c.in-Err.failure = c.in-Err.is in
    ceased (message_text c.args.info.now c.args.value)
    c.args.so_far c.in-Err.failure c.args.out.now.items stopped

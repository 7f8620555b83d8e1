-- Where memory ran out before, nothing is appended.
use Rattle.std.proofs.Common.{◌≡◌, Err}
use Rattle.std.specs.Prelude.{Some}
use Rattle.proto_model.specs.Texts.{rv_line}
use Rattle.schedule_replay.proofs.Chained.{ceased}
use Rattle.schedule_replay.proofs.rv_trace.put_line.Goals as goal

pub returns-in-Err : goal.returns-in-Err
returns-in-Err c =
    let stopped : c.args.so_far ≡ Err c.in-Err.failure = c.in-Err.is in
    ceased (rv_line c.args.body.now c.args.part.now (Some c.args.j))
    c.args.so_far c.in-Err.failure c.args.out.now.items stopped

-- Where memory ran out before, nothing is appended.
use Rattle.std.proofs.Common.{◌≡◌, Err}
use Rattle.proto_model.specs.Texts.{vars_text}
use Rattle.schedule_replay.proofs.Chained.{ceased}
use Rattle.run_replay.proofs.state_lines.put_vars.Goals as goal

pub returns-in-Err : goal.returns-in-Err
returns-in-Err c =
    let stopped : c.args.so_far ≡ Err c.in-Err.failure = c.in-Err.is in
    ceased (vars_text c.args.body.now.vars c.args.vars.now)
    c.args.so_far c.in-Err.failure c.args.out.now.items stopped

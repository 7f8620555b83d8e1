-- Where memory ran out before, nothing is appended.
use Rattle.async_machine.specs.StepText.{step_text}
use Rattle.schedule_replay.proofs.Chained.{ceased}
use Rattle.array_replay.proofs.array_trace.put_step_text.Goals as goal

pub returns-in-Err : goal.returns-in-Err
returns-in-Err c =
    ceased (step_text c.args.step) c.args.so_far c.in-Err.failure c.args.out.now.items c.in-Err.is

-- The machine stands where the step leads, and its wires are as the step leaves them.
use Rattle.faulty_link.specs.Wire.{wire_lists}
use Rattle.proto_model.proofs.Continuing.{whole}
use Rattle.schedule_replay.proofs.Chained.{whole_there}
use Rattle.run_replay.specs.PlayedStep.{unclaimed}
use Rattle.run_replay.specs.RunTrace.{step_block}
use Rattle.lossy_replay.proofs.WiresAfter.{step-leads}
use Rattle.lossy_replay.proofs.lossy_player.take_step.Goals as goal

pub returns-clause-after : goal.returns-clause-after
returns-clause-after c =
    let took = c.play_step-written.ensures.after in
    step-leads c.args.machine.now c.play_step-written.new.taker c.args.step took.table took.slots
    took.stepped took.leads took.effect

pub returns-clause-tells : goal.returns-clause-tells
returns-clause-tells c =
    let block = step_block (unclaimed wire_lists c.args.machine.now) c.args.step in
    let start = c.args.out.now.items in
    whole_there block c.play_step-written.result.1 start c.play_step-written.new.out.items
    (whole block c.play_step-written.result.1 start c.play_step-written.new.out.items c.play_step-written.ensures.tells)
